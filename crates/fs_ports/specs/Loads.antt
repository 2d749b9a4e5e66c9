-- What is told of files, and what a load does.
use Rattle.std.specs.Prelude.{◌≡◌, ℕ, ◌+◌, ◌≤◌, List, length, Option, None, Some}
use Rattle.fs_ports.specs.Counts.{raised}
use Rattle.fs_ports.specs.declared.files.Load.{Load}
use Rattle.fs_ports.specs.declared.files.Load.TheVariants.{Got, Absent, Failed}

-- the loads that failed, and those of files that were not there
pub record LoadCounts : Type 0 where
  pub faults : ℕ
  pub absences : ℕ

-- the answer of the next load of a name, out of those of all its loads to come
abbrev pub next : (List ℕ → ℕ → Option Load) → List ℕ → Option Load
next loads name = loads name 0

-- one load of a name is over, and of those behind it is told what was told before
abbrev pub MovesOn : (List ℕ → ℕ → Option Load) → (List ℕ → ℕ → Option Load) → List ℕ → Type 0
MovesOn old new name = (behind : ℕ) → new name behind ≡ old name (behind + 1)

-- the answer is the one that is told, where one is
abbrev pub Tells : Option Load → Load → Type 0
Tells None answer = Unit {0}
Tells (Some told) answer = answer ≡ told

-- what a load did to the counts, by its answer
abbrev pub Counted : LoadCounts → LoadCounts → Load → Type 0
Counted old new (Got bytes) = (length bytes ≤ 1048577) × (new ≡ old)
Counted old new Absent = new ≡ record old { absences = raised old.absences }
Counted old new Failed = new ≡ record old { faults = raised old.faults }
