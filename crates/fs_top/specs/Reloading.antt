-- What a server loads again, and what its journal notes of that.
use Rattle.std.specs.Prelude.{◌≡◌, ℕ, ◌+◌, ◌<◌, nat_lt, if◌then◌else◌, Bool, true, false, List, [], ◌∷◌, ◌++◌, Option, None, Some, slice_get, count_by}
use Prim.Native.Nat.{suc}
use mathlib.Core.Option.{some}
use lib.ListN.{get_elem?}
use Rattle.fs_ports.specs.Loads.{LoadCounts}
use Rattle.fs_ports.specs.declared.files.Load.{Load}
use Rattle.fs_book.specs.Counts.{times}
use Rattle.fs_book.specs.Passes.{seen, mine, met}
use Rattle.fs_machine.specs.declared.entry.Entry.{Entry}
use Rattle.fs_machine.specs.declared.note.LoadNote.{LoadNote}
use Rattle.fs_machine.specs.declared.note.LoadNote.TheVariants.{PatternTooLarge, Absent, Failed}
use Rattle.fs_machine.specs.Entries.{is_load}
use Rattle.fs_conn.specs.Play.{note_in}
use Rattle.fs_session.specs.Loading.{Store, IsAsBefore, IsLoaded, IsLost}
use Rattle.fs_top.specs.declared.desk.Desk.{Desk}
use Rattle.fs_top.specs.Dials.{HasRisen}

-- ---- what came of loads

-- so much is told of the files of a name
abbrev pub store : (ℕ → Option Load) → LoadCounts → ℕ → Store
store loads counts sizes = record { loads = loads; counts = counts; sizes = sizes }

-- so much is told behind the first load, by which nothing was counted
abbrev pub behind_first : Store → Store
behind_first first = record first { loads = λ k. first.loads (k + 1) }

-- nothing was loaded, and nothing counted
pub record IsUntouched (old new : Store) : Type 0 where
  pub loads : IsAsBefore old new
  pub counts : new.counts ≡ old.counts
  pub sizes : new.sizes ≡ old.sizes

-- what came of loads that were made one after another: of each there is a note, or none
abbrev pub CameOf : List (Option LoadNote) → Store → Store → Type 0
CameOf [] old new = IsUntouched old new
CameOf (Some note ∷ later) old new = (mid : Store) × IsLoaded old mid note × CameOf later mid new
CameOf (None ∷ later) old new = (mid : Store) × IsLost old mid × CameOf later mid new

-- the notes alone
abbrev pub notes_of : List (Option LoadNote) → List LoadNote
notes_of [] = []
notes_of (Some note ∷ later) = note ∷ notes_of later
notes_of (None ∷ later) = notes_of later

-- These are the notes of loads that were made one after another, in their order, each of a load of its own: of what the files told that this
-- load would answer, and of what its document is. Of some loads nothing may be noted. The counts are what these loads made of them.
pub record NotesLoads (old new : Store) (notes : List LoadNote) : Type 0 where
  pub each : List (Option LoadNote)
  pub came : CameOf each old new
  pub noted : notes ≡ notes_of each

-- a note tells that the file could not be read, that it was absent, or that a pattern of it was too large
abbrev pub tells_failed : LoadNote → Bool
tells_failed Failed = true
tells_failed _ = false

abbrev pub tells_absent : LoadNote → Bool
tells_absent Absent = true
tells_absent _ = false

abbrev pub tells_too_large : LoadNote → Bool
tells_too_large (PatternTooLarge text extension condition) = true
tells_too_large _ = false

-- at most as many notes tell so as the count of that has risen
pub record AreCounted (old new : Store) (notes : List LoadNote) : Type 0 where
  pub failed : HasRisen (count_by tells_failed notes) old.counts.faults new.counts.faults
  pub absent : HasRisen (count_by tells_absent notes) old.counts.absences new.counts.absences
  pub too_large : HasRisen (count_by tells_too_large notes) old.sizes new.sizes

-- ---- what is noted at places of a journal

-- the place is one of these
abbrev pub is_among : ℕ → List ℕ → Bool
is_among place places = nat_lt 0 (times place places)

-- the notes of what stands at these places of a journal, of which this is what stands from a place on
abbrev pub noted_from : ℕ → List Entry → List ℕ → List LoadNote
noted_from at [] places = []
noted_from at (entry ∷ journal) places = (if is_among at places then note_in entry.act else []) ++ noted_from (suc at) journal places

abbrev pub noted_at : List Entry → List ℕ → List LoadNote
noted_at journal places = noted_from 0 journal places

-- what a desk noted came of the loads since its files were as they were first
pub record HasNoted (first now : Store) (desk : Desk) : Type 0 where
  pub reloads : NotesLoads first now (noted_at (seen desk.pass) (mine desk.pass))
  pub alone : met desk.pass ≡ []

module _ (journal : List Entry) (lists : List (List ℕ)) where
  -- no entry at a place of the lists notes a load
  abbrev pub NoneNotes : Type 0
  NoneNotes =
      (k : ℕ) (places : List ℕ) → get_elem? lists k ≡ some places → (p : ℕ) (entry : Entry) → 0 < times p places
      → slice_get journal p ≡ Some entry → is_load entry.act ≡ false

  -- each that does stands at one of these
  abbrev pub AllNoteAt : List ℕ → Type 0
  AllNoteAt own =
      (k : ℕ) (places : List ℕ) → get_elem? lists k ≡ some places → (p : ℕ) (entry : Entry) → 0 < times p places
      → slice_get journal p ≡ Some entry → is_load entry.act ≡ true → 0 < times p own

  -- all that note loads stand at the places of one of the lists, and what they note came of the loads in between
  pub record Notes (first last : Store) : Type 0 where
    pub at : ℕ
    pub places : List ℕ
    pub there : get_elem? lists at ≡ some places
    pub all : AllNoteAt places
    pub reloads : NotesLoads first last (noted_at journal places)
