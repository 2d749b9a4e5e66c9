-- What a link and files in memory tell.
use Rattle.std.specs.Prelude.{ℕ, ◌==◌, ◌+◌, ◌-◌, ◌<◌, ◌≤◌, min, nat_lt, Bool, false, not, if◌then◌else◌}
use Rattle.std.specs.Prelude.{List, [], length, take, filter, slice_get, Option, None, Some}
use Rattle.std.specs.Str.{bytes_eq}
use Rattle.std.specs.List.{list_any}
use Rattle.std.specs.Set.{remove_key}
use Rattle.std.specs.Option.{option_map}
use Rattle.fs_ports.specs.Counts.{raised}
use Rattle.fs_ports.specs.Ports.{Input, Output, IsNewLink}
use Rattle.fs_ports.specs.Loads.{LoadCounts}
use Rattle.fs_ports.specs.declared.hold.Reach.{Reach}
use Rattle.fs_ports.specs.declared.hold.Reach.TheVariants.{To, NotYet, Over}
use Rattle.fs_ports.specs.declared.files.Load.{Load}
use Rattle.fs_ports.specs.declared.files.Load.TheVariants.{Got, Absent, Failed}

-- a link in memory: the bytes taken, left and written, the calls that failed, and whether something may hold up its reads
pub record Tape : Type 0 where
  pub taken : List ℕ
  pub left : List ℕ
  pub read_faults : ℕ
  pub written : List ℕ
  pub write_faults : ℕ
  pub is_held : Bool

-- a link of these bytes, before any call
abbrev pub new_tape : List ℕ → Tape
new_tape input = record { taken = []; left = input; read_faults = 0; written = []; write_faults = 0; is_held = false }

-- the bytes left, which a link that is held does not tell, as it may drop them
abbrev pub told_left : Bool → List ℕ → Option (List ℕ)
told_left is_held left = if is_held then None else Some left

abbrev pub tape_input : Tape → Input
tape_input tape = record {
  taken = Some tape.taken;
  left = told_left tape.is_held tape.left;
  faults = tape.read_faults;
  waits = not tape.is_held;
}

abbrev pub tape_output : Tape → Output
tape_output tape = record { written = Some tape.written; faults = tape.write_faults }

-- nothing was taken from this link or written to it yet, and no call failed
abbrev pub IsNewTape : Tape → Type 0
IsNewTape tape = IsNewLink (tape_input tape) (tape_output tape)

-- where a read ends that would give the bytes between two places: it gives some if there are any
abbrev pub Reaches : ℕ → ℕ → Reach → Type 0
Reaches at end (To to) = (at ≤ to) × (to ≤ end) × (at < end → at < to)
Reaches at end NotYet = at < end
Reaches at end Over = at < end

-- links in memory that are handed out in turn: those to come, and the calls that failed
pub record Queue : Type 0 where
  pub links : List Tape
  pub faults : ℕ

-- these links, before any call
abbrev pub new_queue : List Tape → Queue
new_queue links = record { links = links; faults = 0 }

-- files in memory: the names and bytes of the loads to come, the numbers of the loads that fail and the loads so far, and the same of
-- builds that find a pattern too large
pub record Shelf : Type 0 where
  pub held : List (List ℕ × List ℕ)
  pub failed : List ℕ
  pub loads : ℕ
  pub counts : LoadCounts
  pub too_large : List ℕ
  pub builds : ℕ
  pub sizes : ℕ

-- files of these names and bytes, before any load and any build
abbrev pub new_shelf : List (List ℕ × List ℕ) → List ℕ → List ℕ → Shelf
new_shelf held failed too_large = record {
  held = held;
  failed = failed;
  loads = 0;
  counts = record { faults = 0; absences = 0 };
  too_large = too_large;
  builds = 0;
  sizes = 0;
}

-- whether a file has this name
abbrev pub is_named : List ℕ → List ℕ × List ℕ → Bool
is_named name file = bytes_eq file.0 name

-- the bytes that the load of a name behind so many others of it finds: the files of the name are its loads in order, the last one again
-- and again
abbrev pub file_bytes : List (List ℕ × List ℕ) → List ℕ → ℕ → Option (List ℕ)
file_bytes files name behind =
    let same = filter (is_named name) files in option_map (λ file. file.1) (slice_get same (min behind (length same - 1)))

-- the files once a load of a name is over: the first one of the name is gone, unless it is the last one
abbrev pub moved_on : List (List ℕ × List ℕ) → List ℕ → List (List ℕ × List ℕ)
moved_on files name = if nat_lt 1 (length (filter (is_named name) files)) then remove_key (is_named name) files else files

-- the same once a load of a name is over
abbrev pub loaded : Shelf → List ℕ → Shelf
loaded shelf name = record shelf { held = moved_on shelf.held name; loads = raised shelf.loads }

-- the answer of a load that does not fail: at most 1,048,577 bytes are given
abbrev pub load_of : Option (List ℕ) → Load
load_of None = Absent
load_of (Some bytes) = Got (take 1048577 bytes)

-- the answer of the load of a name behind so many others of it
abbrev pub load_behind : Shelf → List ℕ → ℕ → Load
load_behind shelf name behind =
    if list_any (λ n. n == raised (shelf.loads + behind)) shelf.failed then Failed else load_of (file_bytes shelf.held name behind)
