-- What is wrong with a dial string, and how a call answers what a reading function says.
use Rattle.std.specs.Prelude.{◌≡◌, ◌⊎◌, ℕ, List, Result, Ok, Err, codes}
use Rattle.fs_dial.specs.declared.fault.DialKind.{DialKind}
use Rattle.fs_dial.specs.declared.fault.DialKind.TheVariants as kind
use Rattle.fs_dial.specs.declared.fault.DialFault.{DialFault}
use Rattle.fs_dial.specs.declared.fault.DialStop.{DialStop}
use Rattle.fs_dial.specs.declared.fault.DialStop.TheVariants as stop

-- the name of a kind
unfoldable pub kind_name : DialKind → List ℕ
kind_name kind.Nothing = codes "Nothing"
kind_name kind.EmptyLeg = codes "EmptyLeg"
kind_name kind.Unclosed = codes "Unclosed"
kind_name kind.BadPair = codes "BadPair"
kind_name kind.TooMany = codes "TooMany"
kind_name kind.Memory = codes "Memory"

-- the fault of a kind at an offset
abbrev pub fault_at : ℕ → DialKind → DialFault
fault_at at kind = record { at = at; kind = kind }

-- nothing is read but this fault
abbrev pub fault : {X : Type 0} → ℕ → DialKind → Result X DialFault
fault at kind = Err (fault_at at kind)

-- want of memory says nothing of what is read; any other stop is the fault that is read
abbrev pub StopsSo : {Y : Type 0} → DialStop → Result Y DialFault → Type 0
StopsSo stop.Memory read = Unit {0}
StopsSo (stop.Fault f) read = read ≡ Err f

-- what is answered, as it is seen, is what is read; or the same fault, where memory was not wanting
abbrev pub Answers : {X Y : Type 0} → (X → Y) → Result X DialStop → Result Y DialFault → Type 0
Answers view (Ok x) read = read ≡ Ok (view x)
Answers view (Err e) read = StopsSo e read

-- the same, where want of memory is a fault of its own with the offset 0
abbrev pub Tells : {X Y : Type 0} → (X → Y) → Result X DialFault → Result Y DialFault → Type 0
Tells view (Ok x) read = read ≡ Ok (view x)
Tells view (Err f) read = (f ≡ record { at = 0; kind = kind.Memory }) ⊎ (read ≡ Err f)
