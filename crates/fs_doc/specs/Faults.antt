-- What is wrong with a document, and how a call answers what a reading function says.
use Rattle.std.specs.Prelude.{◌≡◌, ◌⊎◌, ℕ, List, Result, Ok, Err, codes}
use Rattle.fs_doc.specs.declared.fault.DocKind.{DocKind}
use Rattle.fs_doc.specs.declared.fault.DocKind.TheVariants as kind
use Rattle.fs_doc.specs.declared.fault.DocFault.{DocFault}
use Rattle.fs_doc.specs.declared.fault.DocStop.{DocStop}
use Rattle.fs_doc.specs.declared.fault.DocStop.TheVariants as stop

-- the name of a kind
unfoldable pub kind_name : DocKind → List ℕ
kind_name kind.TooLarge = codes "TooLarge"
kind_name kind.Truncated = codes "Truncated"
kind_name kind.BadTag = codes "BadTag"
kind_name kind.BadAttribute = codes "BadAttribute"
kind_name kind.BadEntity = codes "BadEntity"
kind_name kind.Nested = codes "Nested"
kind_name kind.TextContent = codes "TextContent"
kind_name kind.TimeAttribute = codes "TimeAttribute"
kind_name kind.ExpressionVariable = codes "ExpressionVariable"
kind_name kind.UnknownBreak = codes "UnknownBreak"
kind_name kind.UnknownElement = codes "UnknownElement"
kind_name kind.BadSetting = codes "BadSetting"
kind_name kind.Memory = codes "Memory"

-- the fault of a kind at an offset
abbrev pub fault_at : ℕ → DocKind → DocFault
fault_at at kind = record { at = at; kind = kind }

-- nothing is read but this fault
abbrev pub fault : {X : Type 0} → ℕ → DocKind → Result X DocFault
fault at kind = Err (fault_at at kind)

-- what is read, or the fault of this kind at this offset
abbrev pub or_at : {X : Type 0} → ℕ → Result X DocKind → Result X DocFault
or_at at (Ok x) = Ok x
or_at at (Err kind) = fault at kind

-- want of memory says nothing of what is read; any other stop is the fault that is read
abbrev pub DocStops : {Y : Type 0} → DocStop → Result Y DocFault → Type 0
DocStops stop.Memory read = Unit {0}
DocStops (stop.Fault f) read = read ≡ Err f

-- what is answered, as it is seen, is what is read; or the same fault, where memory was not wanting
abbrev pub DocGives : {X Y : Type 0} → (X → Y) → Result X DocStop → Result Y DocFault → Type 0
DocGives view (Ok x) read = read ≡ Ok (view x)
DocGives view (Err e) read = DocStops e read

-- the same, where want of memory is a fault of its own with the offset 0
abbrev pub ConfigGives : {X Y : Type 0} → (X → Y) → Result X DocFault → Result Y DocFault → Type 0
ConfigGives view (Ok x) read = read ≡ Ok (view x)
ConfigGives view (Err f) read = (f ≡ record { at = 0; kind = kind.Memory }) ⊎ (read ≡ Err f)
