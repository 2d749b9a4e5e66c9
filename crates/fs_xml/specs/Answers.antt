-- How a call answers what a reading function says, where memory may be wanting.
use Rattle.std.specs.Prelude.{◌≡◌, Result, Ok, Err}
use Rattle.fs_xml.specs.declared.stop.TagStop.{TagStop}
use Rattle.fs_xml.specs.declared.stop.MarkupStop.{MarkupStop}
use Rattle.fs_xml.specs.declared.stop.MarkupStop.TheVariants as markup
use Rattle.fs_xml.specs.declared.stop.ValueFault.{ValueFault}
use Rattle.fs_xml.specs.declared.stop.ValueStop.{ValueStop}
use Rattle.fs_xml.specs.declared.stop.ValueStop.TheVariants as value

-- want of memory says nothing of what is read; any other stop is the fault that is read
abbrev pub MarkupStops : {Y : Type 0} → MarkupStop → Result Y TagStop → Type 0
MarkupStops markup.Memory read = Unit {0}
MarkupStops (markup.Tag stop) read = read ≡ Err stop

-- what is answered, as it is seen, is what is read; or the same fault, where memory was not wanting
abbrev pub MarkupGives : {X Y : Type 0} → (X → Y) → Result X MarkupStop → Result Y TagStop → Type 0
MarkupGives view (Ok x) read = read ≡ Ok (view x)
MarkupGives view (Err e) read = MarkupStops e read

abbrev pub ValueStops : {Y : Type 0} → ValueStop → Result Y ValueFault → Type 0
ValueStops value.Memory read = Unit {0}
ValueStops (value.Fault fault) read = read ≡ Err fault

abbrev pub ValueGives : {X Y : Type 0} → (X → Y) → Result X ValueStop → Result Y ValueFault → Type 0
ValueGives view (Ok x) read = read ≡ Ok (view x)
ValueGives view (Err e) read = ValueStops e read
