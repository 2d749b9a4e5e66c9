-- What is read is what is spelt, from the text of a value up to a whole document.
use Rattle.std.specs.Prelude.{◌≡◌, ◌⊎◌, ℕ, Bool, List, ◌++◌, None, Some, Ok, Err, map}
use Rattle.fs_text.specs.Texts.{Text}
use Rattle.fs_xml.specs.declared.attribute.Ending.{Ending}
use Rattle.fs_xml.specs.declared.stop.TagStop.TheVariants as stop
use Rattle.fs_xml.specs.Attributes.{Written, Has, part_at}
use Rattle.fs_xml.specs.Entities.{value_text}
use Rattle.fs_xml.specs.Markup.{Mark, Comment, End, mark_at}
use Rattle.fs_xml.specs.Tags.{BodyText}
use Rattle.fs_doc.specs.declared.content.Content.{Content}
use Rattle.fs_doc.specs.declared.fault.DocFault.{DocFault}
use Rattle.fs_doc.specs.declared.element.Level.{Level}
use Rattle.fs_doc.specs.Limits.{IsWithin}
use Rattle.fs_doc.specs.Reading.{Configuration, config_of, element_read}
use Rattle.fs_spelling.specs.Documents.{Begins, Spells}
use Rattle.fs_spelling.specs.Marks.{IsCut, IsBad}
use Rattle.fs_spelling.specs.Faults.{WrongElement, HasFault}
use Rattle.fs_spelling.specs.Readings.{pair_of, ReadsAttribute, TakesAttribute, ReadsTag, TakesMark}
use Rattle.fs_spelling.specs.Tags.{Pair, IsAttribute, IsComment, IsEndTag, IsTag}
use Rattle.fs_spelling.specs.Values.{SpellsValue}

-- ---- values

-- the text that is read of a value is one that it says
abbrev pub ValueReadIsSpelt : Type 0
ValueReadIsSpelt = (raw : Bool) (end : ℕ) (value text : List ℕ) → value_text raw end value ≡ Ok text → SpellsValue raw value text

-- a text that a value says is read of it
abbrev pub ValueSpeltIsRead : Type 0
ValueSpeltIsRead = (raw : Bool) (end : ℕ) (value text : List ℕ) → SpellsValue raw value text → value_text raw end value ≡ Ok text

-- a value says at most one text
abbrev pub ValueSpellsOne : Type 0
ValueSpellsOne = (raw : Bool) (value some other : List ℕ) → SpellsValue raw value some → SpellsValue raw value other → some ≡ other

-- ---- attributes

-- what is read as an attribute spells it
abbrev pub AttributeReadIsSpelt : Type 0
AttributeReadIsSpelt =
    (end : ℕ) (text rest : List ℕ) (a : Written) → part_at end text ≡ Ok (Has a, rest) → TakesAttribute text rest (pair_of a)

-- what spells an attribute is read as it, whatever follows
abbrev pub AttributeSpeltIsRead : Type 0
AttributeSpeltIsRead = (end : ℕ) (bytes rest : List ℕ) (pair : Pair) → IsAttribute bytes pair → ReadsAttribute end (bytes ++ rest) rest pair

-- ---- comments and tags

-- what is read as markup spells it
abbrev pub MarkReadIsSpelt : Type 0
MarkReadIsSpelt = (end : ℕ) (text : List ℕ) (mark : Mark) (rest : List ℕ) → mark_at end text ≡ Ok (mark, rest) → TakesMark mark text rest

-- what spells a comment is read as one, whatever follows
abbrev pub CommentSpeltIsRead : Type 0
CommentSpeltIsRead = (end : ℕ) (bytes rest : List ℕ) → IsComment bytes → mark_at end (bytes ++ rest) ≡ Ok (Comment, rest)

-- what spells an end tag is read as it, whatever follows
abbrev pub EndTagSpeltIsRead : Type 0
EndTagSpeltIsRead = (end : ℕ) (bytes name rest : List ℕ) → IsEndTag bytes name → mark_at end (bytes ++ rest) ≡ Ok (End name, rest)

-- what spells a tag is read as it, whatever follows
abbrev pub TagSpeltIsRead : Type 0
TagSpeltIsRead =
    (end : ℕ) (bytes name : List ℕ) (pairs : List Pair) (ending : Ending) (rest : List ℕ) →
    IsTag bytes name pairs ending → ReadsTag end (bytes ++ rest) name pairs ending rest

-- ---- elements

-- an element that is read begins as it is spelt, and none of its attributes is malformed
abbrev pub ElementReadIsSpelt : Type 0
ElementReadIsSpelt =
    (at : ℕ) (outer : Level) (c : Content) (name : Text) (body : BodyText) (inner : Level) (d : Content) →
    element_read at name body outer c ≡ Ok (inner, d) → (body.malformed ≡ None) × Begins outer c name (map pair_of body.attrs) inner d

-- an element that is spelt is read as it begins
abbrev pub ElementSpeltIsRead : Type 0
ElementSpeltIsRead =
    (at : ℕ) (outer : Level) (c d : Content) (name : Text) (body : BodyText) (inner : Level) →
    body.malformed ≡ None → Begins outer c name (map pair_of body.attrs) inner d → element_read at name body outer c ≡ Ok (inner, d)

-- ---- documents

-- what is read of bytes is spelt by them
abbrev pub DocumentReadIsSpelt : Type 0
DocumentReadIsSpelt = (bytes : Text) (c : Configuration) → config_of bytes ≡ Ok c → Spells bytes c

-- what bytes spell is read of them
abbrev pub DocumentSpeltIsRead : Type 0
DocumentSpeltIsRead = (bytes : Text) (c : Configuration) → Spells bytes c → config_of bytes ≡ Ok c

-- bytes spell at most one configuration
abbrev pub DocumentSpellsOne : Type 0
DocumentSpellsOne = (bytes : Text) (some other : Configuration) → Spells bytes some → Spells bytes other → some ≡ other

-- a configuration that is spelt keeps the limits
abbrev pub SpeltIsWithin : Type 0
SpeltIsWithin = (bytes : Text) (c : Configuration) → Spells bytes c → IsWithin c

-- ---- faults

-- markup behind a `<` in an element is read as cut short exactly where it is
abbrev pub CutIsRead : Type 0
CutIsRead =
    (end : ℕ) (name text : Text) →
    (mark_at end text ≡ Err stop.Cut → IsCut (Some name) text) × (IsCut (Some name) text → mark_at end text ≡ Err stop.Cut)

-- and as bad exactly where it is
abbrev pub BadIsRead : Type 0
BadIsRead =
    (end : ℕ) (name text : Text) →
    (mark_at end text ≡ Err stop.Bad → IsBad (Some name) text) × (IsBad (Some name) text → mark_at end text ≡ Err stop.Bad)

-- the tag of an element is read as the fault for which it is wrong
abbrev pub WrongElementIsRead : Type 0
WrongElementIsRead =
    (at : ℕ) (outer : Level) (c : Content) (name : Text) (body : BodyText) (f : DocFault) →
    (element_read at name body outer c ≡ Err f → WrongElement at outer c name body f)
    × (WrongElement at outer c name body f → element_read at name body outer c ≡ Err f)

-- the fault that is told of bytes is one that they have
abbrev pub FaultToldIsHad : Type 0
FaultToldIsHad = (bytes : Text) (f : DocFault) → config_of bytes ≡ Err f → HasFault bytes f

-- a fault that bytes have is told of them
abbrev pub FaultHadIsTold : Type 0
FaultHadIsTold = (bytes : Text) (f : DocFault) → HasFault bytes f → config_of bytes ≡ Err f

-- bytes have at most one fault
abbrev pub BytesHaveOneFault : Type 0
BytesHaveOneFault = (bytes : Text) (some other : DocFault) → HasFault bytes some → HasFault bytes other → some ≡ other

-- bytes spell a configuration or have a fault, and not both
abbrev pub SpeltOrFaulty : Type 0
SpeltOrFaulty =
    (bytes : Text) →
    (((c : Configuration) × Spells bytes c) ⊎ ((f : DocFault) × HasFault bytes f))
    × ((c : Configuration) (f : DocFault) → Spells bytes c → HasFault bytes f → ⊥)
