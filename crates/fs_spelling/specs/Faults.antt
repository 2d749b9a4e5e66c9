-- Which fault a document has: what stands before it is well spelt, and what stands there is wrong.
use Rattle.std.specs.Prelude.{◌≡◌, ◌≢◌, ◌==◌, ◌<◌, ◌≤◌, ◌⊎◌, ℕ, true, false, List, [], ◌∷◌, ◌++◌, map, Option, None, Some, Ok, Err}
use Rattle.std.specs.Prelude.{length, codes}
use Rattle.std.specs.List.{list_any}
use Rattle.fs_text.specs.Words.{is_byte}
use Rattle.fs_text.specs.Texts.{Text}
use Rattle.fs_vars.specs.Pairs.{Pairs}
use Rattle.fs_xml.specs.Bytes.{is_blank, offset}
use Rattle.fs_xml.specs.Attributes.{Written}
use Rattle.fs_xml.specs.Entities.{entity}
use Rattle.fs_xml.specs.Tags.{BodyText}
use Rattle.fs_xml.specs.declared.attribute.Ending.TheVariants.{Opens}
use Rattle.fs_doc.specs.declared.fault.DocKind.{DocKind}
use Rattle.fs_doc.specs.declared.fault.DocKind.TheVariants as kind
use Rattle.fs_doc.specs.declared.fault.DocFault.{DocFault}
use Rattle.fs_doc.specs.declared.element.Level.{Level}
use Rattle.fs_doc.specs.declared.element.Level.TheVariants as level
use Rattle.fs_doc.specs.declared.element.Kind.{Kind}
use Rattle.fs_doc.specs.declared.content.Content.{Content}
use Rattle.fs_doc.specs.Faults.{fault_at}
use Rattle.fs_doc.specs.Elements.{kind_in, has, has_needed, is_foreign}
use Rattle.fs_doc.specs.Attributes.{Tagged, is_timed, value_fault, fault_offset}
use Rattle.fs_doc.specs.Contents.{new_content, element_begun}
use Rattle.fs_doc.specs.Reading.{text_kind, is_empty_level}
use Rattle.fs_spelling.specs.Values.{SpellsValue}
use Rattle.fs_spelling.specs.Tags.{Pair, AreBlank, IsTag, IsEndTag, IsComment}
use Rattle.fs_spelling.specs.Readings.{pair_of}
use Rattle.fs_spelling.specs.Marks.{IsStart, IsCut, IsBad}
use Rattle.fs_spelling.specs.Documents.{tag_of, text_with_globals, Say, Begins, IsFiller, Inside, LacksEnd, IsDeclared}

-- ---- an attribute

-- what stands behind an `&` up to the end of a value is no entity: no `;` stands in it, or what stands before that has no character
abbrev pub IsNoEntity : Text → Type 0
IsNoEntity text =
    (list_any (is_byte 59) text ≡ false)
    ⊎ ((name more : Text) × (text ≡ name ++ (59 ∷ more)) × (list_any (is_byte 59) name ≡ false) × (entity name ≡ None))

-- an attribute is wrong, where those before it in a tag at this offset say these texts: its name stands among them, it is one by which
-- the time decides, its value is wrong behind what says a text, or the text of its value is refused
pub data WrongAttribute (at : ℕ) (e : Tagged) (texts : Pairs) (a : Written) : (f : DocFault) → Type 0 where
  Doubled : has texts a.name ≡ true → WrongAttribute at e texts a (fault_at a.at kind.BadAttribute)
  Timed : has texts a.name ≡ false → is_timed e.kind a.name ≡ true → WrongAttribute at e texts a (fault_at a.at kind.TimeAttribute)
  RawMark : (front rest text : Text) → has texts a.name ≡ false → is_timed e.kind a.name ≡ false → is_foreign e.kind ≡ false
      → a.value ≡ front ++ (60 ∷ rest) → SpellsValue false front text
      → WrongAttribute at e texts a (fault_at a.at kind.BadAttribute)
  NoEntity : (front rest text : Text) → has texts a.name ≡ false → is_timed e.kind a.name ≡ false → a.value ≡ front ++ (38 ∷ rest)
      → SpellsValue (is_foreign e.kind) front text → IsNoEntity rest
      → WrongAttribute at e texts a (fault_at (offset a.end (38 ∷ rest)) kind.BadEntity)
  Refused : (decoded : Text) (k : DocKind) → has texts a.name ≡ false → is_timed e.kind a.name ≡ false
      → SpellsValue (is_foreign e.kind) a.value decoded → value_fault e a.name (text_with_globals e decoded) ≡ Some k
      → WrongAttribute at e texts a (fault_at (fault_offset at a.at k) k)

-- ---- an element

-- these attributes of an element's tag say these texts; all that the tag has are known where one looks at another
abbrev pub SayIn : Kind → Content → BodyText → List Written → Pairs → Type 0
SayIn element c body attrs texts = Say (tag_of element c.globals.pairs (map pair_of body.attrs)) [] (map pair_of attrs) texts

-- the tag of an element is wrong, whose `<` stands at this offset: it may not stand here; or it may, and the attributes before one say
-- texts and that one is wrong; or they all say texts and then one is malformed, a needed one is missing, or the element is refused
pub data WrongElement (at : ℕ) (outer : Level) (c : Content) (name : Text) (body : BodyText) : (f : DocFault) → Type 0 where
  Misplaced : (k : DocKind) → kind_in outer c.done name ≡ Err k → WrongElement at outer c name body (fault_at at k)
  InAttribute : (element : Kind) (before behind : List Written) (a : Written) (texts : Pairs) (f : DocFault)
      → kind_in outer c.done name ≡ Ok element → body.attrs ≡ before ++ (a ∷ behind) → SayIn element c body before texts
      → WrongAttribute at (tag_of element c.globals.pairs (map pair_of body.attrs)) texts a f → WrongElement at outer c name body f
  Malformed : (element : Kind) (texts : Pairs) (place : ℕ) → kind_in outer c.done name ≡ Ok element
      → SayIn element c body body.attrs texts → body.malformed ≡ Some place
      → WrongElement at outer c name body (fault_at place kind.BadAttribute)
  Missing : (element : Kind) (texts : Pairs) → kind_in outer c.done name ≡ Ok element → SayIn element c body body.attrs texts
      → body.malformed ≡ None → has_needed element texts ≡ false → WrongElement at outer c name body (fault_at at kind.BadAttribute)
  Unbegun : (element : Kind) (texts : Pairs) (k : DocKind) → kind_in outer c.done name ≡ Ok element
      → SayIn element c body body.attrs texts → body.malformed ≡ None → has_needed element texts ≡ true
      → element_begun element texts c ≡ Err k → WrongElement at outer c name body (fault_at at k)

-- ---- what stands next

-- the markup behind a `<` at this offset is wrong, in a document of so many bytes: it is cut short, in the document or behind it; none
-- begins so; it is a comment where nothing may stand, an end tag of another name, or the tag of an element that is wrong
pub data WrongMark (end at : ℕ) (outer : Level) (around : Option Text) (c : Content) : (text : Text) (f : DocFault) → Type 0 where
  Cut : (text : Text) → IsCut around text → c.done ≡ false → WrongMark end at outer around c text (fault_at end kind.Truncated)
  CutBehind : (text : Text) → IsCut around text → c.done ≡ true → WrongMark end at outer around c text (fault_at at kind.BadTag)
  NoMark : (text : Text) → IsBad around text → WrongMark end at outer around c text (fault_at at kind.BadTag)
  RemarkWithin : (mark rest : Text) → is_empty_level outer ≡ true → IsComment mark
      → WrongMark end at outer around c (mark ++ rest) (fault_at at kind.BadTag)
  OtherEnd : (name other mark rest : Text) → around ≡ Some name → IsEndTag mark other → name ≢ other
      → WrongMark end at outer around c (mark ++ rest) (fault_at at kind.BadTag)
  OfElement : (mark rest name : Text) (body : BodyText) (f : DocFault) → IsStart end mark rest name body
      → WrongElement at outer c name body f → WrongMark end at outer around c (mark ++ rest) f

-- what stands next is wrong, up to the end of a document of so many bytes, where c was read before it and around it the element of this
-- name is open, or none: text that may not stand here, the end of the bytes before that of the document, or markup that is wrong
pub data WrongNext (end : ℕ) (outer : Level) (around : Option Text) (c : Content) : (text : Text) (f : DocFault) → Type 0 where
  Stray : (before rest : Text) (b : ℕ) → outer ≢ level.Foreign → AreBlank before → is_blank b ≡ false → (b == 60) ≡ false
      → WrongNext end outer around c (before ++ (b ∷ rest)) (fault_at (offset end (b ∷ rest)) (text_kind outer))
  Ends : (text : Text) → IsFiller outer text → (around ≡ None → c.done ≡ false)
      → WrongNext end outer around c text (fault_at end kind.Truncated)
  OfMark : (before text : Text) (f : DocFault) → IsFiller outer before → WrongMark end (offset end (60 ∷ text)) outer around c text f
      → WrongNext end outer around c (before ++ (60 ∷ text)) f

-- ---- the document

-- something is wrong in an element of this level, behind what stands well in it: what stands next, or what stands in an element that
-- begins there
pub data Wrong (end : ℕ) : (outer : Level) (around : Option Text) (c : Content) (text : Text) (f : DocFault) → Type 0 where
  Here : (outer : Level) (around : Option Text) (c d : Content) (front rest : Text) (f : DocFault) → Inside outer c front d
      → WrongNext end outer around d rest f → Wrong end outer around c (front ++ rest) f
  Deeper : (outer inner : Level) (around : Option Text) (c d e : Content) (front before tag rest name : Text) (pairs : List Pair)
      (f : DocFault) → Inside outer c front d → IsFiller outer before → IsTag tag name pairs Opens → Begins outer d name pairs inner e
      → Wrong end inner (Some name) e rest f → Wrong end outer around c (front ++ (before ++ ((60 ∷ tag) ++ rest))) f

-- the declaration has no end: the bytes are a front of `<?xml`, or no `?>` stands behind that
abbrev pub IsUndeclared : Text → Type 0
IsUndeclared bytes =
    ((bytes ≢ []) × (more : Text) × (more ≢ []) × (bytes ++ more ≡ codes "<?xml"))
    ⊎ ((text : Text) × (bytes ≡ codes "<?xml" ++ text) × LacksEnd text)

-- the document has this fault: it is too large; or it is not, and its declaration has no end, or it is not blank and something is wrong
-- behind the declaration
pub data HasFault (bytes : Text) : (f : DocFault) → Type 0 where
  Large : 1048576 < length bytes → HasFault bytes (fault_at 1048576 kind.TooLarge)
  Undeclared : length bytes ≤ 1048576 → IsUndeclared bytes → HasFault bytes (fault_at (length bytes) kind.Truncated)
  Within : (text : Text) (f : DocFault) → length bytes ≤ 1048576 → (AreBlank bytes → ⊥) → IsDeclared bytes text
      → Wrong (length bytes) level.Top None new_content text f → HasFault bytes f
