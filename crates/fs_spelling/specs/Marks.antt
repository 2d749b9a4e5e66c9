-- Which bytes are markup, also with a malformed attribute, and which are cut short or never markup; where attributes stand.
use Rattle.std.specs.Prelude.{◌≡◌, ◌≢◌, ◌==◌, ◌⊎◌, ℕ, ◌-◌, true, false, List, [], ◌∷◌, ◌++◌, Option, None, Some, codes}
use Rattle.std.specs.Option.{option_map}
use Rattle.std.specs.List.{list_any}
use Rattle.fs_text.specs.Words.{is_byte}
use Rattle.fs_text.specs.Texts.{Text}
use Rattle.fs_xml.specs.declared.attribute.Ending.{Ending}
use Rattle.fs_xml.specs.declared.attribute.Ending.TheVariants.{Opens}
use Rattle.fs_xml.specs.Bytes.{is_blank, is_quote, is_name_byte, begins_name, offset}
use Rattle.fs_xml.specs.Attributes.{Written}
use Rattle.fs_xml.specs.Tags.{BodyText}
use Rattle.fs_spelling.specs.Tags.{Pair, AreBlank, Stops, IsName, IsAttribute, AreAttributes, ending_text, IsEndTag, IsComment}
use Rattle.fs_spelling.specs.Readings.{pair_of}

-- ---- malformed attributes

-- bytes other than `<` and `>`, and texts in quotes
pub data IsLoose : List ℕ → Type 0 where
  NoneLoose : IsLoose []
  ByteLoose : (b : ℕ) (rest : List ℕ) → (b == 60) ≡ false → (b == 62) ≡ false → is_quote b ≡ false → IsLoose rest → IsLoose (b ∷ rest)
  QuotedLoose : (quote : ℕ) (value rest : List ℕ) → is_quote quote ≡ true → list_any (is_byte quote) value ≡ false → IsLoose rest
      → IsLoose (quote ∷ (value ++ (quote ∷ rest)))

-- behind these blanks begins an attribute that is malformed: no blank stands before its name, no `=` behind that, or no quote behind `=`
pub data IsMalformed : (gap text : List ℕ) → Type 0 where
  Glued : (b : ℕ) (more : List ℕ) → begins_name b ≡ true → IsMalformed [] (b ∷ more)
  NoEquals : (gap name behind more : List ℕ) (b : ℕ) → gap ≢ [] → IsName name → AreBlank behind
      → (behind ≢ []) ⊎ (is_name_byte b ≡ false) → is_blank b ≡ false → (b == 61) ≡ false
      → IsMalformed gap (name ++ (behind ++ (b ∷ more)))
  NoQuote : (gap name behind further more : List ℕ) (b : ℕ) → gap ≢ [] → IsName name → AreBlank behind → AreBlank further
      → is_blank b ≡ false → is_quote b ≡ false → IsMalformed gap (name ++ (behind ++ (61 ∷ (further ++ (b ∷ more)))))

-- what a tag has behind its well formed attributes: blanks and `>` or `/>`; or a malformed attribute, and all up to the `>` outside quotes
pub data IsTail : (bytes : List ℕ) (malformed : Option (List ℕ)) (ending : Ending) → Type 0 where
  Well : (gap : List ℕ) (ending : Ending) → AreBlank gap → IsTail (gap ++ ending_text ending) None ending
  Ill : (gap loose : List ℕ) → AreBlank gap → IsLoose loose → IsMalformed gap (loose ++ codes ">")
      → IsTail (gap ++ (loose ++ codes ">")) (Some (loose ++ codes ">")) Opens

-- ---- markup

-- markup from behind its `<`: a comment, an end tag where an element is open around it, or the tag of an element
pub data IsMark (around : Option Text) : (bytes : List ℕ) → Type 0 where
  AComment : (bytes : List ℕ) → IsComment bytes → IsMark around bytes
  AnEnd : (name bytes : List ℕ) → around ≢ None → IsEndTag bytes name → IsMark around bytes
  ATag : (name attributes tail : List ℕ) (pairs : List Pair) (malformed : Option (List ℕ)) (ending : Ending) → IsName name
      → Stops is_name_byte (attributes ++ tail) → AreAttributes attributes pairs → IsTail tail malformed ending
      → IsMark around (name ++ (attributes ++ tail))

-- markup stands in front
pub record HasMark (around : Option Text) (text : List ℕ) : Type 0 where
  pub mark : List ℕ
  pub rest : List ℕ
  pub whole : text ≡ mark ++ rest
  pub is : IsMark around mark

-- no markup stands in front, but with more bytes behind it one does
pub record IsCut (around : Option Text) (text : List ℕ) : Type 0 where
  pub none : HasMark around text → ⊥
  pub more : List ℕ
  pub goes_on : HasMark around (text ++ more)

-- whatever stands behind it, no markup stands in front
abbrev pub IsBad : Option Text → List ℕ → Type 0
IsBad around text = (more : List ℕ) → HasMark around (text ++ more) → ⊥

-- ---- where the attributes of a tag stand, in a document of so many bytes

-- an attribute, with the rest of the document behind it: where its name begins, and where the quote behind its value stands
pub record IsWritten (end : ℕ) (bytes rest : List ℕ) (a : Written) : Type 0 where
  pub is : IsAttribute bytes (pair_of a)
  pub named : List ℕ
  pub whole : bytes ≡ is.before ++ named
  pub place : a.at ≡ offset end (named ++ rest)
  pub place_behind : a.end ≡ offset end rest - 1

-- attributes, one after another
pub data AreWritten : (end : ℕ) (bytes rest : List ℕ) (attrs : List Written) → Type 0 where
  NoneWritten : (end : ℕ) (rest : List ℕ) → AreWritten end [] rest []
  OneWritten : (end : ℕ) (front more rest : List ℕ) (a : Written) (attrs : List Written) → IsWritten end front (more ++ rest) a
      → AreWritten end more rest attrs → AreWritten end (front ++ more) rest (a ∷ attrs)

-- the tag of an element, from behind its `<`, with the rest of the document behind it
pub record IsStart (end : ℕ) (bytes rest name : List ℕ) (body : BodyText) : Type 0 where
  pub attributes : List ℕ
  pub tail : List ℕ
  pub malformed : Option (List ℕ)
  pub whole : bytes ≡ name ++ (attributes ++ tail)
  pub is_name : IsName name
  pub apart : Stops is_name_byte (attributes ++ tail)
  pub are : AreWritten end attributes (tail ++ rest) body.attrs
  pub ends : IsTail tail malformed body.ending
  pub place : body.malformed ≡ option_map (λ text. offset end (text ++ rest)) malformed
