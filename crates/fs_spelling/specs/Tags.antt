-- Which bytes are comments and tags.
use Rattle.std.specs.Prelude.{◌≡◌, ◌≢◌, ℕ, Bool, true, false, List, [], ◌∷◌, ◌++◌, Ok, codes}
use Rattle.std.specs.List.{list_all, list_any}
use Rattle.fs_text.specs.Words.{is_byte}
use Rattle.fs_xml.specs.declared.attribute.Ending.{Ending}
use Rattle.fs_xml.specs.declared.attribute.Ending.TheVariants.{Opens, Closes}
use Rattle.fs_xml.specs.Bytes.{is_blank, is_quote, is_name_byte, begins_name}
use Rattle.fs_xml.specs.Markup.{comment_end}

-- a name, and a value as it is written
pub record Pair : Type 0 where
  pub name : List ℕ
  pub value : List ℕ

abbrev pub AreBlank : List ℕ → Type 0
AreBlank bytes = list_all is_blank bytes ≡ true

-- the first byte does not pass, if there is one
abbrev pub Stops : (ℕ → Bool) → List ℕ → Type 0
Stops p [] = Unit {0}
Stops p (b ∷ bytes) = p b ≡ false

-- bytes of a name, the first of which may begin one
pub record IsName (name : List ℕ) : Type 0 where
  pub first : ℕ
  pub others : List ℕ
  pub whole : name ≡ first ∷ others
  pub begins : begins_name first ≡ true
  pub goes_on : list_all is_name_byte others ≡ true

-- blanks, a name, `=` with blanks round it, and a value in quotes that do not stand in it
pub record IsAttribute (bytes : List ℕ) (pair : Pair) : Type 0 where
  pub before : List ℕ
  pub gap : List ℕ
  pub gap_behind : List ℕ
  pub quote : ℕ
  pub whole : bytes ≡ before ++ (pair.name ++ (gap ++ (61 ∷ (gap_behind ++ (quote ∷ (pair.value ++ (quote ∷ [])))))))
  pub apart : before ≢ []
  pub before_blank : AreBlank before
  pub gap_blank : AreBlank gap
  pub behind_blank : AreBlank gap_behind
  pub is_name : IsName pair.name
  pub quotes : is_quote quote ≡ true
  pub unbroken : list_any (is_byte quote) pair.value ≡ false

-- attributes, one after another
pub data AreAttributes : List ℕ → List Pair → Type 0 where
  NoMore : AreAttributes [] []
  OneMore : (front rest : List ℕ) (pair : Pair) (pairs : List Pair) → IsAttribute front pair → AreAttributes rest pairs
      → AreAttributes (front ++ rest) (pair ∷ pairs)

abbrev pub ending_text : Ending → List ℕ
ending_text Opens = codes ">"
ending_text Closes = codes "/>"

-- attributes, blanks, and the end of the tag
pub record IsBody (bytes : List ℕ) (pairs : List Pair) (ending : Ending) : Type 0 where
  pub attributes : List ℕ
  pub gap : List ℕ
  pub whole : bytes ≡ attributes ++ (gap ++ ending_text ending)
  pub are : AreAttributes attributes pairs
  pub gap_blank : AreBlank gap

-- a start tag, or the tag of an empty element, from behind its `<`
pub record IsTag (bytes name : List ℕ) (pairs : List Pair) (ending : Ending) : Type 0 where
  pub body : List ℕ
  pub whole : bytes ≡ name ++ body
  pub is_name : IsName name
  pub is_body : IsBody body pairs ending

-- an end tag, from behind its `<`
pub record IsEndTag (bytes name : List ℕ) : Type 0 where
  pub gap : List ℕ
  pub whole : bytes ≡ 47 ∷ (name ++ (gap ++ codes ">"))
  pub is_name : IsName name
  pub gap_blank : AreBlank gap

-- a comment, from behind its `<`: all up to the first `-->`
pub record IsComment (bytes : List ℕ) : Type 0 where
  pub body : List ℕ
  pub whole : bytes ≡ codes "!--" ++ body
  pub ends : comment_end body ≡ Ok []
