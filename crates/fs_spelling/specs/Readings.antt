-- How markup is read that spells an attribute, a tag or a comment, and what it is that is read.
use Rattle.std.specs.Prelude.{◌≡◌, ℕ, List, ◌++◌, map, None, Ok}
use Rattle.fs_xml.specs.declared.attribute.Ending.{Ending}
use Rattle.fs_xml.specs.Attributes.{Written, Has, part_at}
use Rattle.fs_xml.specs.Tags.{BodyText}
use Rattle.fs_xml.specs.Markup.{Mark, Comment, End, Start, mark_at}
use Rattle.fs_spelling.specs.Tags.{Pair, IsAttribute, IsBody, IsTag, IsEndTag, IsComment}

-- a name and a value, without their offsets
abbrev pub pair_of : Written → Pair
pair_of a = record { name = a.name; value = a.value }

-- an attribute that is read, with its offsets
pub record ReadsAttribute (end : ℕ) (text rest : List ℕ) (pair : Pair) : Type 0 where
  pub written : Written
  pub read : part_at end text ≡ Ok (Has written, rest)
  pub same : pair_of written ≡ pair

-- the attribute in front, and the rest
pub record TakesAttribute (text rest : List ℕ) (pair : Pair) : Type 0 where
  pub bytes : List ℕ
  pub whole : text ≡ bytes ++ rest
  pub is : IsAttribute bytes pair

-- the attributes so far, those that were read behind them, and the end
pub record TakesBody (so_far : List Written) (text : List ℕ) (body : BodyText) (rest : List ℕ) : Type 0 where
  pub attrs : List Written
  pub bytes : List ℕ
  pub whole : text ≡ bytes ++ rest
  pub attrs_are : body.attrs ≡ so_far ++ attrs
  pub is : IsBody bytes (map pair_of attrs) body.ending

-- a tag that is read, with the offsets of its attributes
pub record ReadsTag (end : ℕ) (text name : List ℕ) (pairs : List Pair) (ending : Ending) (rest : List ℕ) : Type 0 where
  pub attrs : List Written
  pub same : map pair_of attrs ≡ pairs
  pub read : mark_at end text ≡ Ok (Start name (record { attrs = attrs; malformed = None; ending = ending }), rest)

-- the bytes in front, of a kind, and the rest
pub record Takes (Is : List ℕ → Type 0) (text rest : List ℕ) : Type 0 where
  pub bytes : List ℕ
  pub whole : text ≡ bytes ++ rest
  pub is : Is bytes

-- the markup in front, and the rest; a tag with a malformed attribute is none
abbrev pub TakesMark : Mark → List ℕ → List ℕ → Type 0
TakesMark Comment text rest = Takes IsComment text rest
TakesMark (End name) text rest = Takes (λ bytes. IsEndTag bytes name) text rest
TakesMark (Start name body) text rest =
    body.malformed ≡ None → Takes (λ bytes. IsTag bytes name (map pair_of body.attrs) body.ending) text rest
