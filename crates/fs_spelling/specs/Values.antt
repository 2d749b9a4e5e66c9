-- What is a value that says a text.
use Rattle.std.specs.Prelude.{◌≡◌, ℕ, Bool, true, false, List, [], ◌∷◌, ◌++◌, Some, encode_utf8}
use Rattle.std.specs.List.{list_any}
use Rattle.fs_text.specs.Words.{is_byte}
use Rattle.fs_xml.specs.Entities.{entity, is_special}

-- the value says the text: any byte but `&` and `<` stands for itself, an entity for its character, and where it is allowed a `<`
-- for itself
pub data SpellsValue : (raw : Bool) (value text : List ℕ) → Type 0 where
  Nothing : (raw : Bool) → SpellsValue raw [] []
  Plain : (raw : Bool) (b : ℕ) (value text : List ℕ) → is_special b ≡ false → SpellsValue raw value text
      → SpellsValue raw (b ∷ value) (b ∷ text)
  Mark : (value text : List ℕ) → SpellsValue true value text → SpellsValue true (60 ∷ value) (60 ∷ text)
  Entity : (raw : Bool) (name value text : List ℕ) (c : ℕ) → list_any (is_byte 59) name ≡ false → entity name ≡ Some c
      → SpellsValue raw value text → SpellsValue raw (38 ∷ (name ++ (59 ∷ value))) (encode_utf8 c ++ text)
