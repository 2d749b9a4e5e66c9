-- Which text a value says, told apart from the reading.
use Rattle.std.specs.Prelude.{◌≡◌, ℕ, true, false, List, [], ◌∷◌, ◌++◌}
use Rattle.std.specs.List.{list_any}
use Rattle.fs_dial.specs.Guards.{is_guard, is_escaped}
use Rattle.fs_dial.specs.Spelling.{is_quote}

-- a value, in a bracket with a separator, says the text
pub data Says (separator : ℕ) : (value text : List ℕ) → Type 0 where
  SaysNothing : Says separator [] []
  -- a plain byte says itself
  SaysByte : (b : ℕ) (value text : List ℕ) → is_guard b ≡ false → Says separator value text → Says separator (b ∷ value) (b ∷ text)
  -- behind a backslash the separator, a quote, a backslash and a closing bracket say themselves
  SaysEscaped : (b : ℕ) (value text : List ℕ) → is_escaped separator b ≡ true → Says separator value text →
      Says separator (92 ∷ b ∷ value) (b ∷ text)
  -- in front of any other byte the backslash stays, and says itself too; so does one at the end
  KeepsBackslash : (b : ℕ) (value text : List ℕ) → is_escaped separator b ≡ false → Says separator value text →
      Says separator (92 ∷ b ∷ value) (92 ∷ b ∷ text)
  LastBackslash : Says separator (92 ∷ []) (92 ∷ [])
  -- quotes say all that is between them; what is never closed goes to the end
  SaysQuoted : (inside value text : List ℕ) → list_any is_quote inside ≡ false → Says separator value text →
      Says separator (39 ∷ (inside ++ (39 ∷ value))) (inside ++ text)
  LastQuoted : (inside : List ℕ) → list_any is_quote inside ≡ false → Says separator (39 ∷ inside) inside
