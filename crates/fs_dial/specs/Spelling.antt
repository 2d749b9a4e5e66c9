-- Which texts are which dial strings, told apart from the reading.
use Rattle.std.specs.Prelude.{◌≡◌, ◌≢◌, ◌≤◌, ◌==◌, ℕ, ◌+◌, Bool, false, List, [], ◌∷◌, ◌++◌, length}
use Rattle.std.specs.List.{list_any}
use Rattle.fs_dial.specs.declared.bracket.Bracket.{Bracket}
use Rattle.fs_dial.specs.declared.bracket.Bracket.TheVariants.{Brace, Square}
use Rattle.fs_dial.specs.Guards.{is_guard, offset}
use Rattle.fs_dial.specs.Pairs.{Pair, is_equals}
use Rattle.fs_dial.specs.Brackets.{opener_of, closer_of, lead_of}
use Rattle.fs_dial.specs.Legs.{LegText, ends_leg}
use Rattle.fs_dial.specs.DialStrings.{Dial}

-- Each offset below is told by the bytes that stand from it on, up to an end: the end of the text, or of a bracket's content.

-- ---- pairs

abbrev pub is_quote : ℕ → Bool
is_quote b = b == 39

-- a mark stands in these bytes only in quotes and behind backslashes, and each of these has its end
pub data Protects (mark : ℕ) : List ℕ → Type 0 where
  NoBytes : Protects mark []
  Byte : (b : ℕ) (bytes : List ℕ) → is_guard b ≡ false → (b == mark) ≡ false → Protects mark bytes → Protects mark (b ∷ bytes)
  Escaped : (b : ℕ) (bytes : List ℕ) → Protects mark bytes → Protects mark (92 ∷ b ∷ bytes)
  InQuotes : (inside bytes : List ℕ) → list_any is_quote inside ≡ false → Protects mark bytes →
      Protects mark (39 ∷ (inside ++ (39 ∷ bytes)))

-- a pair that begins at an offset: a name, `=` and a value
pub record IsPair (at separator : ℕ) (bytes : List ℕ) (pair : Pair) : Type 0 where
  pub is_at : pair.at ≡ at
  pub is_separated : pair.separator ≡ separator
  pub whole : bytes ≡ pair.name ++ (61 ∷ pair.value)
  pub named : pair.name ≢ []
  pub first : list_any is_equals pair.name ≡ false

-- pairs with a separator between each two; a quote and a backslash never separate
pub data ArePairs (end separator : ℕ) : List ℕ → List Pair → Type 0 where
  LastPair : (bytes : List ℕ) (pair : Pair) → Protects separator bytes → IsPair (offset end bytes) separator bytes pair →
      ArePairs end separator bytes (pair ∷ [])
  NextPair : (bytes rest : List ℕ) (pair : Pair) (pairs : List Pair) → Protects separator bytes → is_guard separator ≡ false
      → IsPair (offset end (bytes ++ (separator ∷ rest))) separator bytes pair → ArePairs end separator rest pairs →
      ArePairs end separator (bytes ++ (separator ∷ rest)) (pair ∷ pairs)

-- the content of a bracket is empty and holds no pairs, or it is pairs
abbrev pub Holds : ℕ → ℕ → List ℕ → List Pair → Type 0
Holds end separator [] pairs = pairs ≡ []
Holds end separator (b ∷ bytes) pairs = ArePairs end separator (b ∷ bytes) pairs

-- ---- brackets

-- a bracket with these pairs stands in front of the rest
pub record IsBracket (shape : Bracket) (end : ℕ) (text rest : List ℕ) (pairs : List Pair) : Type 0 where
  pub inside : List ℕ
  pub separator : ℕ
  pub content : List ℕ
  pub opens : text ≡ opener_of shape ∷ inside
  pub lead : lead_of (closer_of shape) inside ≡ (separator, content ++ (closer_of shape ∷ rest))
  pub closes : Protects (closer_of shape) content
  pub holds : Holds (offset end (closer_of shape ∷ rest)) separator content pairs

abbrev pub begins_with : ℕ → List ℕ → Bool
begins_with byte [] = false
begins_with byte (b ∷ bytes) = b == byte

-- all brackets of a shape that stand in front, with all their pairs
pub data AreBrackets (shape : Bracket) (end : ℕ) : (text rest : List ℕ) → List Pair → Type 0 where
  NoBracket : (text : List ℕ) → begins_with (opener_of shape) text ≡ false → AreBrackets shape end text text []
  OneBracket : (text middle rest : List ℕ) (pairs more : List Pair) → IsBracket shape end text middle pairs →
      AreBrackets shape end middle rest more
      → AreBrackets shape end text rest (pairs ++ more)

-- ---- legs

-- a leg stands in front of the rest: its brackets, and a byte or more up to the next `,` or `|`
pub record IsLeg (end : ℕ) (text rest : List ℕ) (leg : LegText) : Type 0 where
  pub brackets : AreBrackets Square end text (leg.endpoint ++ rest) leg.pairs
  pub is_at : leg.at ≡ offset end (leg.endpoint ++ rest)
  pub some : leg.endpoint ≢ []
  pub unbroken : list_any ends_leg leg.endpoint ≡ false

-- legs in groups: a last one; one with `,` behind it and others of its group; or one with `|` behind it and further groups
pub data AreLegs (end : ℕ) : List ℕ → List (List LegText) → Type 0 where
  LastLeg : (text : List ℕ) (leg : LegText) → IsLeg end text [] leg → AreLegs end text ((leg ∷ []) ∷ [])
  SameGroup : (text rest : List ℕ) (leg : LegText) (legs : List LegText) (groups : List (List LegText)) → IsLeg end text (44 ∷ rest) leg →
      AreLegs end rest (legs ∷ groups)
      → AreLegs end text ((leg ∷ legs) ∷ groups)
  NextGroup : (text rest : List ℕ) (leg : LegText) (groups : List (List LegText)) → IsLeg end text (124 ∷ rest) leg →
      AreLegs end rest groups
      → AreLegs end text ((leg ∷ []) ∷ groups)

-- how many legs there are
abbrev pub count : List (List LegText) → ℕ
count [] = 0
count (legs ∷ groups) = length legs + count groups

-- ---- dial strings

-- the text is the dial string: the pairs of its braces, and 64 legs at most
pub record Spells (text : List ℕ) (dial : Dial) : Type 0 where
  pub rest : List ℕ
  pub some : text ≢ []
  pub braces : AreBrackets Brace (length text) text rest dial.pairs
  pub legs : AreLegs (length text) rest dial.groups
  pub few : count dial.groups ≤ 64
