-- Where the parts of a dial string stand in its text.
use Rattle.std.specs.Prelude.{◌≡◌, ℕ, List, ◌∷◌, ◌++◌, length}
use Rattle.std.specs.List.{AllByRecursion}
use Rattle.fs_dial.specs.Pairs.{Pair}
use Rattle.fs_dial.specs.Legs.{LegText}
use Rattle.fs_dial.specs.DialStrings.{Dial}

-- the part stands in the text behind so many bytes
pub record Stands (text : List ℕ) (at : ℕ) (part : List ℕ) : Type 0 where
  pub before : List ℕ
  pub behind : List ℕ
  pub whole : text ≡ before ++ (part ++ behind)
  pub is_at : length before ≡ at

-- the name of the pair, `=` and its value
abbrev pub PairStands : List ℕ → Pair → Type 0
PairStands text pair = Stands text pair.at (pair.name ++ (61 ∷ pair.value))

pub record LegStands (text : List ℕ) (leg : LegText) : Type 0 where
  pub endpoint : Stands text leg.at leg.endpoint
  pub pairs : AllByRecursion (PairStands text) leg.pairs

-- each part stands in the text at its offset
pub record DialStands (text : List ℕ) (dial : Dial) : Type 0 where
  pub pairs : AllByRecursion (PairStands text) dial.pairs
  pub legs : AllByRecursion (λ group. AllByRecursion (LegStands text) group) dial.groups
