-- The least of the numbers that things have.
use Rattle.std.specs.Prelude.{ℕ, min, List, [], ◌∷◌, Option, None, Some}

-- the lesser of two numbers, where they are there
abbrev pub lesser : Option ℕ → Option ℕ → Option ℕ
lesser None m = m
lesser (Some n) None = Some n
lesser (Some n) (Some m) = Some (min n m)

-- the least of the numbers that things have
abbrev pub least_of : {T : Type 0} → (T → Option ℕ) → List T → Option ℕ
least_of number [] = None
least_of number (thing ∷ things) = lesser (number thing) (least_of number things)
