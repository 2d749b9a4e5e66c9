-- The first of a list.
use Rattle.std.proofs.Common.{◌≡◌, ◌<◌, List, [], ◌∷◌, length, sym, ap, arith}
use Rattle.std.specs.List.{remove}
use Rattle.std.specs.Prelude.{slice_index_or}

-- a list is its first and those behind it
pub first_and_rest : {X : Type 0} (xs : List X) (x : X) → 0 < length xs → x ≡ slice_index_or xs 0 x → xs ≡ x ∷ remove xs 0
first_and_rest [] x some is = absurd (omega (arith, some))
first_and_rest (y ∷ xs) x some is = ap (λ z. z ∷ xs) (sym is)

pub ruleset first_rules = (first_and_rest)
