-- Two lists of pairs, compared from their fronts.
use Rattle.std.specs.Prelude.{◌≡◌, ◌∷◌}
use Rattle.fs_text.specs.Texts.{Text}
use Rattle.fs_vars.specs.Pairs.{Pairs}

-- what is left of two lists is the same exactly where the lists are
pub record AreAlike (left left' pairs pairs' : Pairs) : Type 0 where
  pub same : left ≡ left' → pairs ≡ pairs'
  pub rest : pairs ≡ pairs' → left ≡ left'

pub at_first : (pairs pairs' : Pairs) → AreAlike pairs pairs' pairs pairs'
at_first pairs pairs' = record { same = λ is. is; rest = λ is. is }

pub behind_one : {left left' pairs pairs' : Pairs} (more more' : Pairs) (here here' : Text × Text) → AreAlike left left' pairs pairs'
    → left ≡ here ∷ more → left' ≡ here' ∷ more' → here.0 ≡ here'.0 → here.1 ≡ here'.1 → AreAlike more more' pairs pairs'
behind_one more more' here here' alike at at' name value = record {
  same = λ is. let firsts : ◌≡◌ {A = Text × Text} (here.0, here.1) (here'.0, here'.1) = cc in alike.same cc;
  rest = λ is. let both = alike.rest is in cc;
}
