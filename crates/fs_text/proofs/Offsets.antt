-- What a search for the first byte finds.
use Rattle.std.proofs.Common.{◌≡◌, ℕ, Bool, true, false, List, length, sym, refl, arith, Option, None, Some, unwrap_or}
use Rattle.std.specs.List.{position_or_len}
use Rattle.std.proofs.lemmas.List.Sums.{position_or_len_is}
use Rattle.memchr.specs.Find.{IsFirstByte}

not_true : (b : Bool) → (b ≡ true → ⊥) → b ≡ false
not_true true fails = absurd (fails refl)
not_true false _ = refl

-- the first offset that passes, or the length, is where the test first passes
pub first_is : (p : ℕ → Bool) (text : List ℕ) (found : Option ℕ) → IsFirstByte p text found →
    unwrap_or found (length text) ≡ position_or_len p text
first_is p text None nowhere =
    sym (position_or_len_is p text (length text) 0 (omega arith) (λ k below. not_true _ (nowhere k (omega arith) below))
    (λ h. absurd (omega arith)))
first_is p text (Some i) first =
    sym (position_or_len_is p text i 0 (omega (arith, first.0.high)) (λ k below. not_true _ (first.0.before k (omega arith) below))
    (λ _. first.1))
