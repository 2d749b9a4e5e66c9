-- Slots in a row.
use Rattle.std.proofs.Common.{◌≡◌, ℕ, zero, suc, ◌+◌, [], ◌∷◌, ◌++◌, ap, ◌∙◌, arith}
use Rattle.std.specs.List.{range_with_len}

one_more : (a n : ℕ) → range_with_len a n ++ (a + n) ∷ [] ≡ range_with_len a (suc n)
one_more a zero = let same : a + 0 ≡ a = omega arith in ap (λ k. k ∷ []) same
one_more a (suc n) =
    let same : a + suc n ≡ a + 1 + n = omega arith in
    ap (λ l. a ∷ l) (ap (λ k. range_with_len (a + 1) n ++ k ∷ []) same ∙ one_more (a + 1) n)

-- one more of those from 0 on
pub slots_more : (slot : ℕ) → range_with_len 0 slot ++ slot ∷ [] ≡ range_with_len 0 (slot + 1)
slots_more slot =
    let first : slot ≡ 0 + slot = omega arith in
    let next : suc slot ≡ slot + 1 = omega arith in
    ap (λ k. range_with_len 0 slot ++ k ∷ []) first ∙ one_more 0 slot ∙ ap (range_with_len 0) next
