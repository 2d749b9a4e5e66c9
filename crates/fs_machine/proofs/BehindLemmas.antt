-- How many entries meet a test that sees what stands before them.
use Rattle.std.proofs.Common.{◌≡◌, ℕ, zero, suc, ◌≤◌, Bool, true, false, List, [], ◌∷◌, ◌++◌, take, slice_get, Some}
use Rattle.std.proofs.Common.{refl, sym, ap, subst, ◌∙◌, append_assoc, append-nil, arith}
use Rattle.fs_book.specs.Numbered.{counted_where, count_behind}

-- two counts go on in either order
counts_swap : (a b : Bool) (count : ℕ) → counted_where a (counted_where b count) ≡ counted_where b (counted_where a count)
counts_swap true true count = refl
counts_swap true false count = refl
counts_swap false true count = refl
counts_swap false false count = refl

-- behind one more entry one more is counted, if that meets the test
pub count_behind_more : {E : Type 0} → (test : List E → E → Bool) (before xs : List E) (x : E) →
    count_behind test before (xs ++ x ∷ []) ≡ counted_where (test (before ++ xs) x) (count_behind test before xs)
count_behind_more test before [] x = ap (λ (b : List _). counted_where (test b x) 0) (sym (append-nil before))
count_behind_more test before (y ∷ xs) x =
    ap (counted_where (test before y)) (count_behind_more test (before ++ y ∷ []) xs x)
    ∙ counts_swap (test before y) (test ((before ++ y ∷ []) ++ xs) x) (count_behind test (before ++ y ∷ []) xs)
    ∙ ap (λ (b : List _). counted_where (test b x) (counted_where (test before y) (count_behind test (before ++ y ∷ []) xs)))
    (append_assoc before (y ∷ []) xs)

counted_more : (b : Bool) (m n : ℕ) → suc m ≤ n → suc (counted_where b m) ≤ counted_where b n
counted_more true m n more = omega (arith, more)
counted_more false m n more = more

-- one that meets the test is counted behind those before it
pub counted_at : {E : Type 0} → (test : List E → E → Bool) (before log : List E) (p : ℕ) (entry : E) → slice_get log p ≡ Some entry →
    test (before ++ take p log) entry ≡ true → suc (count_behind test before (take p log)) ≤ count_behind test before log
counted_at test before [] p entry at is = absurd (cc)
counted_at test before (x ∷ log) zero entry at is =
    let same : x ≡ entry = cc at in
    let meets : test before x ≡ true = ap (test before) same ∙ (ap (λ (b : List _). test b entry) (sym (append-nil before)) ∙ is) in
    subst (λ b. 1 ≤ counted_where b (count_behind test (before ++ x ∷ []) log)) (sym meets) (omega (arith))
counted_at test before (x ∷ log) (suc p) entry at is =
    counted_more (test before x) (count_behind test (before ++ x ∷ []) (take p log)) (count_behind test (before ++ x ∷ []) log)
    (counted_at test (before ++ x ∷ []) log p entry at
    (ap (λ (b : List _). test b entry) (append_assoc before (x ∷ []) (take p log)) ∙ is))
