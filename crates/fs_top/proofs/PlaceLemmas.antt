-- What is counted at the places of lists.
use Rattle.std.proofs.Common.{◌≡◌, ℕ, zero, suc, ◌+◌, ◌*◌, ◌<◌, Bool, false, cond, eqb, List, [], ◌∷◌, ◌++◌, length, Option, None, Some}
use Rattle.std.proofs.Common.{slice_get, count_by, refl, sym, ap, subst, ◌∙◌, arith, append_assoc, append-nil, length-append, if◌then◌else◌}
use Rattle.std.proofs.Math.Dec.{eqb-suc-zero, eqb-zero-suc, eqb-suc-suc}
use Rattle.std.proofs.lemmas.Bool.Decides.{nat_tests}
use Rattle.std.proofs.lemmas.List.Sums.{sum_by_push}
use mathlib.Core.List.{IsPrefix}
use mathlib.Core.Option.{some}
use lib.ListN.{get_elem?}
use Rattle.fs_book.specs.Counts.{total, times, once_below}
use Rattle.fs_book.proofs.Lists.{total_append, total_push}
use Rattle.fs_top.specs.Dials.{found_by, count_at}

-- what is counted in two lists, one behind the other
pub count_append : {E : Type 0} (test : E → Bool) (seen : List E) (xs ys : List (List ℕ)) →
    count_at test seen (xs ++ ys) ≡ count_at test seen xs + count_at test seen ys
count_append test seen xs ys = total_append (total (λ place. found_by test (slice_get seen place))) xs ys

-- one more place
pub count_push : {E : Type 0} (test : E → Bool) (seen : List E) (mine : List ℕ) (met : List (List ℕ)) (place : ℕ) →
    count_at test seen ((mine ++ place ∷ []) ∷ met) ≡ count_at test seen (mine ∷ met) + found_by test (slice_get seen place)
count_push test seen mine met place = let r = total_push (λ p. found_by test (slice_get seen p)) mine place in omega arith

-- sums over places are the same where the terms at the places are
total_same : (f g : ℕ → ℕ) (xs : List ℕ) → ((p : ℕ) → 0 < times p xs → f p ≡ g p) → total f xs ≡ total g xs
total_same f g [] same = refl
total_same f g (x ∷ xs) same =
    let here : f x ≡ g x = same x (grind (arith, nat_tests)) in
    let rest = total_same f g xs (λ p has. same p (omega arith)) in
    omega arith

-- so are such sums over lists of places
totals_same : (f g : ℕ → ℕ) (lists : List (List ℕ)) →
    ((k : ℕ) (l : List ℕ) → get_elem? lists k ≡ some l → (p : ℕ) → 0 < times p l → f p ≡ g p) →
    total (total f) lists ≡ total (total g) lists
totals_same f g [] same = refl
totals_same f g (l ∷ lists) same =
    let here = total_same f g l (same zero l refl) in
    let rest = totals_same f g lists (λ k. same (suc k)) in
    omega arith

-- a longer list has the same at a place of the shorter
get_up : {E : Type 0} (xs ys : List E) (p : ℕ) → IsPrefix xs ys → p < length xs → slice_get ys p ≡ slice_get xs p
get_up [] ys p front inside = absurd (omega arith)
get_up (x ∷ xs) [] p front inside = absurd (cc (front.1))
get_up (x ∷ xs) (y ∷ ys) zero front inside = cc (front.1)
get_up (x ∷ xs) (y ∷ ys) (suc p) front inside = get_up xs ys p (front.0, cc (front.1)) (omega arith)

-- more was seen, and the places are of what was seen before
pub count_up : {E : Type 0} (test : E → Bool) (seen seen' : List E) (lists : List (List ℕ)) → IsPrefix seen seen' →
    ((k : ℕ) (l : List ℕ) → get_elem? lists k ≡ some l → (p : ℕ) → 0 < times p l → p < length seen) →
    count_at test seen' lists ≡ count_at test seen lists
count_up test seen seen' lists front below =
    totals_same (λ p. found_by test (slice_get seen' p)) (λ p. found_by test (slice_get seen p)) lists
    (λ k l at p has. ap (found_by test) (get_up seen seen' p front (below k l at p has)))

-- a sum of nothing but 0
total_zero : {V : Type 0} (f : V → ℕ) → ((v : V) → f v ≡ 0) → (vs : List V) → total f vs ≡ 0
total_zero f none [] = refl
total_zero f none (v ∷ vs) = let here = none v in let rest = total_zero f none vs in omega arith

-- an entry that fails the test is not found
found_none : {E : Type 0} (test : E → Bool) (got : Option E) → ((entry : E) → got ≡ Some entry → test entry ≡ false) →
    found_by test got ≡ 0
found_none test None fails = refl
found_none test (Some entry) fails = rw (fails entry refl) refl

-- nothing is counted where nothing at the places meets the test
pub count_none : {E : Type 0} (test : E → Bool) (seen : List E) (lists : List (List ℕ)) →
    ((k : ℕ) (l : List ℕ) → get_elem? lists k ≡ some l →
    (p : ℕ) (entry : E) → 0 < times p l → slice_get seen p ≡ Some entry → test entry ≡ false) →
    count_at test seen lists ≡ 0
count_none test seen lists fails =
    totals_same (λ p. found_by test (slice_get seen p)) (λ _. 0) lists
    (λ k l at p has. found_none test (slice_get seen p) (λ entry got. fails k l at p entry has got)) ∙
    total_zero (total (λ _. 0)) (total_zero (λ _. 0) (λ _. refl)) lists

-- a sum of terms each of which is one term and a multiple of another
total_split : {V : Type 0} (f g h : V → ℕ) (c : ℕ) → ((v : V) → f v ≡ g v + c * h v) → (vs : List V) →
    total f vs ≡ total g vs + c * total h vs
total_split f g h c each [] = omega arith
total_split f g h c each (v ∷ vs) =
    let here = each v in
    let rest = total_split f g h c each vs in
    omega arith

-- where one more entry is seen, it is found at its place
found_push : {E : Type 0} (test : E → Bool) (seen : List E) (entry : E) (p : ℕ) →
    found_by test (slice_get (seen ++ entry ∷ []) p) ≡
    found_by test (slice_get seen p) + (if test entry then 1 else 0) * cond (eqb p (length seen)) 1 0
found_push test [] entry zero = omega arith
found_push test [] entry (suc p) = rw eqb-suc-zero (omega arith)
found_push test (e ∷ seen) entry zero = rw eqb-zero-suc (omega arith)
found_push test (e ∷ seen) entry (suc p) = rw eqb-suc-suc (found_push test seen entry p)

-- it is counted as often as its place stands in the lists
count_more : {E : Type 0} (test : E → Bool) (seen : List E) (entry : E) (lists : List (List ℕ)) →
    count_at test (seen ++ entry ∷ []) lists ≡
    count_at test seen lists + (if test entry then 1 else 0) * total (times (length seen)) lists
count_more test seen entry lists =
    let c = if test entry then 1 else 0 in
    let old = λ (p : ℕ). found_by test (slice_get seen p) in
    let new = λ (p : ℕ). found_by test (slice_get (seen ++ entry ∷ []) p) in
    total_split (total new) (total old) (times (length seen)) c
    (total_split new old (λ p. cond (eqb p (length seen)) 1 0) c (found_push test seen entry)) lists

-- where each place of what was seen stands once in the lists, all of it is counted
module _ {E : Type 0} (test : E → Bool) (seen : List E) (lists : List (List ℕ))
    (whole : (p : ℕ) → total (times p) lists ≡ once_below p (length seen)) where
  -- from what is counted in a beginning
  count_from : (before after : List E) → before ++ after ≡ seen → count_at test before lists ≡ count_by test before →
      count_at test seen lists ≡ count_by test seen
  count_from before [] is counted =
      subst (λ (es : List E). count_at test es lists ≡ count_by test es) (sym (append-nil before) ∙ is) counted
  count_from before (entry ∷ after) is counted =
      let inside : length before < length seen = omega (arith, ap length is, length-append before (entry ∷ after)) in
      let once : total (times (length before)) lists ≡ 1 = let w = whole (length before) in grind (arith, nat_tests) in
      let more = rw once at (count_more test before entry lists) in
      let all = sum_by_push (λ e. cond (test e) 1 0) before entry in
      count_from (before ++ entry ∷ []) after (append_assoc before (entry ∷ []) after ∙ is) (omega arith)

  -- from the empty beginning
  pub count_whole : count_at test seen lists ≡ count_by test seen
  count_whole = count_from [] seen refl (count_none test [] lists (λ k l at p entry has got. absurd cc))
