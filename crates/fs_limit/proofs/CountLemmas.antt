-- How many holds pass a test, as those of a key.
use Rattle.std.proofs.Common.{◌≡◌, ℕ, ◌+◌, ◌≤◌, Bool, true, false, not, ◌&&◌, ◌||◌, [], ◌∷◌, ◌++◌, length, refl, sym, ap, ◌∙◌}
use Rattle.std.proofs.Common.{arith, if◌then◌else◌, filter, count_by}
use Rattle.std.specs.List.{list_any}
use Rattle.std.proofs.lemmas.Bool.{true≢false}
use Rattle.std.proofs.lemmas.List.Sums.{length-filter, sum_by-append, sum_by-cons}
use Rattle.fs_text.specs.Texts.{Text}
use Rattle.fs_limit.specs.declared.hold.Hold.{Hold}
use Rattle.fs_limit.specs.Holds.{Holds, is_of, has_slot, is_hold, holders, others}

-- ---- one more

-- one, where the test holds
abbrev pub one_if : Bool → ℕ
one_if b = if b then 1 else 0

-- in front
pub count_front : (test : Hold → Bool) (hold : Hold) (holds : Holds) →
    count_by test (hold ∷ holds) ≡ one_if (test hold) + count_by test holds
count_front test hold holds = sum_by-cons (λ other. one_if (test other)) hold holds

-- behind
pub count_behind : (test : Hold → Bool) (hold : Hold) (holds : Holds) →
    count_by test (holds ++ hold ∷ []) ≡ count_by test holds + one_if (test hold)
count_behind test hold holds =
    let all = sum_by-append (λ other. one_if (test other)) holds (hold ∷ []) in
    let one = count_front test hold [] in omega (arith, all, one)

-- ---- those that are kept, and those that are none

pub count_kept : (test kept : Hold → Bool) (holds : Holds) → count_by test (filter kept holds) ≤ count_by test holds
count_kept test kept [] = omega arith
count_kept test kept (hold ∷ holds) = by (kept hold) (count_kept test kept holds) (count_front test hold holds)
  where
    by : (b : Bool) → count_by test (filter kept holds) ≤ count_by test holds →
        count_by test (hold ∷ holds) ≡ one_if (test hold) + count_by test holds →
        count_by test (if b then hold ∷ filter kept holds else filter kept holds) ≤ count_by test (hold ∷ holds)
    by true again whole = let part = count_front test hold (filter kept holds) in omega (arith, whole, part, again)
    by false again whole = omega (arith, whole, again)

-- where none passes, none is counted
pub none_counted : (test : Hold → Bool) (holds : Holds) → list_any test holds ≡ false → count_by test holds ≡ 0
none_counted test [] none = refl
none_counted test (hold ∷ holds) none = by (test hold) none (none_counted test holds) (count_front test hold holds)
  where
    by : (b : Bool) → (b || list_any test holds) ≡ false → (list_any test holds ≡ false → count_by test holds ≡ 0) →
        count_by test (hold ∷ holds) ≡ one_if b + count_by test holds → count_by test (hold ∷ holds) ≡ 0
    by true is again front = absurd (true≢false is)
    by false is again front = let zero = again is in omega (arith, front, zero)

-- ---- those of a key

-- those that pass a test pass another one or do not
count_splits : (one other : Hold → Bool) (holds : Holds) →
    count_by one holds ≡ count_by (λ hold. one hold && not (other hold)) holds + count_by (λ hold. one hold && other hold) holds
count_splits one other [] = refl
count_splits one other (hold ∷ holds) =
    by (one hold) (other hold) (count_splits one other holds) (count_front one hold holds)
    (count_front (λ hold. one hold && not (other hold)) hold holds) (count_front (λ hold. one hold && other hold) hold holds)
  where
    all : Holds
    all = hold ∷ holds

    by : (a b : Bool) →
        count_by one holds ≡ count_by (λ hold. one hold && not (other hold)) holds + count_by (λ hold. one hold && other hold) holds →
        count_by one all ≡ one_if a + count_by one holds →
        count_by (λ hold. one hold && not (other hold)) all
        ≡ one_if (a && not b) + count_by (λ hold. one hold && not (other hold)) holds →
        count_by (λ hold. one hold && other hold) all ≡ one_if (a && b) + count_by (λ hold. one hold && other hold) holds →
        count_by one all ≡ count_by (λ hold. one hold && not (other hold)) all + count_by (λ hold. one hold && other hold) all
    by true true again whole apart same = omega (arith, again, whole, apart, same)
    by true false again whole apart same = omega (arith, again, whole, apart, same)
    by false b again whole apart same = omega (arith, again, whole, apart, same)

-- they are those by other slots, and the one by this slot
pub holders_split : (realm id : Text) (slot : ℕ) (holds : Holds) →
    length (holders realm id holds) ≡ length (others realm id slot holds) + count_by (is_hold realm id slot) holds
holders_split realm id slot holds =
    length-filter (is_of realm id) holds
    ∙ count_splits (is_of realm id) (has_slot slot) holds
    ∙ ap (λ n. n + count_by (is_hold realm id slot) holds)
    (sym (length-filter (λ hold. is_of realm id hold && not (has_slot slot hold)) holds))

pub holders_behind : (realm id : Text) (hold : Hold) (holds : Holds) →
    length (holders realm id (holds ++ hold ∷ [])) ≡ length (holders realm id holds) + one_if (is_of realm id hold)
holders_behind realm id hold holds =
    length-filter (is_of realm id) (holds ++ hold ∷ [])
    ∙ count_behind (is_of realm id) hold holds
    ∙ ap (λ n. n + one_if (is_of realm id hold)) (sym (length-filter (is_of realm id) holds))
