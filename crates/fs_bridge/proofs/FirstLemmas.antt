-- Things in order of slots, and the first that is told of each slot.
use Rattle.std.proofs.Common.{◌≡◌, ℕ, suc, ◌+◌, ◌<◌, ◌≤◌, Bool, true, false, cond, List, [], ◌∷◌, ◌++◌, fold, filter}
use Rattle.std.proofs.Common.{◌⊎◌, inl, inr, refl, ap, sym, subst, ◌∙◌, arith}
use Rattle.std.specs.Prelude.{◌==◌, nat_lt, insert, count_by}
use Rattle.std.proofs.lemmas.Bool.{eqb-true, or_cases, or_from, or_parts, true≢false, false_from_ne_true, ltb-true, ltb-false}
use Rattle.std.proofs.lemmas.Cmp.{nat_eq_equiv}
use Rattle.std.proofs.lemmas.List.Sums.{sum_by-cons}
use Rattle.fs_bridge.specs.Orders.{has_slot, placed, in_order}
use Rattle.fs_bridge.specs.Hangups.{IsOneOf}
use Rattle.fs_bridge.proofs.DragLemmas.{one_insert}
use Rattle.fs_bridge.proofs.OnceLemmas.{has_placed}
use Rattle.fs_bridge.proofs.SurvivorLemmas.{new_placed, kept_fold}

-- ---- whoever is told of a slot

pub one_at : {T : Type 0} (slot : ℕ) (xs : List (ℕ × T)) → has_slot slot xs ≡ true → (t : T) × IsOneOf (slot, t) xs
one_at slot [] is = absurd (true≢false (sym is))
one_at slot (y ∷ ys) is =
    elim (or_cases (y.0 == slot) (has_slot slot ys) is) [
      | inl here ↦ (y.1, inl (ap (λ s. (s, y.1)) (sym (eqb-true y.0 slot here))))
      | inr there ↦ let behind = one_at slot ys there in (behind.0, inr behind.1)
    ]

pub none_at : {T : Type 0} (slot : ℕ) (xs : List (ℕ × T)) → ((t : T) → IsOneOf (slot, t) xs → ⊥) → has_slot slot xs ≡ false
none_at slot xs none =
    false_from_ne_true (has_slot slot xs) (λ is. let there = one_at slot xs is in none there.0 there.1)

-- ---- the first of a slot

-- it is one of them, and none before it is told of its slot
abbrev pub IsFirst : {T : Type 0} → ℕ × T → List (ℕ × T) → Type 0
IsFirst x [] = ⊥
IsFirst x (y ∷ ys) = (x ≡ y) ⊎ (((y.0 == x.0) ≡ false) × IsFirst x ys)

pub first_one : {T : Type 0} (x : ℕ × T) (xs : List (ℕ × T)) → IsFirst x xs → IsOneOf x xs
first_one x [] is = is
first_one x (y ∷ ys) (inl same) = inl same
first_one x (y ∷ ys) (inr is) = inr (first_one x ys is.1)

-- one that all of its slot are is the first
pub only_first : {T : Type 0} (x : ℕ × T) (xs : List (ℕ × T)) → IsOneOf x xs → ((y : ℕ × T) → IsOneOf y xs → y.0 ≡ x.0 → x ≡ y) →
    IsFirst x xs
only_first x [] is only = is
only_first {T} x (y ∷ ys) is only =
    by (y.0 == x.0) refl (λ behind. only_first x ys behind (λ z one. only z (inr one))) is
  where
    by : (b : Bool) → (y.0 == x.0) ≡ b → (IsOneOf x ys → IsFirst x ys) → (x ≡ y) ⊎ IsOneOf x ys → IsFirst x (y ∷ ys)
    by true here behind is = inl (only y (inl refl) (eqb-true y.0 x.0 here))
    by false here behind (inl same) = inl same
    by false here behind (inr is) = inr (here, behind is)

pub first_front : {T : Type 0} (x : ℕ × T) (xs ys : List (ℕ × T)) → IsFirst x xs → IsFirst x (xs ++ ys)
first_front x [] ys is = absurd is
first_front x (y ∷ xs) ys (inl same) = inl same
first_front x (y ∷ xs) ys (inr is) = inr (is.0, first_front x xs ys is.1)

pub first_back : {T : Type 0} (x : ℕ × T) (xs ys : List (ℕ × T)) → has_slot x.0 xs ≡ false → IsFirst x ys → IsFirst x (xs ++ ys)
first_back x [] ys none is = is
first_back x (y ∷ xs) ys none is =
    let parts = or_parts (y.0 == x.0) (has_slot x.0 xs) none in
    inr (parts.0, first_back x xs ys parts.1 is)

pub first_parts : {T : Type 0} (x : ℕ × T) (xs ys : List (ℕ × T)) → IsFirst x (xs ++ ys) →
    IsFirst x xs ⊎ ((has_slot x.0 xs ≡ false) × IsFirst x ys)
first_parts x [] ys is = inr (refl, is)
first_parts x (y ∷ xs) ys (inl same) = inl (inl same)
first_parts x (y ∷ xs) ys (inr is) =
    elim (first_parts x xs ys is.1) [
      | inl front ↦ inl (inr (is.0, front))
      | inr back ↦ inr (or_from (y.0 == x.0) (has_slot x.0 xs) is.0 back.0, back.1)
    ]

-- a test of slots keeps the first of each slot that it passes
pub first_kept : {T : Type 0} (test : ℕ → Bool) (x : ℕ × T) (xs : List (ℕ × T)) → test x.0 ≡ true → IsFirst x xs →
    IsFirst x (filter (λ y. test y.0) xs)
first_kept test x [] passes is = is
first_kept {T} test x (y ∷ ys) passes is = by (test y.0) refl (first_kept test x ys passes) is
  where
    rest : List (ℕ × T)
    rest = filter (λ z. test z.0) ys

    by : (b : Bool) → test y.0 ≡ b → (IsFirst x ys → IsFirst x rest) → IsFirst x (y ∷ ys) → IsFirst x (cond b (y ∷ rest) rest)
    by true kept behind (inl same) = inl same
    by true kept behind (inr is) = inr (is.0, behind is.1)
    by false kept behind (inl same) = absurd (true≢false (sym passes ∙ ap (λ z. test z.0) same ∙ kept))
    by false kept behind (inr is) = behind is.1

pub first_filter : {T : Type 0} (test : ℕ → Bool) (x : ℕ × T) (xs : List (ℕ × T)) → IsFirst x (filter (λ y. test y.0) xs) →
    (test x.0 ≡ true) × IsFirst x xs
first_filter test x [] is = absurd is
first_filter {T} test x (y ∷ ys) is = by (test y.0) refl (first_filter test x ys) is
  where
    rest : List (ℕ × T)
    rest = filter (λ z. test z.0) ys

    apart : test y.0 ≡ false → test x.0 ≡ true → (y.0 == x.0) ≡ false
    apart kept passes =
        false_from_ne_true (y.0 == x.0)
        (λ here. true≢false (sym passes ∙ ap (λ s. test s) (sym (eqb-true y.0 x.0 here)) ∙ kept))

    by : (b : Bool) → test y.0 ≡ b → (IsFirst x rest → (test x.0 ≡ true) × IsFirst x ys) → IsFirst x (cond b (y ∷ rest) rest) →
        (test x.0 ≡ true) × IsFirst x (y ∷ ys)
    by true kept behind (inl same) = (ap (λ z. test z.0) same ∙ kept, inl same)
    by true kept behind (inr is) = let more = behind is.1 in (more.0, inr (is.0, more.1))
    by false kept behind is = let more = behind is in (more.0, inr (apart kept more.0, more.1))

-- ---- in order stands the first of each slot

placed_case : {T : Type 0} (x : ℕ × T) (things : List (ℕ × T)) (i : ℕ) (t : ℕ × T) (stands : Bool) → has_slot t.0 things ≡ stands →
    IsOneOf x (cond stands things (insert things i t)) → IsOneOf x things ⊎ ((has_slot t.0 things ≡ false) × (x ≡ t))
placed_case x things i t true stands is = inl is
placed_case x things i t false stands is =
    elim (one_insert x things i t is) [ inl same ↦ inr (stands, same) | inr there ↦ inl there ]

placed_parts : {T : Type 0} (x : ℕ × T) (things : List (ℕ × T)) (t : ℕ × T) → IsOneOf x (placed things t) →
    IsOneOf x things ⊎ ((has_slot t.0 things ≡ false) × (x ≡ t))
unfolding placed
placed_parts x things t is =
    placed_case x things (count_by (λ other. nat_lt other.0 t.0) things) t (has_slot t.0 things) refl is

order_first : {T : Type 0} (x : ℕ × T) (before things : List (ℕ × T)) → IsOneOf x (fold placed before things) →
    IsOneOf x before ⊎ ((has_slot x.0 before ≡ false) × IsFirst x things)
order_first x before [] is = inl is
order_first x before (t ∷ things) is =
    elim (order_first x (placed before t) things is) [
      | inl there ↦ elim (placed_parts x before t there) [
        | inl old ↦ inl old
        | inr new ↦ inr (ap (λ y. has_slot y.0 before) new.1 ∙ new.0, inl new.1)
      ]
      | inr later ↦
          let parts = or_parts (t.0 == x.0) (has_slot x.0 before) (sym (has_placed x.0 before t) ∙ later.0) in
          inr (parts.1, inr (parts.0, later.1))
    ]

pub first_order : {T : Type 0} (x : ℕ × T) (before things : List (ℕ × T)) → has_slot x.0 before ≡ false → IsFirst x things →
    IsOneOf x (fold placed before things)
first_order x before [] new is = absurd is
first_order x before (t ∷ things) new (inl same) =
    subst (λ y. IsOneOf y (fold placed (placed before t) things)) (sym same)
    (kept_fold t (placed before t) things (new_placed before t (ap (λ y. has_slot y.0 before) (sym same) ∙ new)))
first_order x before (t ∷ things) new (inr is) =
    first_order x (placed before t) things (has_placed x.0 before t ∙ or_from (t.0 == x.0) (has_slot x.0 before) is.0 new) is.1

pub in_order_first : {T : Type 0} (x : ℕ × T) (things : List (ℕ × T)) → IsOneOf x (in_order things) → IsFirst x things
in_order_first x things is = elim (order_first x [] things is) [ inl none ↦ absurd none | inr first ↦ first.1 ]

pub first_in_order : {T : Type 0} (x : ℕ × T) (things : List (ℕ × T)) → IsFirst x things → IsOneOf x (in_order things)
first_in_order x things is = first_order x [] things refl is

-- ---- in order of slots

-- each stands in a lesser slot than all behind it
abbrev pub IsSorted : {T : Type 0} → List (ℕ × T) → Type 0
IsSorted [] = Unit {0}
IsSorted {T} (x ∷ xs) = ((y : ℕ × T) → IsOneOf y xs → x.0 < y.0) × IsSorted xs

-- how many are in lesser slots
abbrev lesser : {T : Type 0} → ℕ → List (ℕ × T) → ℕ
lesser slot things = count_by (λ other. nat_lt other.0 slot) things

lesser_front : {T : Type 0} (slot : ℕ) (x : ℕ × T) (xs : List (ℕ × T)) →
    lesser slot (x ∷ xs) ≡ cond (nat_lt x.0 slot) 1 0 + lesser slot xs
lesser_front {T} slot x xs = sum_by-cons (λ (other : ℕ × T). cond (nat_lt other.0 slot) 1 0) x xs

none_lesser : {T : Type 0} (slot : ℕ) (xs : List (ℕ × T)) → ((y : ℕ × T) → IsOneOf y xs → slot ≤ y.0) → lesser slot xs ≡ 0
none_lesser slot [] greater = refl
none_lesser slot (y ∷ ys) greater = by (nat_lt y.0 slot) refl (none_lesser slot ys (λ z is. greater z (inr is)))
  where
    by : (b : Bool) → nat_lt y.0 slot ≡ b → lesser slot ys ≡ 0 → lesser slot (y ∷ ys) ≡ 0
    by true less none =
        let below = ltb-true y.0 slot less in
        let above = greater y (inl refl) in
        absurd (omega (arith, below, above))
    by false less none =
        let front = lesser_front slot y ys ∙ ap (λ b. cond b 1 0 + lesser slot ys) less in
        omega (arith, front, none)

greater : (a b : ℕ) → a ≤ b → (b == a) ≡ false → a < b
greater a b up_to apart =
    let other : b ≡ a → ⊥ = λ same. true≢false (sym (ap (λ n. n == a) same ∙ nat_eq_equiv.refl a) ∙ apart) in
    omega (arith, up_to, other)

sorted_insert : {T : Type 0} (t : ℕ × T) (xs : List (ℕ × T)) → IsSorted xs → has_slot t.0 xs ≡ false →
    IsSorted (insert xs (lesser t.0 xs) t)
sorted_insert t [] sorted new = (λ y is. absurd is, tt)
sorted_insert {T} t (x ∷ xs) sorted new =
    by (nat_lt x.0 t.0) refl (sorted_insert t xs sorted.1 parts.1)
  where
    parts : ((x.0 == t.0) ≡ false) × (has_slot t.0 xs ≡ false)
    parts = or_parts (x.0 == t.0) (has_slot t.0 xs) new

    behind : (y : ℕ × T) → x.0 < t.0 → IsOneOf y (insert xs (lesser t.0 xs) t) → x.0 < y.0
    behind y less is =
        elim (one_insert y xs (lesser t.0 xs) t is) [
          | inl same ↦ subst (λ z. x.0 < z.0) (sym same) less
          | inr there ↦ sorted.0 y there
        ]

    all : t.0 < x.0 → (y : ℕ × T) → IsOneOf y (x ∷ xs) → t.0 < y.0
    all less y (inl same) = subst (λ z. t.0 < z.0) (sym same) less
    all less y (inr is) = let more = sorted.0 y is in omega (arith, less, more)

    none : t.0 < x.0 → lesser t.0 (x ∷ xs) ≡ 0
    none less = none_lesser t.0 (x ∷ xs) (λ y is. let more = all less y is in omega (arith, more))

    by : (b : Bool) → nat_lt x.0 t.0 ≡ b → IsSorted (insert xs (lesser t.0 xs) t) →
        IsSorted (insert (x ∷ xs) (lesser t.0 (x ∷ xs)) t)
    by true less rest =
        let front = lesser_front t.0 x xs ∙ ap (λ b. cond b 1 0 + lesser t.0 xs) less in
        let count : suc (lesser t.0 xs) ≡ lesser t.0 (x ∷ xs) = omega (arith, front) in
        subst (λ n. IsSorted (insert (x ∷ xs) n t)) count ((λ y is. behind y (ltb-true x.0 t.0 less) is), rest)
    by false less rest =
        let above = greater t.0 x.0 (ltb-false x.0 t.0 less) parts.0 in
        subst (λ n. IsSorted (insert (x ∷ xs) n t)) (sym (none above)) (all above, sorted)

sorted_case : {T : Type 0} (things : List (ℕ × T)) (t : ℕ × T) (stands : Bool) → has_slot t.0 things ≡ stands → IsSorted things →
    IsSorted (cond stands things (insert things (lesser t.0 things) t))
sorted_case things t true stands sorted = sorted
sorted_case things t false stands sorted = sorted_insert t things sorted stands

sorted_placed : {T : Type 0} (things : List (ℕ × T)) (t : ℕ × T) → IsSorted things → IsSorted (placed things t)
unfolding placed
sorted_placed things t sorted = sorted_case things t (has_slot t.0 things) refl sorted

sorted_order : {T : Type 0} (before things : List (ℕ × T)) → IsSorted before → IsSorted (fold placed before things)
sorted_order before [] sorted = sorted
sorted_order before (t ∷ things) sorted = sorted_order (placed before t) things (sorted_placed before t sorted)

pub in_order_sorted : {T : Type 0} (things : List (ℕ × T)) → IsSorted (in_order things)
in_order_sorted things = sorted_order [] things tt

-- of one slot is one at most
pub sorted_same : {T : Type 0} (xs : List (ℕ × T)) (x y : ℕ × T) → IsSorted xs → IsOneOf x xs → IsOneOf y xs → x.0 ≡ y.0 → x ≡ y
sorted_same [] x y sorted one other same = absurd one
sorted_same (z ∷ xs) x y sorted (inl here) (inl too) same = here ∙ sym too
sorted_same (z ∷ xs) x y sorted (inl here) (inr behind) same =
    let less = sorted.0 y behind in
    let first = ap (λ t. t.0) here in
    absurd (omega (arith, less, first, same))
sorted_same (z ∷ xs) x y sorted (inr behind) (inl here) same =
    let less = sorted.0 x behind in
    let first = ap (λ t. t.0) here in
    absurd (omega (arith, less, first, same))
sorted_same (z ∷ xs) x y sorted (inr one) (inr other) same = sorted_same xs x y sorted.1 one other same
