-- The first position at which a test passes, and the last value in a list that has some.
use Rattle.std.proofs.Common.{◌≡◌, ℕ, ◌+◌, ◌<◌, ◌⊎◌, inl, inr, Bool, true, false, cond, List, [], ◌∷◌, Option, None, Some, slice_get, zero}
use Rattle.std.proofs.Common.{suc, refl, sym, subst, ◌∙◌, arith}
use Rattle.std.specs.List.{position, position_from, last_or, filter_map, cons_option}
use Rattle.std.specs.Option.{option_and_then}
use Rattle.std.proofs.lemmas.Iterator.Adapters.{position_from-zero}

-- ---- a test

-- there is an element, and it passes
abbrev pub passes : {X : Type 0} → (X → Bool) → Option X → Bool
passes p None = false
passes p (Some x) = p x

-- the element at a position passes, and none before it does
pub record IsFirst {X : Type 0} (p : X → Bool) (xs : List X) (k : ℕ) : Type 0 where
  pub here : passes p (slice_get xs k) ≡ true
  pub before : (j : ℕ) → j < k → passes p (slice_get xs j) ≡ false

before_more : {X : Type 0} (p : X → Bool) (x : X) (xs : List X) (k : ℕ) → p x ≡ false →
    ((j : ℕ) → j < k → passes p (slice_get xs j) ≡ false) → (j : ℕ) → j < suc k → passes p (slice_get (x ∷ xs) j) ≡ false
before_more p x xs k is before zero lt = is
before_more p x xs k is before (suc j) lt = before j (omega arith)

first_from : {X : Type 0} (p : X → Bool) (xs : List X) (i q : ℕ) → position_from p i xs ≡ Some q → (k : ℕ) × ((q ≡ i + k) × IsFirst p xs k)
first_from p [] i q h = absurd (cc)
first_from {X} p (x ∷ xs) i q h = by_test (p x) refl (λ e. first_from p xs (i + 1) q e) h
  where
    by_test : (b : Bool) → p x ≡ b → (position_from p (i + 1) xs ≡ Some q → (k : ℕ) × ((q ≡ (i + 1) + k) × IsFirst p xs k)) →
        cond b (Some i) (position_from p (i + 1) xs) ≡ Some q → (k : ℕ) × ((q ≡ i + k) × IsFirst p (x ∷ xs) k)
    by_test true is later e =
        let same : i ≡ q = cc in
        (0, (omega (arith, same), record { here = is; before = λ j lt. absurd (omega arith) }))
    by_test false is later e =
        let found : (k : ℕ) × ((q ≡ (i + 1) + k) × IsFirst p xs k) = later e in
        (suc found.0, (omega (arith, found.1.0), record { here = found.1.1.here; before = before_more p x xs found.0 is found.1.1.before }))

-- what `position` finds is the first that passes
pub position_is_first : {X : Type 0} (p : X → Bool) (xs : List X) (q : ℕ) → position p xs ≡ Some q → IsFirst p xs q
position_is_first p xs q h =
    let found : (k : ℕ) × ((q ≡ 0 + k) × IsFirst p xs k) = first_from p xs 0 q (sym (position_from-zero p xs) ∙ h) in
    let same : found.0 ≡ q = omega (arith, found.1.0) in
    subst (λ (k : ℕ). IsFirst p xs k) same found.1.1

none_from : {X : Type 0} (p : X → Bool) (xs : List X) (i k : ℕ) → position_from p i xs ≡ None → passes p (slice_get xs k) ≡ false
none_from p [] i k h = refl
none_from {X} p (x ∷ xs) i k h = by_test (p x) refl (λ j e. none_from p xs (i + 1) j e) k h
  where
    by_test : (b : Bool) → p x ≡ b → ((j : ℕ) → position_from p (i + 1) xs ≡ None → passes p (slice_get xs j) ≡ false) → (k : ℕ) →
        cond b (Some i) (position_from p (i + 1) xs) ≡ None → passes p (slice_get (x ∷ xs) k) ≡ false
    by_test true is later k e = absurd (cc)
    by_test false is later zero e = is
    by_test false is later (suc k) e = later k e

-- where `position` finds nothing, none passes
pub position_is_none : {X : Type 0} (p : X → Bool) (xs : List X) (k : ℕ) → position p xs ≡ None → passes p (slice_get xs k) ≡ false
position_is_none p xs k h = none_from p xs 0 k (sym (position_from-zero p xs) ∙ h)

-- ---- the last value

-- the element at a position gives a value, and none behind it does
pub record IsLast {X C : Type 0} (h : X → Option C) (xs : List X) (c : C) : Type 0 where
  pub at : ℕ
  pub here : option_and_then h (slice_get xs at) ≡ Some c
  pub behind : (k : ℕ) → at < k → option_and_then h (slice_get xs k) ≡ None

abbrev pub GivesNone : {X C : Type 0} → (X → Option C) → List X → Type 0
GivesNone h xs = (k : ℕ) → option_and_then h (slice_get xs k) ≡ None

gives_none_more : {X C : Type 0} (h : X → Option C) (x : X) (xs : List X) → h x ≡ None → GivesNone h xs → GivesNone h (x ∷ xs)
gives_none_more h x xs is none zero = is
gives_none_more h x xs is none (suc k) = none k

last_shifted : {X C : Type 0} (h : X → Option C) (x : X) (xs : List X) (c : C) → IsLast h xs c → IsLast h (x ∷ xs) c
last_shifted h x xs c last = record { at = suc last.at; here = last.here; behind = λ k. behind k }
  where
    behind : (k : ℕ) → suc last.at < k → option_and_then h (slice_get (x ∷ xs) k) ≡ None
    behind zero lt = absurd (omega arith)
    behind (suc k) lt = last.behind k (omega arith)

last_first : {X C : Type 0} (h : X → Option C) (x : X) (xs : List X) (c : C) → h x ≡ Some c → GivesNone h xs → IsLast h (x ∷ xs) c
last_first h x xs c is none = record { at = 0; here = is; behind = λ k. behind k }
  where
    behind : (k : ℕ) → 0 < k → option_and_then h (slice_get (x ∷ xs) k) ≡ None
    behind zero lt = absurd (omega arith)
    behind (suc k) lt = none k

abbrev pub LastOr : {X C : Type 0} → (X → Option C) → Option C → List X → List C → Type 0
LastOr {X} {C} h o xs values = ((last_or o values ≡ o) × GivesNone h xs) ⊎ ((c : C) × ((last_or o values ≡ Some c) × IsLast h xs c))

last_cases : {X C : Type 0} (h : X → Option C) (xs : List X) (o : Option C) → LastOr h o xs (filter_map h xs)
last_cases h [] o = inl (refl, λ k. refl)
last_cases {X} {C} h (x ∷ xs) o = by_value (h x) refl (λ v. last_cases h xs v)
  where
    by_value : (v : Option C) → h x ≡ v → ((w : Option C) → LastOr h w xs (filter_map h xs)) →
        LastOr h o (x ∷ xs) (cons_option v (filter_map h xs))
    by_value None is later =
        elim (later o) [
          | inl none ↦ inl (none.0, gives_none_more h x xs is none.1)
          | inr found ↦ inr (found.0, (found.1.0, last_shifted h x xs found.0 found.1.1))
        ]
    by_value (Some c) is later =
        elim (later (Some c)) [
          | inl none ↦ inr (c, (none.0, last_first h x xs c is none.1))
          | inr found ↦ inr (found.0, (found.1.0, last_shifted h x xs found.0 found.1.1))
        ]

-- where an element gives a value, the last value is that of the last such element
pub last_is : {X C : Type 0} (h : X → Option C) (xs : List X) (k : ℕ) (c : C) → option_and_then h (slice_get xs k) ≡ Some c →
    (last : C) × ((last_or None (filter_map h xs) ≡ Some last) × IsLast h xs last)
last_is h xs k c is =
    elim (last_cases h xs None) [
      | inl none ↦ absurd (let never : None ≡ Some c = sym (none.1 k) ∙ is in cc)
      | inr found ↦ found
    ]
