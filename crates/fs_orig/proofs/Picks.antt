-- What `min` and `max` pick of numbers.
use Rattle.std.proofs.Common.{◌≡◌, ℕ, ◌≤◌, ◌⊎◌, inl, inr, min, max, List, [], ◌∷◌, Option, None, Some, slice_get, zero, suc, refl, sym}
use Rattle.std.proofs.Common.{subst, ◌∙◌, ap, arith}
use Rattle.std.specs.List.{filter_map, cons_option, fold, reduce}
use Rattle.std.specs.Option.{option_and_then}

-- of two numbers it picks one that is before both
pub record IsPick (op : ℕ → ℕ → ℕ) (R : ℕ → ℕ → Type 0) : Type 0 where
  pub same : (a : ℕ) → R a a
  pub left : (a b : ℕ) → R (op a b) a
  pub right : (a b : ℕ) → R (op a b) b
  pub along : (a b c : ℕ) → R a b → R b c → R a c
  pub one : (a b : ℕ) → (op a b ≡ a) ⊎ (op a b ≡ b)

abbrev pub IsAtMost : ℕ → ℕ → Type 0
IsAtMost a b = a ≤ b

abbrev pub IsAtLeast : ℕ → ℕ → Type 0
IsAtLeast a b = b ≤ a

pub min_picks : IsPick min IsAtMost
min_picks = record {
  same = λ a. omega arith;
  left = λ a b. omega arith;
  right = λ a b. omega arith;
  along = λ a b c ab bc. omega arith;
  one = λ a b. min_one a b;
}
  where
    min_one : (a b : ℕ) → (min a b ≡ a) ⊎ (min a b ≡ b)
    min_one a b = grind arith

pub max_picks : IsPick max IsAtLeast
max_picks = record {
  same = λ a. omega arith;
  left = λ a b. omega arith;
  right = λ a b. omega arith;
  along = λ a b c ab bc. omega arith;
  one = λ a b. max_one a b;
}
  where
    max_one : (a b : ℕ) → (max a b ≡ a) ⊎ (max a b ≡ b)
    max_one a b = grind arith

-- ---- the number that elements give

abbrev pub given_at : {X : Type 0} → (X → Option ℕ) → List X → ℕ → Option ℕ
given_at f xs k = option_and_then f (slice_get xs k)

pub fold_start : {X : Type 0} (op : ℕ → ℕ → ℕ) (R : ℕ → ℕ → Type 0) (pick : IsPick op R) (f : X → Option ℕ) (xs : List X) (a : ℕ) →
    R (fold op a (filter_map f xs)) a
fold_start op R pick f [] a = pick.same a
fold_start op R pick f (x ∷ xs) a = by_value (f x) (λ b. fold_start op R pick f xs b)
  where
    by_value : (v : Option ℕ) → ((b : ℕ) → R (fold op b (filter_map f xs)) b) → R (fold op a (cons_option v (filter_map f xs))) a
    by_value None later = later a
    by_value (Some y) later = pick.along _ (op a y) a (later (op a y)) (pick.left a y)

pub fold_each : {X : Type 0} (op : ℕ → ℕ → ℕ) (R : ℕ → ℕ → Type 0) (pick : IsPick op R) (f : X → Option ℕ) (xs : List X) (a k y : ℕ) →
    given_at f xs k ≡ Some y → R (fold op a (filter_map f xs)) y
fold_each op R pick f [] a k y h = absurd (cc)
fold_each {X} op R pick f (x ∷ xs) a zero y h =
    let P : Option ℕ → Type 0 = λ v. R (fold op a (cons_option v (filter_map f xs))) y in
    subst P (sym h) (pick.along _ (op a y) y (fold_start op R pick f xs (op a y)) (pick.right a y))
fold_each {X} op R pick f (x ∷ xs) a (suc k) y h = by_value (f x) (λ b. fold_each op R pick f xs b k y h)
  where
    by_value : (v : Option ℕ) → ((b : ℕ) → R (fold op b (filter_map f xs)) y) → R (fold op a (cons_option v (filter_map f xs))) y
    by_value None later = later a
    by_value (Some z) later = later (op a z)

-- the number picked is the first one, or an element gives it
abbrev pub Met : {X : Type 0} → (X → Option ℕ) → List X → ℕ → ℕ → Type 0
Met f xs a picked = (picked ≡ a) ⊎ ((k : ℕ) × (given_at f xs k ≡ Some picked))

pub fold_met : {X : Type 0} (op : ℕ → ℕ → ℕ) (R : ℕ → ℕ → Type 0) (pick : IsPick op R) (f : X → Option ℕ) (xs : List X) (a : ℕ) →
    Met f xs a (fold op a (filter_map f xs))
fold_met op R pick f [] a = inl refl
fold_met {X} op R pick f (x ∷ xs) a = by_value (f x) refl (λ b. fold_met op R pick f xs b)
  where
    by_value : (v : Option ℕ) → f x ≡ v → ((b : ℕ) → Met f xs b (fold op b (filter_map f xs))) →
        Met f (x ∷ xs) a (fold op a (cons_option v (filter_map f xs)))
    by_value None is later =
        elim (later a) [ inl same ↦ inl same | inr met ↦ inr (suc met.0, met.1) ]
    by_value (Some y) is later =
        elim (later (op a y)) [
          | inl same ↦ elim (pick.one a y) [
            | inl first ↦ inl (same ∙ first)
            | inr second ↦ inr (0, is ∙ ap Some (sym (same ∙ second)))
          ]
          | inr met ↦ inr (suc met.0, met.1)
        ]

-- an element gives the number, and it is before each that is given
pub record IsPicked {X : Type 0} (R : ℕ → ℕ → Type 0) (f : X → Option ℕ) (xs : List X) (m : ℕ) : Type 0 where
  pub at : ℕ
  pub met : given_at f xs at ≡ Some m
  pub each : (k y : ℕ) → given_at f xs k ≡ Some y → R m y

picked_shifted : {X : Type 0} (R : ℕ → ℕ → Type 0) (f : X → Option ℕ) (x : X) (xs : List X) (m : ℕ) → f x ≡ None → IsPicked R f xs m →
    IsPicked R f (x ∷ xs) m
picked_shifted R f x xs m is picked = record { at = suc picked.at; met = picked.met; each = λ k. each k }
  where
    each : (k y : ℕ) → given_at f (x ∷ xs) k ≡ Some y → R m y
    each zero y h = absurd (let never : None ≡ Some y = sym is ∙ h in cc)
    each (suc k) y h = picked.each k y h

picked_first : {X : Type 0} (op : ℕ → ℕ → ℕ) (R : ℕ → ℕ → Type 0) (pick : IsPick op R) (f : X → Option ℕ) (x : X) (xs : List X) (a : ℕ) →
    f x ≡ Some a → IsPicked R f (x ∷ xs) (fold op a (filter_map f xs))
picked_first {X} op R pick f x xs a is =
    elim (fold_met op R pick f xs a) [
      | inl same ↦ record { at = 0; met = is ∙ ap Some (sym same); each = λ k. each k }
      | inr met ↦ record { at = suc met.0; met = met.1; each = λ k. each k }
    ]
  where
    each : (k y : ℕ) → given_at f (x ∷ xs) k ≡ Some y → R (fold op a (filter_map f xs)) y
    each zero y h =
        let same : Some a ≡ Some y = sym is ∙ h in
        let here : a ≡ y = cc in
        let P : ℕ → Type 0 = λ n. R (fold op a (filter_map f xs)) n in
        subst P here (fold_start op R pick f xs a)
    each (suc k) y h = fold_each op R pick f xs a k y h

-- what is picked of the numbers that elements give
pub reduce_picks : {X : Type 0} (op : ℕ → ℕ → ℕ) (R : ℕ → ℕ → Type 0) (pick : IsPick op R) (f : X → Option ℕ) (xs : List X) (m : ℕ) →
    reduce op (filter_map f xs) ≡ Some m → IsPicked R f xs m
reduce_picks op R pick f [] m h = absurd (cc)
reduce_picks {X} op R pick f (x ∷ xs) m h = by_value (f x) refl (λ e. reduce_picks op R pick f xs m e) h
  where
    by_value : (v : Option ℕ) → f x ≡ v → (reduce op (filter_map f xs) ≡ Some m → IsPicked R f xs m) →
        reduce op (cons_option v (filter_map f xs)) ≡ Some m → IsPicked R f (x ∷ xs) m
    by_value None is later e = picked_shifted R f x xs m is (later e)
    by_value (Some a) is later e =
        let same : fold op a (filter_map f xs) ≡ m = cc in
        let P : ℕ → Type 0 = λ n. IsPicked R f (x ∷ xs) n in
        subst P same (picked_first op R pick f x xs a is)

-- where an element gives a number, one is picked
pub reduce_there : {X : Type 0} (op : ℕ → ℕ → ℕ) (f : X → Option ℕ) (xs : List X) (k y : ℕ) → given_at f xs k ≡ Some y →
    (m : ℕ) × (reduce op (filter_map f xs) ≡ Some m)
reduce_there op f [] k y h = absurd (cc)
reduce_there op f (x ∷ xs) zero y h =
    let P : Option ℕ → Type 0 = λ v. (m : ℕ) × (reduce op (cons_option v (filter_map f xs)) ≡ Some m) in
    subst P (sym h) (fold op y (filter_map f xs), refl)
reduce_there {X} op f (x ∷ xs) (suc k) y h = by_value (f x) (reduce_there op f xs k y h)
  where
    by_value : (v : Option ℕ) → ((m : ℕ) × (reduce op (filter_map f xs) ≡ Some m)) →
        (m : ℕ) × (reduce op (cons_option v (filter_map f xs)) ≡ Some m)
    by_value None later = later
    by_value (Some a) later = (fold op a (filter_map f xs), refl)
