-- Beginnings of one list, and sums over lists.
use Rattle.std.proofs.Common.{◌≡◌, ◌≢◌, ℕ, zero, suc, ◌+◌, ◌<◌, ◌≤◌, cond, eqb, List, [], ◌∷◌, ◌++◌, length, take, set, Some, slice_get}
use Rattle.std.proofs.Common.{refl, ap, sym, ◌∙◌, arith, append_assoc, length-append}
use Rattle.std.proofs.lemmas.Bool.Decides.{nat_tests}
use mathlib.Core.List.{IsPrefix}
use mathlib.Core.Option.{some, some-injective, some-ne-none}
use lib.ListN.{get_elem?}
use Rattle.fs_book.specs.Counts.{total, times, once_below}

-- each list begins with itself
pub prefix_self : {A : Type 0} (xs : List A) → IsPrefix xs xs
prefix_self [] = ([], refl)
prefix_self (x ∷ xs) = (let r = prefix_self xs in r.0, ap (λ ys. x ∷ ys) (prefix_self xs).1)

pub prefix_trans : {A : Type 0} (xs ys zs : List A) → IsPrefix xs ys → IsPrefix ys zs → IsPrefix xs zs
prefix_trans xs ys zs p q = (p.0 ++ q.0, sym (append_assoc xs p.0 q.0) ∙ (ap (λ w. w ++ q.0) p.1 ∙ q.1))

-- of two beginnings of one list the shorter begins the longer
pub prefix_shorter : {A : Type 0} (xs ys zs : List A) → IsPrefix xs zs → IsPrefix ys zs → length xs ≤ length ys → IsPrefix xs ys
prefix_shorter [] ys zs p q le = (ys, refl)
prefix_shorter (x ∷ xs) [] zs p q le = absurd (omega arith)
prefix_shorter (x ∷ xs) (y ∷ ys) [] p q le = absurd (cc (p.1))
prefix_shorter (x ∷ xs) (y ∷ ys) (z ∷ zs) p q le =
    let heads : x ≡ y = cc (p.1, q.1) in
    let rest = prefix_shorter xs ys zs (p.0, cc (p.1)) (q.0, cc (q.1)) (omega arith) in
    (rest.0, cc (heads, rest.1))

-- a beginning as long as the whole is the whole
pub prefix_whole : {A : Type 0} (xs ys : List A) → IsPrefix xs ys → length ys ≤ length xs → xs ≡ ys
prefix_whole [] [] p le = refl
prefix_whole [] (y ∷ ys) p le = absurd (omega arith)
prefix_whole (x ∷ xs) [] p le = absurd (cc (p.1))
prefix_whole (x ∷ xs) (y ∷ ys) p le =
    let rest = prefix_whole xs ys (p.0, cc (p.1)) (omega arith) in cc (p.1, rest)

pub prefix_length : {A : Type 0} (xs ys : List A) → IsPrefix xs ys → length xs ≤ length ys
prefix_length xs ys p = omega (arith, sym (ap length p.1) ∙ length-append xs p.0)

-- what stands in a beginning stands in the whole, at the same place
pub prefix_get : {A : Type 0} (xs ys : List A) (k : ℕ) (x : A) → IsPrefix xs ys → slice_get xs k ≡ Some x → slice_get ys k ≡ Some x
prefix_get [] ys k x p h = absurd cc
prefix_get (y ∷ xs) [] k x p h = absurd (cc (p.1))
prefix_get (y ∷ xs) (z ∷ ys) zero x p h = cc (p.1, h)
prefix_get (y ∷ xs) (z ∷ ys) (suc k) x p h = prefix_get xs ys k x (p.0, cc (p.1)) h

-- what stands in the whole, within a beginning, stands in the beginning
pub prefix_got : {A : Type 0} (xs ys : List A) (k : ℕ) (x : A) → IsPrefix xs ys → k < length xs → slice_get ys k ≡ Some x →
    slice_get xs k ≡ Some x
prefix_got [] ys k x p lt h = absurd (omega arith)
prefix_got (y ∷ xs) [] k x p lt h = absurd (cc (p.1))
prefix_got (y ∷ xs) (z ∷ ys) zero x p lt h = cc (p.1, h)
prefix_got (y ∷ xs) (z ∷ ys) (suc k) x p lt h = prefix_got xs ys k x (p.0, cc (p.1)) (omega arith) h

-- what stands before a place of a beginning stands before it in the whole
pub prefix_take : {A : Type 0} (xs ys : List A) (k : ℕ) → IsPrefix xs ys → k ≤ length xs → take k ys ≡ take k xs
prefix_take xs ys zero p le = refl
prefix_take [] ys (suc k) p le = absurd (omega arith)
prefix_take (x ∷ xs) [] (suc k) p le = absurd (cc (p.1))
prefix_take (x ∷ xs) (y ∷ ys) (suc k) p le =
    let rest = prefix_take xs ys k (p.0, cc (p.1)) (omega arith) in cc (p.1, rest)

pub empty_of : {A : Type 0} (xs : List A) → length xs ≡ 0 → xs ≡ []
empty_of [] is = refl
empty_of (x ∷ xs) is = absurd (omega arith)

-- a place where something stands is below the length
pub get_below : {A : Type 0} (xs : List A) (k : ℕ) (x : A) → slice_get xs k ≡ Some x → k < length xs
get_below [] k x h = absurd cc
get_below (y ∷ xs) zero x h = omega arith
get_below (y ∷ xs) (suc k) x h = let r = get_below xs k x h in omega arith

-- the place of the entry that was appended
pub get_last : {A : Type 0} (xs : List A) (x y : A) → slice_get (xs ++ x ∷ []) (length xs) ≡ Some y → x ≡ y
get_last [] x y h = cc h
get_last (z ∷ xs) x y h = get_last xs x y h

pub last_get : {A : Type 0} (xs : List A) (x : A) → slice_get (xs ++ x ∷ []) (length xs) ≡ Some x
last_get [] x = refl
last_get (z ∷ xs) x = last_get xs x

pub last_take : {A : Type 0} (xs : List A) (x : A) → take (length xs) (xs ++ x ∷ []) ≡ xs
last_take [] x = refl
last_take (z ∷ xs) x = ap (λ ys. z ∷ ys) (last_take xs x)

module _ {V : Type 0} (f : V → ℕ) where
  pub total_set : (vs : List V) (i : ℕ) (v w : V) → get_elem? vs i ≡ some v → total f (set vs i w) + f v ≡ total f vs + f w
  total_set [] i v w at = absurd (some-ne-none v (sym at))
  total_set (u ∷ vs) zero v w at = let e : f u ≡ f v = ap f (some-injective u v at) in omega arith
  total_set (u ∷ vs) (suc i) v w at = let r = total_set vs i v w at in omega arith

  pub total_append : (vs ws : List V) → total f (vs ++ ws) ≡ total f vs + total f ws
  total_append [] ws = omega arith
  total_append (u ∷ vs) ws = let r = total_append vs ws in omega arith

  pub total_push : (vs : List V) (w : V) → total f (vs ++ w ∷ []) ≡ total f vs + f w
  total_push vs w = let r = total_append vs (w ∷ []) in omega arith

  -- each term is at most the sum
  pub one_le_total : (vs : List V) (i : ℕ) (v : V) → get_elem? vs i ≡ some v → f v ≤ total f vs
  one_le_total [] i v at = absurd (some-ne-none v (sym at))
  one_le_total (u ∷ vs) zero v at = let e : f u ≡ f v = ap f (some-injective u v at) in omega arith
  one_le_total (u ∷ vs) (suc i) v at = let r = one_le_total vs i v at in omega arith

  -- so are two terms at different places
  pub two_le_total : (vs : List V) (i j : ℕ) (v w : V) → i ≢ j → get_elem? vs i ≡ some v → get_elem? vs j ≡ some w → f v + f w ≤ total f vs
  two_le_total [] i j v w n at at' = absurd (some-ne-none v (sym at))
  two_le_total (u ∷ vs) zero zero v w n at at' = absurd (n refl)
  two_le_total (u ∷ vs) zero (suc j) v w n at at' =
      let e : f u ≡ f v = ap f (some-injective u v at) in let r = one_le_total vs j w at' in omega arith
  two_le_total (u ∷ vs) (suc i) zero v w n at at' =
      let e : f u ≡ f w = ap f (some-injective u w at') in let r = one_le_total vs i v at in omega arith
  two_le_total (u ∷ vs) (suc i) (suc j) v w n at at' = let r = two_le_total vs i j v w (λ e. n (ap suc e)) at at' in omega arith

  abbrev Positive : List V → Type 0
  Positive vs = (i : ℕ) × (v : V) × (get_elem? vs i ≡ some v) × (0 < f v)

  found : (u : V) (vs : List V) (n : ℕ) → f u ≡ n → (0 < total f vs → Positive vs) → 0 < f u + total f vs → Positive (u ∷ vs)
  found u vs zero e rest h = let r = rest (omega arith) in (suc r.0, r.1, r.2, r.3)
  found u vs (suc n) e rest h = (zero, u, refl, omega arith)

  -- where the sum is not 0, some term is not
  pub find : (vs : List V) → 0 < total f vs → Positive vs
  find [] h = absurd (omega arith)
  find (u ∷ vs) h = found u vs (f u) refl (find vs) h

  -- one term that is the whole sum leaves nothing for another
  pub total_only : (vs : List V) (i j : ℕ) (v w : V) → get_elem? vs i ≡ some v → total f vs ≤ f v → i ≢ j → get_elem? vs j ≡ some w →
      f w ≡ 0
  total_only vs i j v w at le n at' = let r = two_le_total vs i j v w n at at' in omega arith

-- each sum is at most the other where each term is
pub total_le : {V : Type 0} (f g : V → ℕ) (vs : List V) → ((i : ℕ) (v : V) → get_elem? vs i ≡ some v → f v ≤ g v) → total f vs ≤ total g vs
total_le f g [] h = omega arith
total_le f g (u ∷ vs) h = let r = total_le f g vs (λ i v at. h (suc i) v at) in let l = h zero u refl in omega arith

total_none : {V : Type 0} (vs : List V) → total (λ (v : V). 0) vs ≡ 0
total_none [] = refl
total_none (w ∷ ws) = let r = total_none ws in omega arith

-- a sum all of whose terms but one are 0
pub total_alone : {V : Type 0} (f : V → ℕ) (vs : List V) (i : ℕ) (v : V) → get_elem? vs i ≡ some v →
    ((j : ℕ) (w : V) → i ≢ j → get_elem? vs j ≡ some w → f w ≡ 0) → total f vs ≡ f v
total_alone f [] i v at h = absurd (some-ne-none v (sym at))
total_alone f (u ∷ vs) zero v at h =
    let z = total_le f (λ _. 0) vs (λ j w at'. let e = h (suc j) w (λ n. omega arith) at' in omega arith) in
    let o = total_none vs in
    let e : f u ≡ f v = ap f (some-injective u v at) in
    omega arith
total_alone f (u ∷ vs) (suc i) v at h =
    let z = h zero u (λ n. omega arith) refl in
    let r = total_alone f vs i v at (λ j w n at'. h (suc j) w (λ e. n (omega arith)) at') in
    omega arith

pub times_push : (p q : ℕ) (places : List ℕ) → times p (places ++ q ∷ []) ≡ times p places + cond (eqb q p) 1 0
times_push p q places = let r = total_push (λ (x : ℕ). cond (eqb x p) 1 0) places q in r

pub times_here : (p : ℕ) (places : List ℕ) → 0 < times p (places ++ p ∷ [])
times_here p places = let r = times_push p p places in grind (arith, nat_tests)

-- a place that stands in the longer list and is not the last stands in the list
pub times_before : (p q : ℕ) (places : List ℕ) → p ≢ q → 0 < times p (places ++ q ∷ []) → 0 < times p places
times_before p q places n h = let r = times_push p q places in grind (arith, nat_tests)

pub times_more : (p q : ℕ) (places : List ℕ) → 0 < times p places → 0 < times p (places ++ q ∷ [])
times_more p q places h = let r = times_push p q places in omega arith

pub once_more : (p n : ℕ) → once_below p (suc n) ≡ once_below p n + cond (eqb n p) 1 0
once_more p n = grind (arith, nat_tests)
