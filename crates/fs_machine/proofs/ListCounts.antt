-- How many of a list pass a test, and where one stands in it.
use Rattle.std.proofs.Common.{◌≡◌, ◌+◌, ◌≤◌, Bool, true, false, not, if◌then◌else◌, List, [], ◌∷◌, ◌++◌, length, get_or, drop, filter, count_by}
use Rattle.std.proofs.Common.{Some, option_to_list, ◌⊎◌, inl, inr, refl, sym, ap, ◌∙◌, arith, true≢false}
use Rattle.std.specs.List.{find, list_any}
use Rattle.std.proofs.lemmas.Bool.{or_left, or_right}
use Rattle.std.proofs.lemmas.List.{length-append}
use Rattle.std.proofs.lemmas.List.Filters.{sum_by-filter_both}
use Rattle.std.proofs.lemmas.List.Sums.{sum_by-cons}
use Rattle.std.proofs.lemmas.Option.{none-some, same_Some}
use Rattle.fs_bridge.specs.Hangups.{IsOneOf}
use Rattle.fs_bridge.proofs.RowLemmas.{one_if}

module _ {X : Type 0} where
  -- with one more in front
  pub counts_front : (test : X → Bool) (x : X) (xs : List X) → count_by test (x ∷ xs) ≡ one_if (test x) + count_by test xs
  counts_front test x xs = sum_by-cons (λ y. one_if (test y)) x xs

  -- a test that holds wherever another does counts no less
  pub counts_less : (p q : X → Bool) (xs : List X) → ((x : X) → IsOneOf x xs → p x ≡ true → q x ≡ true) →
      count_by p xs ≤ count_by q xs
  counts_less p q [] holds = omega arith
  counts_less p q (x ∷ xs) holds = by (p x) refl (counts_less p q xs (λ y one. holds y (inr one)))
    where
      by : (b : Bool) → p x ≡ b → count_by p xs ≤ count_by q xs → count_by p (x ∷ xs) ≤ count_by q (x ∷ xs)
      by true is rest =
          let one = counts_front p x xs ∙ ap (λ b. one_if b + count_by p xs) is in
          let other = counts_front q x xs ∙ ap (λ b. one_if b + count_by q xs) (holds x (inl refl) is) in
          omega (arith, rest, one, other)
      by false is rest =
          let one = counts_front p x xs ∙ ap (λ b. one_if b + count_by p xs) is in
          let other = counts_front q x xs in
          omega (arith, rest, one, other)

  -- none passes, or one of them does
  pub counts_some : (test : X → Bool) (xs : List X) → (count_by test xs ≡ 0) ⊎ ((x : X) × IsOneOf x xs × (test x ≡ true))
  counts_some test [] = inl refl
  counts_some test (x ∷ xs) = by (test x) refl (counts_some test xs)
    where
      by : (b : Bool) → test x ≡ b → (count_by test xs ≡ 0) ⊎ ((y : X) × IsOneOf y xs × (test y ≡ true)) →
          (count_by test (x ∷ xs) ≡ 0) ⊎ ((y : X) × IsOneOf y (x ∷ xs) × (test y ≡ true))
      by true is rest = inr (x, inl refl, is)
      by false is (inl none) =
          let front = counts_front test x xs ∙ ap (λ b. one_if b + count_by test xs) is in
          inl (omega (arith, none, front))
      by false is (inr some) = inr (some.0, inr some.1, some.2)

  -- what is found passes
  pub found_passes : (test : X → Bool) (xs : List X) (x : X) → find test xs ≡ Some x → test x ≡ true
  found_passes test [] x is = absurd (none-some x is)
  found_passes test (y ∷ ys) x is = by (test y) refl is (found_passes test ys x)
    where
      by : (b : Bool) → test y ≡ b → (if b then Some y else find test ys) ≡ Some x → (find test ys ≡ Some x → test x ≡ true) → test x ≡ true
      by true passes same later = ap test (sym (same_Some y x same)) ∙ passes
      by false fails there later = later there

  -- whatever passes is counted
  pub counts_one : (test : X → Bool) (x : X) (xs : List X) → IsOneOf x xs → test x ≡ true → 1 ≤ count_by test xs
  counts_one test x [] is passes = absurd is
  counts_one test x (y ∷ ys) (inl same) passes =
      let front = counts_front test y ys ∙ ap (λ b. one_if b + count_by test ys) (ap test (sym same) ∙ passes) in
      omega (arith, front)
  counts_one test x (y ∷ ys) (inr one) passes =
      let front = counts_front test y ys in let rest = counts_one test x ys one passes in omega (arith, front, rest)

  -- and so is what is found
  pub counts_found : (p q : X → Bool) (xs : List X) (x : X) → find p xs ≡ Some x → q x ≡ true → 1 ≤ count_by q xs
  counts_found p q [] x is passes = absurd (none-some x is)
  counts_found p q (y ∷ ys) x is passes = by (p y) is (λ there. counts_found p q ys x there passes)
    where
      front : count_by q (y ∷ ys) ≡ one_if (q y) + count_by q ys
      front = counts_front q y ys

      by : (b : Bool) → (if b then Some y else find p ys) ≡ Some x → (find p ys ≡ Some x → 1 ≤ count_by q ys) →
          1 ≤ count_by q (y ∷ ys)
      by true same later =
          let one = front ∙ ap (λ b. one_if b + count_by q ys) (ap q (same_Some y x same) ∙ passes) in
          omega (arith, one)
      by false there later = let rest = later there in omega (arith, rest, front)

  -- of those that pass a test, none is kept that is kept where it fails
  pub counts_none : (test : X → Bool) (xs : List X) → count_by test (filter (λ x. not (test x)) xs) ≡ 0
  counts_none test [] = refl
  counts_none test (x ∷ xs) = by (test x) refl (counts_none test xs)
    where
      kept : List X
      kept = filter (λ y. not (test y)) xs

      by : (b : Bool) → test x ≡ b → count_by test kept ≡ 0 → count_by test (if not b then x ∷ kept else kept) ≡ 0
      by true is rest = rest
      by false is rest =
          let front = counts_front test x kept ∙ ap (λ b. one_if b + count_by test kept) is in
          omega (arith, rest, front)

  -- and where all that pass are kept, they are as many
  pub counts_kept : (test kept : X → Bool) (xs : List X) → ((x : X) → test x ≡ true → kept x ≡ true) →
      count_by test (filter kept xs) ≡ count_by test xs
  counts_kept test kept [] holds = refl
  counts_kept test kept (x ∷ xs) holds = by (kept x) refl (counts_kept test kept xs holds)
    where
      front : count_by test (x ∷ xs) ≡ one_if (test x) + count_by test xs
      front = counts_front test x xs

      none : (b : Bool) → test x ≡ b → kept x ≡ false → test x ≡ false
      none true is left = absurd (true≢false (sym (holds x is) ∙ left))
      none false is left = is

      by : (b : Bool) → kept x ≡ b → count_by test (filter kept xs) ≡ count_by test xs →
          count_by test (if b then x ∷ filter kept xs else filter kept xs) ≡ count_by test (x ∷ xs)
      by true is rest = let more = counts_front test x (filter kept xs) in omega (arith, rest, front, more)
      by false is rest =
          let fails = front ∙ ap (λ b. one_if b + count_by test xs) (none (test x) refl is) in
          omega (arith, rest, fails)

  -- there are no more in a part
  pub counts_part : (test kept : X → Bool) (xs : List X) → count_by test (filter kept xs) ≤ count_by test xs
  counts_part test kept [] = omega arith
  counts_part test kept (x ∷ xs) = by (kept x) (counts_part test kept xs)
    where
      front : count_by test (x ∷ xs) ≡ one_if (test x) + count_by test xs
      front = counts_front test x xs

      by : (b : Bool) → count_by test (filter kept xs) ≤ count_by test xs →
          count_by test (if b then x ∷ filter kept xs else filter kept xs) ≤ count_by test (x ∷ xs)
      by true rest = let more = counts_front test x (filter kept xs) in omega (arith, rest, front, more)
      by false rest = omega (arith, rest, front)

  -- where none passes, none is kept
  none_kept : (test : X → Bool) (xs : List X) → count_by test xs ≡ 0 → filter test xs ≡ []
  none_kept test [] none = refl
  none_kept test (x ∷ xs) none = by (test x) refl (none_kept test xs)
    where
      front : count_by test (x ∷ xs) ≡ one_if (test x) + count_by test xs
      front = counts_front test x xs

      by : (b : Bool) → test x ≡ b → (count_by test xs ≡ 0 → filter test xs ≡ []) →
          (if b then x ∷ filter test xs else filter test xs) ≡ []
      by true is later =
          let one = front ∙ ap (λ b. one_if b + count_by test xs) is in absurd (omega (arith, one, none))
      by false is later = later (omega (arith, front, none))

  -- where one passes at most, it is the one that is found
  one_kept : (test : X → Bool) (xs : List X) → count_by test xs ≤ 1 → filter test xs ≡ option_to_list (find test xs)
  one_kept test [] one = refl
  one_kept test (x ∷ xs) one = by (test x) refl (one_kept test xs)
    where
      front : count_by test (x ∷ xs) ≡ one_if (test x) + count_by test xs
      front = counts_front test x xs

      by : (b : Bool) → test x ≡ b → (count_by test xs ≤ 1 → filter test xs ≡ option_to_list (find test xs)) →
          (if b then x ∷ filter test xs else filter test xs) ≡ option_to_list (if b then Some x else find test xs)
      by true is later =
          let first = front ∙ ap (λ b. one_if b + count_by test xs) is in
          ap (λ more. x ∷ more) (none_kept test xs (omega (arith, first, one)))
      by false is later = later (omega (arith, front, one))

  -- so all are those that fail it, and the one that is found
  pub counts_apart : (test other : X → Bool) (xs : List X) → count_by other xs ≤ 1 →
      count_by test (filter (λ x. not (other x)) xs) + count_by test (option_to_list (find other xs)) ≡ count_by test xs
  counts_apart test other xs one =
      let both = sum_by-filter_both other (λ x. not (other x)) (λ x. refl) (λ x. one_if (test x)) xs in
      let found = ap (count_by test) (one_kept other xs one) in
      omega (arith, both, found)

  -- whatever is kept was there, and passes
  pub one_passes : (test : X → Bool) (x : X) (xs : List X) → IsOneOf x (filter test xs) → IsOneOf x xs × (test x ≡ true)
  one_passes test x [] is = absurd is
  one_passes test x (y ∷ ys) is = by (test y) refl is (one_passes test x ys)
    where
      by : (b : Bool) → test y ≡ b → IsOneOf x (if b then y ∷ filter test ys else filter test ys) →
          (IsOneOf x (filter test ys) → IsOneOf x ys × (test x ≡ true)) → IsOneOf x (y ∷ ys) × (test x ≡ true)
      by true passes (inl same) later = (inl same, ap test same ∙ passes)
      by true passes (inr one) later = let rest = later one in (inr rest.0, rest.1)
      by false fails one later = let rest = later one in (inr rest.0, rest.1)

  pub any_of : (test : X → Bool) (x : X) (xs : List X) → IsOneOf x xs → test x ≡ true → list_any test xs ≡ true
  any_of test x [] is passes = absurd is
  any_of test x (y ∷ ys) (inl same) passes = or_left (test y) (list_any test ys) (ap test (sym same) ∙ passes)
  any_of test x (y ∷ ys) (inr one) passes = or_right (test y) (list_any test ys) (any_of test x ys one passes)

  -- ---- where one stands

  -- something stands there
  pub some_stands : (front : List X) (x : X) (back : List X) → [] ≡ front ++ x ∷ back → ⊥
  some_stands front x back is =
      let long : 0 ≡ length (front ++ x ∷ back) = ap length is in
      let parts = length-append front (x ∷ back) in
      omega (arith, long, parts)

  -- one of a list stands somewhere in it
  pub stands_in : (x : X) (xs : List X) → IsOneOf x xs → (front : List X) × (back : List X) × (xs ≡ front ++ x ∷ back)
  stands_in x [] is = absurd is
  stands_in x (y ∷ ys) (inl same) = ([], ys, ap (λ z. z ∷ ys) (sym same))
  stands_in x (y ∷ ys) (inr one) = let rest = stands_in x ys one in (y ∷ rest.0, rest.1, ap (λ l. y ∷ l) rest.2)

  -- whatever stands in a list with one more behind is that one, or stood there before
  pub stands_pushed : (xs : List X) (x : X) (front : List X) (y : X) (back : List X) → xs ++ x ∷ [] ≡ front ++ y ∷ back →
      ((front ≡ xs) × (y ≡ x)) ⊎ ((rest : List X) × (xs ≡ front ++ y ∷ rest))
  stands_pushed [] x [] y back is = inl (refl, sym (ap (λ l. get_or l 0 x) is))
  stands_pushed [] x (z ∷ front) y back is = absurd (some_stands front y back (ap (drop 1) is))
  stands_pushed (w ∷ xs) x [] y back is = inr (xs, ap (λ z. z ∷ xs) (ap (λ l. get_or l 0 w) is))
  stands_pushed (w ∷ xs) x (z ∷ front) y back is = by (stands_pushed xs x front y back (ap (drop 1) is))
    where
      first : w ≡ z
      first = ap (λ l. get_or l 0 w) is

      by : ((front ≡ xs) × (y ≡ x)) ⊎ ((rest : List X) × (xs ≡ front ++ y ∷ rest)) →
          ((z ∷ front ≡ w ∷ xs) × (y ≡ x)) ⊎ ((rest : List X) × (w ∷ xs ≡ z ∷ (front ++ y ∷ rest)))
      by (inl last) = inl (ap (λ v. v ∷ front) (sym first) ∙ ap (λ l. w ∷ l) last.0, last.1)
      by (inr sooner) = inr (sooner.0, ap (λ v. v ∷ xs) first ∙ ap (λ l. z ∷ l) sooner.1)
