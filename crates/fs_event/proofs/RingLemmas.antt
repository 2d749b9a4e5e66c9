-- The places of a ring: which pairs they keep, how these are found, and how they go.
use Rattle.std.proofs.Common.{◌≡◌, ◌≢◌, ℕ, zero, suc, ◌+◌, ◌-◌, ◌<◌, ◌≤◌, ◌==◌, Bool, true, false, List, [], ◌∷◌, ◌++◌, length, Option}
use Rattle.std.proofs.Common.{None, Some, refl, sym, ap, subst, ◌∙◌, arith, if◌then◌else◌, filter, All, get_or, take, drop, is_some, ◌⊎◌, inl, inr, append_assoc, append-nil}
use Rattle.std.specs.Prelude.{nat_le, slice_get, slice_set}
use Rattle.std.specs.Option.{option_map, option_and_then}
use Rattle.circular_buffer.specs.Buffer.{last_item}
use Rattle.std.proofs.lemmas.Option.{get_or_from_slice_get, same_Some}
use Rattle.std.specs.List.{AllPairs, find}
use Rattle.std.proofs.lemmas.Bool.{eqb-true, leb-true, leb-false}
use Rattle.std.proofs.lemmas.List.{length-append, length-set, length-take, get_or-take, at_drop_more}
use Rattle.std.proofs.lemmas.Bool.Decides.{nat_tests}
use Rattle.std.proofs.lemmas.List.Elements.{filter_map-append, filter_more, All-cons, All-head, All-tail, All-push}
use Rattle.std.proofs.lemmas.List.Quantifiers.{all_pairs_push}
use Rattle.std.proofs.lemmas.List.Kept.{AllPairs-cons, AllPairs-filter}
use Rattle.fs_event.specs.declared.place.Kept.{Kept}
use Rattle.fs_event.specs.declared.place.Place.{Place}
use Rattle.fs_event.specs.Places.{pair_with, pair_of, pairs_of, is_kept, read_once, is_last, less_one, is_last_of, without_front}
use Rattle.fs_event.specs.Places.{IsRing, KeepsPairs, HasEmptyLast, IsOrdered, IsNowhere, IsAt, IsKeptLast, one_if, turned_once, event_of as place_event}
use Rattle.fs_event.specs.Rings.{Pair, has_number, released, event_of}

same_number : (n : ℕ) → (n == n) ≡ true
same_number n = grind (arith, nat_tests)

other_number : (n m : ℕ) → n < m → (n == m) ≡ false
other_number n m below = grind (arith, nat_tests)

below_or_not : (a b : ℕ) → (a < b) ⊎ (b ≤ a)
below_or_not a b = by (nat_le b a) refl
  where
    by : (t : Bool) → nat_le b a ≡ t → (a < b) ⊎ (b ≤ a)
    by true e = inr (leb-true b a e)
    by false e = inl (leb-false b a e)

module _ {T : Type 0} where
  -- ---- the order of the places

  pub order_front : (place : Place T) (places : List (Place T)) → IsOrdered (place ∷ places) → All (λ later. place.number < later.number) places
  order_front place places order k d within = order zero (suc k) d (omega arith) (omega (arith, within))

  pub order_behind : (place : Place T) (places : List (Place T)) → IsOrdered (place ∷ places) → IsOrdered places
  order_behind place places order i j d before within = order (suc i) (suc j) d (omega (arith, before)) (omega (arith, within))

  -- none of those behind is of the number of the first
  other_behind : (place : Place T) (places : List (Place T)) → IsOrdered (place ∷ places) → IsNowhere place.number places
  other_behind place places order k d within same = omega (arith, order_front place places order k d within, same)

  -- what holds of all holds of the one at an index
  all_at : (P : Place T → Type 0) (places : List (Place T)) (index : ℕ) (place : Place T) →
      All P places → slice_get places index ≡ Some place → P place
  all_at P [] index place all is = absurd (cc)
  all_at P (first ∷ places) zero place all is = subst P (same_Some first place is) (All-head P first places all)
  all_at P (first ∷ places) (suc index) place all is = all_at P places index place (All-tail P first places all) is

  -- ---- what is found

  pub nowhere_found : (number : ℕ) (places : List (Place T)) → IsNowhere number places → find (has_number number) (pairs_of places) ≡ None
  nowhere_found number [] nowhere = refl
  nowhere_found number (place ∷ places) nowhere =
      by place.kept (place.number == number) refl (nowhere_found number places (All-tail (λ p. p.number ≢ number) place places nowhere))
    where
      by : (kept : Option (Kept T)) (b : Bool) → (place.number == number) ≡ b → find (has_number number) (pairs_of places) ≡ None →
          find (has_number number) (pairs_of (record place { kept = kept } ∷ places)) ≡ None
      by None b e again = again
      by (Some kept) true e again = absurd (All-head (λ p. p.number ≢ number) place places nowhere (eqb-true place.number number e))
      by (Some kept) false e again = ap (λ b. if b then Some (pair_with place.number kept) else find (has_number number) (pairs_of places)) e ∙ again

  pub nowhere_released : (number : ℕ) (places : List (Place T)) → IsNowhere number places → released number (pairs_of places) ≡ pairs_of places
  nowhere_released number [] nowhere = refl
  nowhere_released number (place ∷ places) nowhere =
      by place.kept (place.number == number) refl (nowhere_released number places (All-tail (λ p. p.number ≢ number) place places nowhere))
    where
      by : (kept : Option (Kept T)) (b : Bool) → (place.number == number) ≡ b → released number (pairs_of places) ≡ pairs_of places →
          released number (pairs_of (record place { kept = kept } ∷ places)) ≡ pairs_of (record place { kept = kept } ∷ places)
      by None b e again = again
      by (Some kept) true e again = absurd (All-head (λ p. p.number ≢ number) place places nowhere (eqb-true place.number number e))
      by (Some kept) false e again =
          ap (λ b. if b
          then (if nat_le kept.readers 1 then pairs_of places else record (pair_with place.number kept) { readers = kept.readers - 1 } ∷ pairs_of places)
          else pair_with place.number kept ∷ released number (pairs_of places)) e
          ∙ ap (λ rest. pair_with place.number kept ∷ rest) again

  pub found_at : (places : List (Place T)) (index : ℕ) (place : Place T) → IsOrdered places → slice_get places index ≡ Some place →
      find (has_number place.number) (pairs_of places) ≡ pair_of place
  found_at [] index place order is = absurd (cc)
  found_at (first ∷ places) zero place order is =
      subst (λ p. find (has_number p.number) (pairs_of (first ∷ places)) ≡ pair_of p) (same_Some first place is) (by first.kept)
    where
      by : (kept : Option (Kept T)) →
          find (has_number first.number) (pairs_of (record first { kept = kept } ∷ places)) ≡ pair_of (record first { kept = kept })
      by None = nowhere_found first.number places (other_behind first places order)
      by (Some kept) = ap (λ b. if b then Some (pair_with first.number kept) else find (has_number first.number) (pairs_of places)) (same_number first.number)
  found_at (first ∷ places) (suc index) place order is =
      by first.kept (found_at places index place (order_behind first places order) is)
    where
      other : (first.number == place.number) ≡ false
      other = other_number first.number place.number (all_at (λ later. first.number < later.number) places index place (order_front first places order) is)

      by : (kept : Option (Kept T)) → find (has_number place.number) (pairs_of places) ≡ pair_of place →
          find (has_number place.number) (pairs_of (record first { kept = kept } ∷ places)) ≡ pair_of place
      by None again = again
      by (Some kept) again = ap (λ b. if b then Some (pair_with first.number kept) else find (has_number place.number) (pairs_of places)) other ∙ again

  -- ---- one reader less

  released_front : (b : Bool) (number : ℕ) (pair : Pair T) (pairs : List (Pair T)) → has_number number pair ≡ b →
      released number (pair ∷ pairs)
      ≡ (if b then (if nat_le pair.readers 1 then pairs else record pair { readers = pair.readers - 1 } ∷ pairs) else pair ∷ released number pairs)
  released_front b number pair pairs e =
      ap (λ b. if b then (if nat_le pair.readers 1 then pairs else record pair { readers = pair.readers - 1 } ∷ pairs) else pair ∷ released number pairs) e

  pub released_at : (places : List (Place T)) (index : ℕ) (place : Place T) → IsOrdered places → slice_get places index ≡ Some place →
      pairs_of (slice_set places index (read_once place)) ≡ released place.number (pairs_of places)
  released_at [] index place order is = absurd (cc)
  released_at (first ∷ places) zero place order is =
      subst (λ p. pairs_of (slice_set (first ∷ places) zero (read_once p)) ≡ released p.number (pairs_of (first ∷ places))) (same_Some first place is) (by first.kept)
    where
      on : (kept : Kept T) (last : Bool) → nat_le kept.readers 1 ≡ last →
          pairs_of (record first { kept = (if last then None else Some (record kept { readers = kept.readers - 1 })) } ∷ places)
          ≡ (if last then pairs_of places else record (pair_with first.number kept) { readers = kept.readers - 1 } ∷ pairs_of places)
      on kept true e = refl
      on kept false e = refl

      by : (kept : Option (Kept T)) →
          pairs_of (record first { kept = less_one kept } ∷ places) ≡ released first.number (pairs_of (record first { kept = kept } ∷ places))
      by None = sym (nowhere_released first.number places (other_behind first places order))
      by (Some kept) =
          on kept (nat_le kept.readers 1) refl
          ∙ sym (released_front true first.number (pair_with first.number kept) (pairs_of places) (same_number first.number))
  released_at (first ∷ places) (suc index) place order is =
      by first.kept (released_at places index place (order_behind first places order) is)
    where
      other : (first.number == place.number) ≡ false
      other = other_number first.number place.number (all_at (λ later. first.number < later.number) places index place (order_front first places order) is)

      by : (kept : Option (Kept T)) → pairs_of (slice_set places index (read_once place)) ≡ released place.number (pairs_of places) →
          pairs_of (record first { kept = kept } ∷ slice_set places index (read_once place))
          ≡ released place.number (pairs_of (record first { kept = kept } ∷ places))
      by None again = again
      by (Some kept) again =
          ap (λ rest. pair_with first.number kept ∷ rest) again
          ∙ sym (released_front false place.number (pair_with first.number kept) (pairs_of places) other)

  -- how many pairs are left
  pub count_at : (places : List (Place T)) (index : ℕ) (place : Place T) → slice_get places index ≡ Some place →
      length (pairs_of (slice_set places index (read_once place))) + one_if (is_last place) ≡ length (pairs_of places)
  count_at [] index place is = absurd (cc)
  count_at (first ∷ places) zero place is =
      subst (λ p. length (pairs_of (slice_set (first ∷ places) zero (read_once p))) + one_if (is_last p) ≡ length (pairs_of (first ∷ places))) (same_Some first place is) (by first.kept)
    where
      on : (kept : Kept T) (last : Bool) → nat_le kept.readers 1 ≡ last →
          length (pairs_of (record first { kept = (if last then None else Some (record kept { readers = kept.readers - 1 })) } ∷ places)) + one_if last
          ≡ length (pairs_of (record first { kept = Some kept } ∷ places))
      on kept true e = omega arith
      on kept false e = omega arith

      by : (kept : Option (Kept T)) →
          length (pairs_of (record first { kept = less_one kept } ∷ places)) + one_if (is_last_of kept)
          ≡ length (pairs_of (record first { kept = kept } ∷ places))
      by None = omega arith
      by (Some kept) = on kept (nat_le kept.readers 1) refl
  count_at (first ∷ places) (suc index) place is = by first.kept (count_at places index place is)
    where
      by : (kept : Option (Kept T)) →
          length (pairs_of (slice_set places index (read_once place))) + one_if (is_last place) ≡ length (pairs_of places) →
          length (pairs_of (record first { kept = kept } ∷ slice_set places index (read_once place))) + one_if (is_last place)
          ≡ length (pairs_of (record first { kept = kept } ∷ places))
      by None again = again
      by (Some kept) again = omega (arith, again)

  -- ---- places that are given up

  pub front_given_up : (places : List (Place T)) → pairs_of (without_front places) ≡ pairs_of places
  front_given_up [] = refl
  front_given_up (place ∷ places) = by place.kept
    where
      by : (kept : Option (Kept T)) → pairs_of (without_front (record place { kept = kept } ∷ places)) ≡ pairs_of (record place { kept = kept } ∷ places)
      by None = refl
      by (Some kept) = refl

  pub turned : (places : List (Place T)) → pairs_of (filter is_kept places) ≡ pairs_of places
  turned [] = refl
  turned (place ∷ places) = by place.kept (turned places)
    where
      by : (kept : Option (Kept T)) → pairs_of (filter is_kept places) ≡ pairs_of places →
          pairs_of (filter is_kept (record place { kept = kept } ∷ places)) ≡ pairs_of (record place { kept = kept } ∷ places)
      by None again = again
      by (Some kept) again = ap (λ rest. pair_with place.number kept ∷ rest) again

  pub turned_length : (places : List (Place T)) → length (filter is_kept places) ≡ length (pairs_of places)
  turned_length [] = refl
  turned_length (place ∷ places) = by place.kept (turned_length places)
    where
      by : (kept : Option (Kept T)) → length (filter is_kept places) ≡ length (pairs_of places) →
          length (filter is_kept (record place { kept = kept } ∷ places)) ≡ length (pairs_of (record place { kept = kept } ∷ places))
      by None again = again
      by (Some kept) again = ap suc again

  pub pairs_within : (places : List (Place T)) → length (pairs_of places) ≤ length places
  pairs_within [] = omega arith
  pairs_within (place ∷ places) = by place.kept (pairs_within places)
    where
      by : (kept : Option (Kept T)) → length (pairs_of places) ≤ length places →
          length (pairs_of (record place { kept = kept } ∷ places)) ≤ length (place ∷ places)
      by None again = omega (arith, again)
      by (Some kept) again = omega (arith, again)

  -- ---- the order of the pairs

  pairs_above : (number : ℕ) (places : List (Place T)) → All (λ later. number < later.number) places → All (λ later. number < later.number) (pairs_of places)
  pairs_above number [] above = λ k d within. absurd (omega (arith, within))
  pairs_above number (place ∷ places) above = by place.kept (pairs_above number places (All-tail (λ p. number < p.number) place places above))
    where
      by : (kept : Option (Kept T)) → All (λ later. number < later.number) (pairs_of places) →
          All (λ later. number < later.number) (pairs_of (record place { kept = kept } ∷ places))
      by None again = again
      by (Some kept) again =
          All-cons (λ p. number < p.number) (pair_with place.number kept) (pairs_of places) (All-head (λ p. number < p.number) place places above) again

  pub pairs_ordered : (places : List (Place T)) → IsOrdered places → AllPairs (λ pair later. pair.number < later.number) (pairs_of places)
  pairs_ordered [] order = λ i j d before within. absurd (omega (arith, within))
  pairs_ordered (place ∷ places) order = by place.kept (pairs_ordered places (order_behind place places order))
    where
      by : (kept : Option (Kept T)) → AllPairs (λ pair later. pair.number < later.number) (pairs_of places) →
          AllPairs (λ pair later. pair.number < later.number) (pairs_of (record place { kept = kept } ∷ places))
      by None again = again
      by (Some kept) again =
          AllPairs-cons (λ pair later. pair.number < later.number) (pair_with place.number kept) (pairs_of places)
          (pairs_above place.number places (order_front place places order)) again

  -- ---- the order of the places that are left

  -- a place keeps its number
  number_left : (places : List (Place T)) (index : ℕ) (place : Place T) → slice_get places index ≡ Some place → (k : ℕ) (d : Place T) →
      (get_or (slice_set places index (read_once place)) k d).number ≡ (get_or places k d).number
  number_left [] index place is k d = refl
  number_left (first ∷ places) zero place is zero d = ap (λ p. p.number) (sym (same_Some first place is))
  number_left (first ∷ places) zero place is (suc k) d = refl
  number_left (first ∷ places) (suc index) place is zero d = refl
  number_left (first ∷ places) (suc index) place is (suc k) d = number_left places index place is k d

  pub read_ordered : (places : List (Place T)) (index : ℕ) (place : Place T) → slice_get places index ≡ Some place → IsOrdered places →
      IsOrdered (slice_set places index (read_once place))
  read_ordered places index place is order i j d before within =
      let same = length-set places index (read_once place) in
      let one = number_left places index place is i d in
      let other = number_left places index place is j d in
      omega (arith, one, other, order i j d before (omega (arith, within, same)))

  pub front_ordered : (places : List (Place T)) → IsOrdered places → IsOrdered (without_front places)
  front_ordered [] order = order
  front_ordered (place ∷ places) order = by (is_kept place)
    where
      by : (b : Bool) → IsOrdered (if b then place ∷ places else places)
      by true = order
      by false = order_behind place places order

  pub front_length : (places : List (Place T)) → length (without_front places) ≤ length places
  front_length [] = omega arith
  front_length (place ∷ places) = by (is_kept place)
    where
      by : (b : Bool) → length (if b then place ∷ places else places) ≤ length (place ∷ places)
      by true = omega arith
      by false = omega arith

  -- ---- where a number stands

  pub place_at : (number : ℕ) (places : List (Place T)) (index : ℕ) → IsAt number places index →
      (place : Place T) × (slice_get places index ≡ Some place) × (place.number ≡ number)
  place_at number [] index is = absurd (cc)
  place_at number (place ∷ places) zero is = (place, refl, same_Some place.number number is)
  place_at number (place ∷ places) (suc index) is = place_at number places index is

  number_at : (number : ℕ) (places : List (Place T)) (index : ℕ) (d : Place T) → IsAt number places index → (get_or places index d).number ≡ number
  number_at number places index d is =
      let at = place_at number places index is in
      ap (λ p. p.number) (get_or_from_slice_get places index at.0 d at.1) ∙ at.2

  index_within : (number : ℕ) (places : List (Place T)) (index : ℕ) → IsAt number places index → index < length places
  index_within number [] index is = absurd (cc)
  index_within number (place ∷ places) zero is = omega arith
  index_within number (place ∷ places) (suc index) is = omega (arith, index_within number places index is)

  -- the places before an index are of lesser numbers
  abbrev pub AreLessBefore : ℕ → ℕ → List (Place T) → Type 0
  AreLessBefore number end places = (k : ℕ) (d : Place T) → k < end → k < length places → (get_or places k d).number < number

  -- the places from an index on are of greater numbers
  abbrev pub AreGreaterFrom : ℕ → ℕ → List (Place T) → Type 0
  AreGreaterFrom number start places =
      (k : ℕ) (d : Place T) → start ≤ k → k < length places → number < (get_or places k d).number

  -- so it is up to the place with a number that is less
  pub less_at : (places : List (Place T)) (middle found number : ℕ) → IsOrdered places → IsAt found places middle →
      found < number → AreLessBefore number (middle + 1) places
  less_at places middle found number order is less k d before within =
      let own = number_at found places middle d is in
      let inside = index_within found places middle is in
      elim (below_or_not k middle) [
        | inl lower ↦ omega (arith, order k middle d lower inside, own, less)
        | inr same ↦ let e : k ≡ middle = omega arith in subst (λ i. (get_or places i d).number < number) (sym e) (omega (arith, own, less))
      ]

  -- and from the place on with a number that is greater
  pub greater_at : (places : List (Place T)) (middle found number : ℕ) → IsOrdered places → IsAt found places middle →
      number < found → AreGreaterFrom number middle places
  greater_at places middle found number order is more k d behind within =
      let own = number_at found places middle d is in
      elim (below_or_not middle k) [
        | inl higher ↦ omega (arith, order middle k d higher within, own, more)
        | inr same ↦ let e : k ≡ middle = omega arith in subst (λ i. number < (get_or places i d).number) (sym e) (omega (arith, own, more))
      ]

  pub event_found : (number : ℕ) (places : List (Place T)) (index : ℕ) → IsOrdered places → IsAt number places index →
      option_and_then place_event (slice_get places index) ≡ event_of number (pairs_of places)
  event_found number places index order is =
      let at = place_at number places index is in
      let found : find (has_number number) (pairs_of places) ≡ pair_of at.0 =
      subst (λ n. find (has_number n) (pairs_of places) ≡ pair_of at.0) at.2 (found_at places index at.0 order at.1) in
      ap (option_and_then place_event) at.1 ∙ by at.0.number at.0.kept ∙ sym (ap (option_map (λ pair. pair.event)) found)
    where
      by : (n : ℕ) (kept : Option (Kept T)) → option_map (λ k. k.event) kept ≡ option_map (λ pair. pair.event) (option_map (pair_with n) kept)
      by n None = refl
      by n (Some kept) = refl

  -- ---- the last place

  last_behind : (place next : Place T) (places : List (Place T)) → last_item (place ∷ next ∷ places) ≡ last_item (next ∷ places)
  last_behind place next places =
      let e : length (place ∷ next ∷ places) - 1 ≡ suc (length (next ∷ places) - 1) = omega arith in
      ap (slice_get (place ∷ next ∷ places)) e

  pub back_given_up : (places : List (Place T)) (last : Place T) → last_item places ≡ Some last → is_kept last ≡ false →
      pairs_of (take (length places - 1) places) ≡ pairs_of places
  back_given_up [] last is gone = refl
  back_given_up (place ∷ []) last is gone = by place.kept (ap is_kept (same_Some place last is) ∙ gone)
    where
      by : (kept : Option (Kept T)) → is_some kept ≡ false → [] ≡ pairs_of (record place { kept = kept } ∷ [])
      by None e = refl
      by (Some kept) e = absurd (cc)
  back_given_up (place ∷ next ∷ places) last is gone =
      let e : length (place ∷ next ∷ places) - 1 ≡ suc (length (next ∷ places) - 1) = omega arith in
      ap (λ n. pairs_of (take n (place ∷ next ∷ places))) e
      ∙ by place.kept (back_given_up (next ∷ places) last (sym (last_behind place next places) ∙ is) gone)
    where
      by : (kept : Option (Kept T)) → pairs_of (take (length (next ∷ places) - 1) (next ∷ places)) ≡ pairs_of (next ∷ places) →
          pairs_of (record place { kept = kept } ∷ take (length (next ∷ places) - 1) (next ∷ places))
          ≡ pairs_of (record place { kept = kept } ∷ next ∷ places)
      by None again = again
      by (Some kept) again = ap (λ rest. pair_with place.number kept ∷ rest) again

  pub all_below : (number : ℕ) (places : List (Place T)) → IsOrdered places → IsKeptLast places →
      All (λ pair. pair.number < number) (pairs_of places) → All (λ place. place.number < number) places
  all_below number [] order last below = λ k d within. absurd (omega (arith, within))
  all_below number (place ∷ []) order last below =
      All-cons (λ p. p.number < number) place [] (by place.kept (last.last place refl) below) (λ k d within. absurd (omega (arith, within)))
    where
      by : (kept : Option (Kept T)) → is_some kept ≡ true → All (λ pair. pair.number < number) (pairs_of (record place { kept = kept } ∷ [])) → place.number < number
      by None e all = absurd (cc)
      by (Some kept) e all = All-head (λ p. p.number < number) (pair_with place.number kept) [] all
  all_below number (place ∷ next ∷ places) order last below =
      let rest : All (λ p. p.number < number) (next ∷ places) =
      all_below number (next ∷ places) (order_behind place (next ∷ places) order)
      (record { last = λ p is. last.last p (last_behind place next places ∙ is) }) (by place.kept below) in
      let first = All-head (λ later. place.number < later.number) next places (order_front place (next ∷ places) order) in
      All-cons (λ p. p.number < number) place (next ∷ places) (omega (arith, first, All-head (λ p. p.number < number) next places rest)) rest
    where
      by : (kept : Option (Kept T)) → All (λ pair. pair.number < number) (pairs_of (record place { kept = kept } ∷ next ∷ places)) →
          All (λ pair. pair.number < number) (pairs_of (next ∷ places))
      by None all = all
      by (Some kept) all = All-tail (λ p. p.number < number) (pair_with place.number kept) (pairs_of (next ∷ places)) all

  -- ---- a turn

  pub turn_more : (places : List (Place T)) (i : ℕ) → i < length places →
      turned_once (drop i places ++ filter is_kept (take i places)) ≡ drop (i + 1) places ++ filter is_kept (take (i + 1) places)
  turn_more [] i within = absurd (omega (arith, within))
  turn_more (first ∷ others) i within =
      ap (λ l. turned_once (l ++ before)) (at_drop_more (λ l. l) places i first within)
      ∙ by (is_kept place)
      ∙ sym (ap (λ kept. drop (i + 1) places ++ kept) (filter_more is_kept places i first within))
    where
      places : List (Place T)
      places = first ∷ others

      place : Place T
      place = get_or places i first

      before : List (Place T)
      before = filter is_kept (take i places)

      by : (b : Bool) → (if b then (drop (i + 1) places ++ before) ++ place ∷ [] else drop (i + 1) places ++ before)
          ≡ drop (i + 1) places ++ (before ++ (if b then place ∷ [] else []))
      by true = append_assoc (drop (i + 1) places) before (place ∷ [])
      by false = ap (λ l. drop (i + 1) places ++ l) (sym (append-nil before))

  -- ---- the same pairs in other places

  pub kept_again : (one other last : List (Place T)) → KeepsPairs one other → KeepsPairs other last → KeepsPairs one last
  kept_again one other last first second = record {
    pairs = second.pairs ∙ first.pairs;
    order = second.order;
    fewer = omega (arith, first.fewer, second.fewer);
  }

  pub front_kept : (places : List (Place T)) → IsOrdered places → KeepsPairs places (without_front places)
  front_kept places order =
      record { pairs = front_given_up places; order = front_ordered places order; fewer = front_length places }

  pub turned_kept : (places : List (Place T)) → IsOrdered places → KeepsPairs places (filter is_kept places)
  turned_kept places order = record {
    pairs = turned places;
    order = AllPairs-filter (λ place later. place.number < later.number) is_kept places order;
    fewer = omega (arith, turned_length places, pairs_within places);
  }

  pub back_kept : (places : List (Place T)) → IsOrdered places → HasEmptyLast places → KeepsPairs places (take (length places - 1) places)
  back_kept places order back = record {
    pairs = back_given_up places back.place back.last back.empty;
    order = λ i j d before within.
        let len = length-take (length places - 1) places in
        let one = ap (λ p. p.number) (get_or-take (length places - 1) places i d (omega (arith, within, len, before))) in
        let other = ap (λ p. p.number) (get_or-take (length places - 1) places j d (omega (arith, within, len))) in
        omega (arith, one, other, order i j d before (omega (arith, within, len)));
    fewer = let len = length-take (length places - 1) places in omega (arith, len);
  }

  -- ---- one more event

  pub pushed_ring : (number : ℕ) (event : T) (readers : ℕ) (old places : List (Place T)) (held : ℕ) →
      IsRing old held → KeepsPairs old places → IsKeptLast places → 0 < readers → All (λ pair. pair.number < number) (pairs_of old) →
      IsRing (places ++ record { number = number; kept = Some (record { event = event; readers = readers }) } ∷ []) (held + 1)
  pushed_ring number event readers old places held ring kept last some below =
      record {
        order = all_pairs_push (λ p later. p.number < later.number) places place kept.order
            (all_below number places kept.order last (subst (All (λ pair. pair.number < number)) (sym kept.pairs) below));
        count = let old_count = ap length kept.pairs in
            let new_count = ap length pairs ∙ length-append (pairs_of places) (pair ∷ []) in omega (arith, ring.count, old_count, new_count);
        slots = let more = length-append places (place ∷ []) in omega (arith, more, kept.fewer, ring.slots);
        read = subst (All (λ p. 0 < p.readers)) (sym pairs)
            (All-push (λ p. 0 < p.readers) (pairs_of places) pair (subst (All (λ p. 0 < p.readers)) (sym kept.pairs) ring.read) some);
      }
    where
      place : Place T
      place = record { number = number; kept = Some (record { event = event; readers = readers }) }

      pair : Pair T
      pair = record { number = number; event = event; readers = readers }

      pairs : pairs_of (places ++ place ∷ []) ≡ pairs_of places ++ pair ∷ []
      pairs = filter_map-append pair_of places (place ∷ [])
