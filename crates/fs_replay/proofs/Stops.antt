-- What a search for a byte, a test of a number and a taking say.
use Rattle.std.proofs.Common.{◌≡◌, ℕ, ◌+◌, ◌<◌, ◌≤◌, Bool, true, false, eqb, List, [], ◌∷◌, length, Option, None, Some, refl, sym, ap, ◌∙◌, arith}
use Rattle.std.specs.Prelude.{not, ◌||◌, if◌then◌else◌}
use Rattle.std.specs.List.{list_any, position_or_len}
use Rattle.std.specs.Option.{option_eq}
use Rattle.std.proofs.lemmas.Option.{same_Some}
use Rattle.std.proofs.lemmas.Bool.Decides.{nat_tests}
use Rattle.fs_replay.specs.Reading.{Read, Took}

-- what is found before the end is there
pub found_any : (p : ℕ → Bool) (xs : List ℕ) → position_or_len p xs < length xs → list_any p xs ≡ true
found_any p [] below = absurd (omega (arith, below))
found_any p (x ∷ xs) below = by (p x) (found_any p xs) below
  where
    by : (here : Bool) → (position_or_len p xs < length xs → list_any p xs ≡ true)
        → (if not here then 1 + position_or_len p xs else 0) < length (x ∷ xs) → (here || list_any p xs) ≡ true
    by true rest lt = refl
    by false rest lt = rest (omega (arith, lt))

-- what is not is not
pub found_none : (p : ℕ → Bool) (xs : List ℕ) → length xs ≤ position_or_len p xs → list_any p xs ≡ false
found_none p [] above = refl
found_none p (x ∷ xs) above = by (p x) (found_none p xs) above
  where
    by : (here : Bool) → (length xs ≤ position_or_len p xs → list_any p xs ≡ false)
        → length (x ∷ xs) ≤ (if not here then 1 + position_or_len p xs else 0) → (here || list_any p xs) ≡ false
    by true rest le = absurd (omega (arith, le))
    by false rest le = rest (omega (arith, le))

-- a number that is tested
pub same_count : (got : Option ℕ) (n : ℕ) → false ≡ not (option_eq eqb got (Some n)) → got ≡ Some n
same_count None n is = absurd (cc is)
same_count (Some m) n is = let same : m ≡ n = grind (arith, nat_tests) in ap Some same

pub other_count : (got : Option ℕ) (n : ℕ) → true ≡ not (option_eq eqb got (Some n)) → got ≡ Some n → ⊥
other_count None n is same = absurd (cc same)
other_count (Some m) n is same = let e : m ≡ n = cc same in absurd (grind (arith, nat_tests))

-- a number that was taken
pub taken_is : (got : Option ℕ) (left : List ℕ) (read : Read ℕ) (n : ℕ) → Took got left read → got ≡ Some n → read ≡ Some (n, left)
taken_is None left read n took same = absurd (cc same)
taken_is (Some m) left read n took same = let e : m ≡ n = cc same in took ∙ ap (λ (k : ℕ). Some (k, left)) e

pub not_taken : (got : Option ℕ) (left : List ℕ) (read : Read ℕ) (n : ℕ) (behind : List ℕ) → Took got left read → (got ≡ Some n → ⊥)
    → read ≡ Some (n, behind) → ⊥
not_taken None left read n behind took other is = let e = sym took ∙ is in absurd (cc e)
not_taken (Some m) left read n behind took other is = let pair = same_Some (m, left) (n, behind) (sym took ∙ is) in other (ap (λ (r : ℕ × List ℕ). Some r.0) pair)

pub is_empty : (xs : List ℕ) → length xs ≡ 0 → xs ≡ []
is_empty [] none = refl
is_empty (x ∷ xs) none = absurd (omega (arith, none))
