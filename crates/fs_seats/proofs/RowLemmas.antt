-- Tables of things that are known by their numbers: where these stand, and where they stand behind a change.
use Rattle.std.proofs.Common.{◌≡◌, ℕ, zero, suc, ◌+◌, ◌<◌, ◌≤◌, ◌==◌, Bool, true, false, List, ◌∷◌, length, Option, None, Some, is_none}
use Rattle.std.proofs.Common.{option_map, option_and_then, ◌⊎◌, inl, inr, refl, sym, ap, subst, ◌∙◌, arith, [], if◌then◌else◌}
use Rattle.std.proofs.lemmas.List.{get_or-set_same, get_or-set_other, length-set}
use Rattle.std.proofs.lemmas.Bool.{false≢true, both_ways, eqb-true, eq-eqb, ne_eqb, cases_eq}
use Rattle.std.proofs.lemmas.Option.{same_Some, none-some}
use Rattle.fs_seats.specs.declared.numbered.Numbered.{Numbered}
use Rattle.fs_seats.specs.Seats.{held_in, with_held, first_seat, least_free}
use Rattle.fs_seats.specs.Rows.{has_number, seat_of, row_of, with_held_at, with_row, without_row, with_new_row}

-- ---- the first seat of which a test holds

-- the test holds there
pub seat_found : {T : Type 0} → (test : Option T → Bool) (seats : List (Option T)) (from seat : ℕ) →
    first_seat test seats from ≡ Some seat →
    (i : ℕ) × (seat ≡ from + i) × (test (held_in seats i) ≡ true) × (i < length seats)
seat_found test [] from seat is = absurd (cc)
seat_found test (held ∷ more) from seat is = by (test held) refl (seat_found test more (from + 1) seat) is
  where
    by : (b : Bool) → test held ≡ b →
        (first_seat test more (from + 1) ≡ Some seat →
        (i : ℕ) × (seat ≡ (from + 1) + i) × (test (held_in more i) ≡ true) × (i < length more)) →
        (if b then Some from else first_seat test more (from + 1)) ≡ Some seat →
        (i : ℕ) × (seat ≡ from + i) × (test (held_in (held ∷ more) i) ≡ true) × (i < length (held ∷ more))
    by true e again is =
        let same : from ≡ seat = same_Some from seat is in
        (0, omega (arith, same), e, omega arith)
    by false e again is =
        let f = again is in
        (suc f.0, omega (arith, f.1), f.2, omega (arith, f.3))

-- without such a seat it holds nowhere
pub none_found : {T : Type 0} → (test : Option T → Bool) → test None ≡ false → (seats : List (Option T)) (from : ℕ) →
    first_seat test seats from ≡ None →
    (i : ℕ) → test (held_in seats i) ≡ false
none_found test empty [] from is i = empty
none_found test empty (held ∷ more) from is i = by (test held) refl (none_found test empty more (from + 1)) is i
  where
    by : (b : Bool) → test held ≡ b → (first_seat test more (from + 1) ≡ None → (i : ℕ) → test (held_in more i) ≡ false) →
        (if b then Some from else first_seat test more (from + 1)) ≡ None → (i : ℕ) → test (held_in (held ∷ more) i) ≡ false
    by true e again is i = absurd (cc)
    by false e again is zero = e
    by false e again is (suc i) = again is i

-- where it holds nowhere there is no such seat
pub found_none : {T : Type 0} → (test : Option T → Bool) (seats : List (Option T)) (from : ℕ) →
    ((i : ℕ) → test (held_in seats i) ≡ false) →
    first_seat test seats from ≡ None
found_none test [] from none = refl
found_none test (held ∷ more) from none =
    ap (λ b. if b then Some from else first_seat test more (from + 1)) (none zero) ∙ found_none test more (from + 1) (λ i. none (suc i))

-- it is the same in tables of which the test tells the same
pub same_seat : {T : Type 0} → (test : Option T → Bool) → test None ≡ false → (xs ys : List (Option T)) (from : ℕ) →
    ((i : ℕ) → test (held_in xs i) ≡ test (held_in ys i)) → first_seat test xs from ≡ first_seat test ys from
same_seat test empty [] ys from same = sym (found_none test ys from (λ i. sym (same i) ∙ empty))
same_seat test empty (x ∷ xs) [] from same = found_none test (x ∷ xs) from (λ i. same i ∙ empty)
same_seat test empty (x ∷ xs) (y ∷ ys) from same =
    ap (λ b. if b then Some from else first_seat test xs (from + 1)) (same zero)
    ∙ ap (λ found. if test y then Some from else found) (same_seat test empty xs ys (from + 1) (λ i. same (suc i)))

-- ---- one thing at a seat

-- what a function tells of the seats stays where it tells of the new thing what it told of the old one
pub held_put : {T A : Type 0} → (f : Option T → A) (rows : List (Option T)) (put : ℕ) (held : Option T) → f (held_in rows put) ≡ f held →
    (seat : ℕ) → f (held_in (with_held rows put held) seat) ≡ f (held_in rows seat)
held_put f [] put held same seat = refl
held_put f (row ∷ rows) zero held same zero = sym same
held_put f (row ∷ rows) zero held same (suc seat) = refl
held_put f (row ∷ rows) (suc put) held same zero = refl
held_put f (row ∷ rows) (suc put) held same (suc seat) = held_put f rows put held same seat

-- what holds of each seat, and of the new thing, holds of each seat then
pub each_put : {T : Type 0} → (P : Option T → Type 0) (rows : List (Option T)) (put : ℕ) (held : Option T) →
    ((seat : ℕ) → P (held_in rows seat)) → P held →
    (seat : ℕ) → P (held_in (with_held rows put held) seat)
each_put P [] put held each here seat = each seat
each_put P (row ∷ rows) zero held each here zero = here
each_put P (row ∷ rows) zero held each here (suc seat) = each (suc seat)
each_put P (row ∷ rows) (suc put) held each here zero = each zero
each_put P (row ∷ rows) (suc put) held each here (suc seat) = each_put P rows put held (λ p. each (suc p)) here seat

-- the same where there may be no seat for the thing
pub each_put_at : {T : Type 0} → (P : Option T → Type 0) (rows : List (Option T)) (held : Option T) (found : Option ℕ) →
    ((seat : ℕ) → P (held_in rows seat)) → P held →
    (seat : ℕ) → P (held_in (with_held_at rows held found) seat)
each_put_at P rows held None each here seat = each seat
each_put_at P rows held (Some put) each here seat = each_put P rows put held each here seat

-- there are as many seats as before
pub length_put_at : {T : Type 0} → (rows : List (Option T)) (held : Option T) (found : Option ℕ) →
    length (with_held_at rows held found) ≡ length rows
length_put_at rows held None = refl
length_put_at rows held (Some put) = length-set rows put held

-- a seat that was emptied is empty
pub emptied : {T : Type 0} → (rows : List (Option T)) (put : ℕ) → held_in (with_held rows put None) put ≡ None
emptied [] put = refl
emptied (row ∷ rows) zero = refl
emptied (row ∷ rows) (suc put) = emptied rows put

-- ---- numbers

-- a thing of this number stands at this seat
abbrev pub Stands : {T : Type 0} → ℕ → List (Option (Numbered T)) → ℕ → Type 0
Stands number rows seat = has_number number (held_in rows seat) ≡ true

-- nothing stands there
abbrev pub IsFree : {T : Type 0} → List (Option (Numbered T)) → ℕ → Type 0
IsFree rows seat = (number : ℕ) → has_number number (held_in rows seat) ≡ false

-- no number stands at two seats
abbrev pub AreDistinct : {T : Type 0} → List (Option (Numbered T)) → Type 0
AreDistinct rows = (number p q : ℕ) → Stands number rows p → Stands number rows q → p ≡ q

-- no number is above a bound
abbrev pub AreWithin : {T : Type 0} → ℕ → List (Option (Numbered T)) → Type 0
AreWithin bound rows = (number seat : ℕ) → Stands number rows seat → number ≤ bound

-- the same numbers stand at the same seats
abbrev pub SameNumbers : {T : Type 0} → List (Option (Numbered T)) → List (Option (Numbered T)) → Type 0
SameNumbers old new = (number seat : ℕ) → has_number number (held_in new seat) ≡ has_number number (held_in old seat)

-- a thing of one number is of no other
number_at : {T : Type 0} → (held : Option (Numbered T)) (number other : ℕ) → has_number number held ≡ true →
    has_number other held ≡ (number == other)
number_at None number other is = absurd (cc)
number_at (Some row) number other is = ap (λ n. n == other) (eqb-true row.number number is)

-- so two numbers of one thing are one
pub one_number : {T : Type 0} → (held : Option (Numbered T)) (number other : ℕ) → has_number number held ≡ true →
    has_number other held ≡ true → number ≡ other
one_number held number other is also = eqb-true number other (sym (number_at held number other is) ∙ also)

-- and it is not of a number that differs
pub other_number : {T : Type 0} → (held : Option (Numbered T)) (number other : ℕ) → has_number number held ≡ true → (number ≡ other → ⊥) →
    has_number other held ≡ false
other_number held number other is differ = number_at held number other is ∙ ne_eqb number other differ

-- ---- seats of numbers

-- at the seat of a number a thing of it stands
pub seat_stands : {T : Type 0} → (rows : List (Option (Numbered T))) (number seat : ℕ) → seat_of rows number ≡ Some seat →
    Stands number rows seat
seat_stands rows number seat is =
    let f = seat_found (has_number number) rows 0 seat is in
    let same : f.0 ≡ seat = omega (arith, f.1) in
    subst (λ p. has_number number (held_in rows p) ≡ true) same f.2

-- the seat is one of the table
pub seat_within : {T : Type 0} → (rows : List (Option (Numbered T))) (number seat : ℕ) → seat_of rows number ≡ Some seat →
    seat < length rows
seat_within rows number seat is =
    let f = seat_found (has_number number) rows 0 seat is in
    omega (arith, f.1, f.3)

-- a number without a seat stands nowhere
pub none_stands : {T : Type 0} → (rows : List (Option (Numbered T))) (number : ℕ) → seat_of rows number ≡ None → (seat : ℕ) →
    has_number number (held_in rows seat) ≡ false
none_stands rows number is seat = none_found (has_number number) refl rows 0 is seat

-- a number that stands nowhere has no seat
pub nowhere : {T : Type 0} → (rows : List (Option (Numbered T))) (number : ℕ) →
    ((seat : ℕ) → has_number number (held_in rows seat) ≡ false) → seat_of rows number ≡ None
nowhere rows number none = found_none (has_number number) rows 0 none

-- a number stands at its seat, if no other seat has it
pub stands_seat : {T : Type 0} → (rows : List (Option (Numbered T))) (number seat : ℕ) → AreDistinct rows → Stands number rows seat →
    seat_of rows number ≡ Some seat
stands_seat rows number seat distinct stands = by (seat_of rows number) refl
  where
    by : (found : Option ℕ) → seat_of rows number ≡ found → found ≡ Some seat
    by None is = absurd (both_ways (has_number number (held_in rows seat)) (none_stands rows number is seat) stands)
    by (Some other) is = ap Some (distinct number other seat (seat_stands rows number other is) stands)

-- different numbers have different seats
pub seats_apart : {T : Type 0} → (rows : List (Option (Numbered T))) (number other p q : ℕ) → seat_of rows number ≡ Some p →
    seat_of rows other ≡ Some q → p ≡ q → number ≡ other
seats_apart rows number other p q is also same =
    one_number (held_in rows q) number other
    (subst (λ seat. has_number number (held_in rows seat) ≡ true) same (seat_stands rows number p is))
    (seat_stands rows other q also)

-- a free seat is the seat of no number
pub free_apart : {T : Type 0} → (rows : List (Option (Numbered T))) (number seat free : ℕ) → seat_of rows number ≡ Some seat →
    IsFree rows free → free ≡ seat → ⊥
free_apart rows number seat free is empty same =
    both_ways (has_number number (held_in rows seat)) (subst (λ p. has_number number (held_in rows p) ≡ false) same (empty number))
    (seat_stands rows number seat is)

-- a number above the bound stands nowhere
pub above_nowhere : {T : Type 0} → (rows : List (Option (Numbered T))) (bound number : ℕ) → AreWithin bound rows → bound < number →
    seat_of rows number ≡ None
above_nowhere rows bound number within above = nowhere rows number (λ seat. by seat (has_number number (held_in rows seat)) refl)
  where
    by : (seat : ℕ) (b : Bool) → has_number number (held_in rows seat) ≡ b → b ≡ false
    by seat true e = absurd (omega (arith, within number seat e, above))
    by seat false e = refl

-- where the same numbers stand
pub seats_same : {T : Type 0} → (old new : List (Option (Numbered T))) → SameNumbers old new → (number : ℕ) →
    seat_of new number ≡ seat_of old number
seats_same old new same number = same_seat (has_number number) refl new old 0 (λ i. same number i)

-- they are as distinct
pub distinct_same : {T : Type 0} → (old new : List (Option (Numbered T))) → SameNumbers old new → AreDistinct old → AreDistinct new
distinct_same old new same distinct number p q first second =
    distinct number p q (sym (same number p) ∙ first) (sym (same number q) ∙ second)

-- ---- the things of numbers

abbrev pub held_of : {T : Type 0} → Option (Numbered T) → Option T
held_of held = option_map (λ row. row.held) held

-- what has a number is a thing
some_held : {T : Type 0} → (held : Option (Numbered T)) (number : ℕ) → has_number number held ≡ true → held_of held ≡ None → ⊥
some_held None number has none = absurd (cc)
some_held (Some row) number has none = none-some row.held (sym none)

-- the thing of a number is what stands at its seat
pub row_at : {T : Type 0} → (rows : List (Option (Numbered T))) (number seat : ℕ) → seat_of rows number ≡ Some seat →
    row_of rows number ≡ held_of (held_in rows seat)
row_at rows number seat is = ap (λ found. held_of (option_and_then (λ p. held_in rows p) found)) is

-- a number without a seat has no thing
pub row_none : {T : Type 0} → (rows : List (Option (Numbered T))) (number : ℕ) → seat_of rows number ≡ None → row_of rows number ≡ None
row_none rows number is = ap (λ found. held_of (option_and_then (λ p. held_in rows p) found)) is

-- a number without a thing has no seat
pub row_gone : {T : Type 0} → (rows : List (Option (Numbered T))) (number : ℕ) → row_of rows number ≡ None → seat_of rows number ≡ None
row_gone rows number is = by (seat_of rows number) refl
  where
    by : (found : Option ℕ) → seat_of rows number ≡ found → found ≡ None
    by None at = refl
    by (Some seat) at =
        absurd (some_held (held_in rows seat) number (seat_stands rows number seat at) (sym (row_at rows number seat at) ∙ is))

-- ---- a change of one seat

-- a number stands where it stood, or at the changed seat
pub stands_put : {T : Type 0} → (rows : List (Option (Numbered T))) (put : ℕ) (held : Option (Numbered T)) (number seat : ℕ) →
    Stands number (with_held rows put held) seat →
    ((seat ≡ put) × (has_number number held ≡ true)) ⊎ (has_number number (held_in rows seat) ≡ true)
stands_put [] put held number seat stands = inr stands
stands_put (row ∷ rows) zero held number zero stands = inl (refl, stands)
stands_put (row ∷ rows) zero held number (suc seat) stands = inr stands
stands_put (row ∷ rows) (suc put) held number zero stands = inr stands
stands_put (row ∷ rows) (suc put) held number (suc seat) stands =
    elim (stands_put rows put held number seat stands) [ inl f ↦ inl (ap suc f.0, f.1) | inr f ↦ inr f ]

-- numbers stay distinct where the new thing has none that stands elsewhere
pub distinct_put : {T : Type 0} → (rows : List (Option (Numbered T))) (put : ℕ) (held : Option (Numbered T)) → AreDistinct rows →
    ((number seat : ℕ) → has_number number held ≡ true → Stands number rows seat → seat ≡ put) → AreDistinct (with_held rows put held)
distinct_put rows put held distinct one number p q first second =
    by (stands_put rows put held number p first) (stands_put rows put held number q second)
  where
    by : ((p ≡ put) × (has_number number held ≡ true)) ⊎ (has_number number (held_in rows p) ≡ true) →
        ((q ≡ put) × (has_number number held ≡ true)) ⊎ (has_number number (held_in rows q) ≡ true) → p ≡ q
    by (inl a) (inl b) = a.0 ∙ sym b.0
    by (inl a) (inr b) = a.0 ∙ sym (one number q a.1 b)
    by (inr a) (inl b) = one number p b.1 a ∙ sym b.0
    by (inr a) (inr b) = distinct number p q a b

-- they stay within a bound where the new thing is
pub within_put : {T : Type 0} → (rows : List (Option (Numbered T))) (put : ℕ) (held : Option (Numbered T)) (bound : ℕ) →
    AreWithin bound rows →
    ((number : ℕ) → has_number number held ≡ true → number ≤ bound) → AreWithin bound (with_held rows put held)
within_put rows put held bound within new number seat stands =
    elim (stands_put rows put held number seat stands) [ inl f ↦ new number f.1 | inr f ↦ within number seat f ]

-- a number that neither the old thing nor the new one has
pub seat_put_other : {T : Type 0} → (rows : List (Option (Numbered T))) (put : ℕ) (held : Option (Numbered T)) (number : ℕ) →
    has_number number (held_in rows put) ≡ false → has_number number held ≡ false →
    seat_of (with_held rows put held) number ≡ seat_of rows number
seat_put_other rows put held number before after =
    same_seat (has_number number) refl (with_held rows put held) rows 0
    (λ i. held_put (has_number number) rows put held (before ∙ sym after) i)

-- it has the same thing as before
pub row_put_other : {T : Type 0} → (rows : List (Option (Numbered T))) (put : ℕ) (held : Option (Numbered T)) (number : ℕ) →
    has_number number (held_in rows put) ≡ false → has_number number held ≡ false →
    row_of (with_held rows put held) number ≡ row_of rows number
row_put_other rows put held number before after = by (seat_of rows number) refl
  where
    same : seat_of (with_held rows put held) number ≡ seat_of rows number
    same = seat_put_other rows put held number before after

    by : (found : Option ℕ) → seat_of rows number ≡ found → row_of (with_held rows put held) number ≡ row_of rows number
    by None is = row_none (with_held rows put held) number (same ∙ is) ∙ sym (row_none rows number is)
    by (Some seat) is =
        row_at (with_held rows put held) number seat (same ∙ is)
        ∙ ap held_of (get_or-set_other rows put seat held None
        (λ e. both_ways (has_number number (held_in rows put)) before
        (subst (λ p. has_number number (held_in rows p) ≡ true) e (seat_stands rows number seat is))))
        ∙ sym (row_at rows number seat is)

-- ---- another thing of a number

-- no number changes its seat
pub numbers-with_row : {T : Type 0} → (rows : List (Option (Numbered T))) (number : ℕ) (held : T) →
    SameNumbers rows (with_row rows number held)
numbers-with_row rows number held = by (seat_of rows number) refl
  where
    by : (found : Option ℕ) → seat_of rows number ≡ found →
        SameNumbers rows (with_held_at rows (Some (record { number = number; held = held })) found)
    by None is other seat = refl
    by (Some put) is other seat =
        held_put (has_number other) rows put (Some (record { number = number; held = held }))
        (number_at (held_in rows put) number other (seat_stands rows number put is)) seat

pub seat_of-with_row : {T : Type 0} → (rows : List (Option (Numbered T))) (number : ℕ) (held : T) (other : ℕ) →
    seat_of (with_row rows number held) other ≡ seat_of rows other
seat_of-with_row rows number held other = seats_same rows (with_row rows number held) (numbers-with_row rows number held) other

-- the number has the new thing, if it had one
pub row_of-with_row_same : {T : Type 0} → (rows : List (Option (Numbered T))) (number seat : ℕ) (held : T) →
    seat_of rows number ≡ Some seat →
    row_of (with_row rows number held) number ≡ Some held
row_of-with_row_same rows number seat held is =
    row_at (with_row rows number held) number seat (seat_of-with_row rows number held number ∙ is)
    ∙ ap (λ found. held_of (held_in (with_held_at rows (Some (record { number = number; held = held })) found) seat)) is
    ∙ ap held_of (get_or-set_same rows seat (Some (record { number = number; held = held })) None (seat_within rows number seat is))

-- other numbers have what they had
pub row_of-with_row_other : {T : Type 0} → (rows : List (Option (Numbered T))) (number : ℕ) (held : T) (other : ℕ) → (number ≡ other → ⊥) →
    row_of (with_row rows number held) other ≡ row_of rows other
row_of-with_row_other rows number held other differ = by (seat_of rows number) refl
  where
    by : (found : Option ℕ) → seat_of rows number ≡ found →
        row_of (with_held_at rows (Some (record { number = number; held = held })) found) other ≡ row_of rows other
    by None is = refl
    by (Some put) is =
        row_put_other rows put (Some (record { number = number; held = held })) other
        (other_number (held_in rows put) number other (seat_stands rows number put is) differ) (ne_eqb number other differ)

-- ---- a thing less

-- other numbers stand where they stood
pub seat_of-without_row_other : {T : Type 0} → (rows : List (Option (Numbered T))) (number other : ℕ) → (number ≡ other → ⊥) →
    seat_of (without_row rows number) other ≡ seat_of rows other
seat_of-without_row_other rows number other differ = by (seat_of rows number) refl
  where
    by : (found : Option ℕ) → seat_of rows number ≡ found → seat_of (with_held_at rows None found) other ≡ seat_of rows other
    by None is = refl
    by (Some put) is =
        seat_put_other rows put None other (other_number (held_in rows put) number other (seat_stands rows number put is) differ) refl

-- and have what they had
pub row_of-without_row_other : {T : Type 0} → (rows : List (Option (Numbered T))) (number other : ℕ) → (number ≡ other → ⊥) →
    row_of (without_row rows number) other ≡ row_of rows other
row_of-without_row_other rows number other differ = by (seat_of rows number) refl
  where
    by : (found : Option ℕ) → seat_of rows number ≡ found → row_of (with_held_at rows None found) other ≡ row_of rows other
    by None is = refl
    by (Some put) is =
        row_put_other rows put None other (other_number (held_in rows put) number other (seat_stands rows number put is) differ) refl

-- where no other seat has the number, it is gone
cleared : {T : Type 0} → (rows : List (Option (Numbered T))) (number put : ℕ) → AreDistinct rows → seat_of rows number ≡ Some put →
    (seat : ℕ) → has_number number (held_in (with_held rows put None) seat) ≡ false
cleared rows number put distinct is seat = by (cases_eq seat put)
  where
    elsewhere : (seat ≡ put → ⊥) → (b : Bool) → has_number number (held_in rows seat) ≡ b → b ≡ false
    elsewhere apart true e = absurd (apart (distinct number seat put e (seat_stands rows number put is)))
    elsewhere apart false e = refl

    by : (seat ≡ put) ⊎ (seat ≡ put → ⊥) → has_number number (held_in (with_held rows put None) seat) ≡ false
    by (inl same) =
        subst (λ p. has_number number (held_in (with_held rows put None) p) ≡ false) (sym same) (ap (has_number number) (emptied rows put))
    by (inr apart) =
        ap (has_number number) (get_or-set_other rows put seat None None apart)
        ∙ elsewhere apart (has_number number (held_in rows seat)) refl

-- so its number has no seat
pub seat_of-without_row_same : {T : Type 0} → (rows : List (Option (Numbered T))) (number : ℕ) → AreDistinct rows →
    seat_of (without_row rows number) number ≡ None
seat_of-without_row_same rows number distinct = by (seat_of rows number) refl
  where
    by : (found : Option ℕ) → seat_of rows number ≡ found → seat_of (with_held_at rows None found) number ≡ None
    by None is = is
    by (Some put) is = nowhere (with_held rows put None) number (cleared rows number put distinct is)

-- the others are as distinct, and within the same bound
pub distinct-without_row : {T : Type 0} → (rows : List (Option (Numbered T))) (number : ℕ) → AreDistinct rows →
    AreDistinct (without_row rows number)
distinct-without_row rows number distinct = by (seat_of rows number)
  where
    by : (found : Option ℕ) → AreDistinct (with_held_at rows None found)
    by None = distinct
    by (Some put) = distinct_put rows put None distinct (λ n seat has stands. absurd (false≢true has))

pub within-without_row : {T : Type 0} → (rows : List (Option (Numbered T))) (number bound : ℕ) → AreWithin bound rows →
    AreWithin bound (without_row rows number)
within-without_row rows number bound within = by (seat_of rows number)
  where
    by : (found : Option ℕ) → AreWithin bound (with_held_at rows None found)
    by None = within
    by (Some put) = within_put rows put None bound within (λ n has. absurd (false≢true has))

-- ---- a new thing

-- what is none is None
pub is_nothing : {T : Type 0} → (held : Option T) → is_none held ≡ true → held ≡ None
is_nothing None is = refl
is_nothing (Some x) is = absurd (cc)

-- nothing stands at the least free seat
pub free_least : {T : Type 0} → (rows : List (Option T)) (put : ℕ) → least_free rows 0 ≡ Some put →
    (held_in rows put ≡ None) × (put < length rows)
free_least rows put is =
    let f = seat_found is_none rows 0 put is in
    let same : f.0 ≡ put = omega (arith, f.1) in
    (subst (λ p. held_in rows p ≡ None) same (is_nothing (held_in rows f.0) f.2), omega (arith, f.1, f.3))

-- other numbers stand where they stood
pub seat_of-with_new_row_other : {T : Type 0} → (rows : List (Option (Numbered T))) (number : ℕ) (held : T) (other : ℕ) →
    (number ≡ other → ⊥) →
    seat_of (with_new_row rows number held) other ≡ seat_of rows other
seat_of-with_new_row_other rows number held other differ = by (least_free rows 0) refl
  where
    by : (found : Option ℕ) → least_free rows 0 ≡ found →
        seat_of (with_held_at rows (Some (record { number = number; held = held })) found) other ≡ seat_of rows other
    by None is = refl
    by (Some put) is =
        seat_put_other rows put (Some (record { number = number; held = held })) other (ap (has_number other) (free_least rows put is).0)
        (ne_eqb number other differ)

-- and have what they had
pub row_of-with_new_row_other : {T : Type 0} → (rows : List (Option (Numbered T))) (number : ℕ) (held : T) (other : ℕ) →
    (number ≡ other → ⊥) →
    row_of (with_new_row rows number held) other ≡ row_of rows other
row_of-with_new_row_other rows number held other differ = by (least_free rows 0) refl
  where
    by : (found : Option ℕ) → least_free rows 0 ≡ found →
        row_of (with_held_at rows (Some (record { number = number; held = held })) found) other ≡ row_of rows other
    by None is = refl
    by (Some put) is =
        row_put_other rows put (Some (record { number = number; held = held })) other (ap (has_number other) (free_least rows put is).0)
        (ne_eqb number other differ)

-- numbers stay distinct where the new one stood nowhere
pub distinct-with_new_row : {T : Type 0} → (rows : List (Option (Numbered T))) (number : ℕ) (held : T) → AreDistinct rows →
    seat_of rows number ≡ None →
    AreDistinct (with_new_row rows number held)
distinct-with_new_row rows number held distinct new = by (least_free rows 0)
  where
    by : (found : Option ℕ) → AreDistinct (with_held_at rows (Some (record { number = number; held = held })) found)
    by None = distinct
    by (Some put) = distinct_put rows put (Some (record { number = number; held = held })) distinct
        (λ n seat has stands. absurd (both_ways (has_number n (held_in rows seat))
        (subst (λ m. has_number m (held_in rows seat) ≡ false) (eqb-true number n has) (none_stands rows number new seat)) stands))

-- they stay within a bound where the new one is
pub within-with_new_row : {T : Type 0} → (rows : List (Option (Numbered T))) (number : ℕ) (held : T) (bound : ℕ) → AreWithin bound rows →
    number ≤ bound →
    AreWithin bound (with_new_row rows number held)
within-with_new_row rows number held bound within below = by (least_free rows 0)
  where
    by : (found : Option ℕ) → AreWithin bound (with_held_at rows (Some (record { number = number; held = held })) found)
    by None = within
    by (Some put) =
        within_put rows put (Some (record { number = number; held = held })) bound within
        (λ n has. subst (λ m. m ≤ bound) (eqb-true number n has) below)

-- a new number has the seat that was free
pub seat_of-with_new_row_same : {T : Type 0} → (rows : List (Option (Numbered T))) (number : ℕ) (held : T) (put : ℕ) → AreDistinct rows →
    seat_of rows number ≡ None →
    least_free rows 0 ≡ Some put → seat_of (with_new_row rows number held) number ≡ Some put
seat_of-with_new_row_same rows number held put distinct new is =
    stands_seat (with_new_row rows number held) number put (distinct-with_new_row rows number held distinct new)
    (ap (λ found. has_number number (held_in (with_held_at rows (Some (record { number = number; held = held })) found) put)) is
    ∙ ap (has_number number) (get_or-set_same rows put (Some (record { number = number; held = held })) None (free_least rows put is).1)
    ∙ eq-eqb number number refl)

-- and has the new thing
pub row_of-with_new_row_same : {T : Type 0} → (rows : List (Option (Numbered T))) (number : ℕ) (held : T) (put : ℕ) → AreDistinct rows →
    seat_of rows number ≡ None →
    least_free rows 0 ≡ Some put → row_of (with_new_row rows number held) number ≡ Some held
row_of-with_new_row_same rows number held put distinct new is =
    row_at (with_new_row rows number held) number put (seat_of-with_new_row_same rows number held put distinct new is)
    ∙ ap (λ found. held_of (held_in (with_held_at rows (Some (record { number = number; held = held })) found) put)) is
    ∙ ap held_of (get_or-set_same rows put (Some (record { number = number; held = held })) None (free_least rows put is).1)

-- the first seat behind the first one
found_next : {T : Type 0} → (test : Option T → Bool) (seats : List (Option T)) (from : ℕ) →
    first_seat test seats (from + 1) ≡ option_map suc (first_seat test seats from)
found_next test [] from = refl
found_next test (held ∷ more) from =
    elim (test held) as (λ b. (if b then Some (from + 1) else first_seat test more ((from + 1) + 1)) ≡ option_map suc
    (if b then Some from else first_seat test more (from + 1))) [
      | true ↦ ap Some (one_more from)
      | false ↦ found_next test more (from + 1)
    ]
  where
    one_more : (n : ℕ) → n + 1 ≡ suc n
    one_more n = omega arith

-- the thing of a number is the first one that has it
row_first : {T : Type 0} → (row : Option (Numbered T)) (rows : List (Option (Numbered T))) (number : ℕ) →
    row_of (row ∷ rows) number ≡ (if has_number number row then held_of row else row_of rows number)
row_first row rows number =
    elim (has_number number row) as
    (λ b. held_of
    (option_and_then (λ seat. held_in (row ∷ rows) seat)
    (if b then Some 0 else first_seat (has_number number) rows (0 + 1))) ≡ (if b then held_of row else row_of rows number)) [
      | true ↦ refl
      | false ↦ ap (λ found. held_of (option_and_then (λ seat. held_in (row ∷ rows) seat) found)) (found_next (has_number number) rows 0)
          ∙ behind (seat_of rows number)
    ]
  where
    behind : (found : Option ℕ) →
        held_of (option_and_then (λ seat. held_in (row ∷ rows) seat) (option_map suc found)) ≡ held_of
        (option_and_then (λ seat. held_in rows seat) found)
    behind None = refl
    behind (Some seat) = refl

-- a thing that is put at an empty seat is that of its number, or another one was and is
row_put : {T : Type 0} → (rows : List (Option (Numbered T))) (put number : ℕ) (held : T) → held_in rows put ≡ None →
    (row_of (with_held rows put (Some (record { number = number; held = held }))) number ≡ Some held)
    ⊎ (row_of (with_held rows put (Some (record { number = number; held = held }))) number ≡ row_of rows number)
row_put [] put number held free = inr refl
row_put (row ∷ rows) zero number held free =
    inl (row_first (Some (record { number = number; held = held })) rows number
    ∙ ap (λ b. if b then Some held else row_of rows number) (eq-eqb number number refl))
row_put (row ∷ rows) (suc put) number held free =
    let before = row_first row rows number in
    let behind = row_first row (with_held rows put (Some (record { number = number; held = held }))) number in
    elim (row_put rows put number held free) [
      | inl new ↦ by (has_number number row) before (behind ∙ ap (λ found. if has_number number row then held_of row else found) new)
      | inr same ↦ inr (behind ∙ ap (λ found. if has_number number row then held_of row else found) same ∙ sym before)
    ]
  where
    by : (b : Bool) → row_of (row ∷ rows) number ≡ (if b then held_of row else row_of rows number) →
        row_of (with_held (row ∷ rows) (suc put) (Some (record { number = number; held = held })))
        number ≡ (if b then held_of row else Some held) →
        (row_of (with_held (row ∷ rows) (suc put) (Some (record { number = number; held = held }))) number ≡ Some held)
        ⊎ (row_of (with_held (row ∷ rows) (suc put) (Some (record { number = number; held = held }))) number ≡ row_of (row ∷ rows) number)
    by true before behind = inr (behind ∙ sym before)
    by false before behind = inl behind

-- the same of a new thing, whatever its number is
pub row_of-with_new_row : {T : Type 0} → (rows : List (Option (Numbered T))) (number : ℕ) (held : T) →
    (row_of (with_new_row rows number held) number ≡ Some held) ⊎ (row_of (with_new_row rows number held) number ≡ row_of rows number)
row_of-with_new_row rows number held = by (least_free rows 0) refl
  where
    by : (found : Option ℕ) → least_free rows 0 ≡ found →
        (row_of (with_held_at rows (Some (record { number = number; held = held })) found) number ≡ Some held)
        ⊎ (row_of (with_held_at rows (Some (record { number = number; held = held })) found) number ≡ row_of rows number)
    by None is = inr refl
    by (Some put) is = row_put rows put number held (free_least rows put is).0

-- a number stands behind it where it stood, or it is the new one and the seat was free
pub new_stands : {T : Type 0} → (rows : List (Option (Numbered T))) (number : ℕ) (held : T) (seat : ℕ) → seat_of rows number ≡ None →
    Stands number (with_new_row rows number held) seat → IsFree rows seat
new_stands rows number held seat new stands = by (least_free rows 0) refl stands
  where
    by : (found : Option ℕ) → least_free rows 0 ≡ found →
        Stands number (with_held_at rows (Some (record { number = number; held = held })) found) seat → IsFree rows seat
    by None is stands = absurd (both_ways (has_number number (held_in rows seat)) (none_stands rows number new seat) stands)
    by (Some put) is stands =
        elim (stands_put rows put (Some (record { number = number; held = held })) number seat stands) [
          | inl f ↦ λ n. subst (λ p. has_number n (held_in rows p) ≡ false) (sym f.0) (ap (has_number n) (free_least rows put is).0)
          | inr f ↦ absurd (both_ways (has_number number (held_in rows seat)) (none_stands rows number new seat) f)
        ]

-- what is free behind it was free
pub new_free : {T : Type 0} → (rows : List (Option (Numbered T))) (number : ℕ) (held : T) (seat : ℕ) →
    IsFree (with_new_row rows number held) seat → IsFree rows seat
new_free rows number held seat free = by (least_free rows 0) refl free
  where
    apart : (put : ℕ) → least_free rows 0 ≡ Some put → IsFree (with_held rows put (Some (record { number = number; held = held }))) seat →
        (seat ≡ put) ⊎ (seat ≡ put → ⊥) → IsFree rows seat
    apart put is free (inl same) n =
        subst (λ p. has_number n (held_in rows p) ≡ false) (sym same) (ap (has_number n) (free_least rows put is).0)
    apart put is free (inr differ) n =
        sym (ap (has_number n) (get_or-set_other rows put seat (Some (record { number = number; held = held })) None differ)) ∙ free n

    by : (found : Option ℕ) → least_free rows 0 ≡ found →
        IsFree (with_held_at rows (Some (record { number = number; held = held })) found) seat → IsFree rows seat
    by None is free = free
    by (Some put) is free = apart put is free (cases_eq seat put)

-- what is free once a thing is gone was free, or it is the seat of that thing
pub less_free : {T : Type 0} → (rows : List (Option (Numbered T))) (put seat : ℕ) → (seat ≡ put → ⊥) →
    IsFree (with_held rows put None) seat → IsFree rows seat
less_free rows put seat differ free n = sym (ap (has_number n) (get_or-set_other rows put seat None None differ)) ∙ free n
