-- The least of the numbers that things have: looked at one after another, whose it is, and what is below it.
use Rattle.std.proofs.Common.{◌≡◌, ℕ, zero, suc, ◌+◌, ◌<◌, ◌≤◌, min, leb, Bool, true, false, List, ◌∷◌, length, drop, get_or, Option, None}
use Rattle.std.proofs.Common.{Some, unwrap_or, ◌⊎◌, inl, inr, refl, ap, ◌∙◌, arith, []}
use Rattle.std.proofs.lemmas.List.{at_drop_more, at_drop_all}
use Rattle.std.proofs.lemmas.Bool.{leb-true, leb-false}
use Rattle.std.proofs.lemmas.Option.{none-some, same_Some}
use Rattle.fs_seats.specs.Seats.{held_in, IsEmptyFrom}
use Rattle.fs_seats.specs.Least.{lesser, least_of}

-- ---- one after another

pub lesser_none : (n : Option ℕ) → lesser n None ≡ n
lesser_none None = refl
lesser_none (Some n) = refl

pub lesser_assoc : (a b c : Option ℕ) → lesser a (lesser b c) ≡ lesser (lesser a b) c
lesser_assoc None b c = refl
lesser_assoc (Some a) None c = refl
lesser_assoc (Some a) (Some b) None = refl
lesser_assoc (Some a) (Some b) (Some c) = ap Some (omega arith)

-- the thing at a seat is looked at, and then those behind it
pub least_next : {T : Type 0} → (number : T → Option ℕ) (things : List T) (seat : ℕ) (default : T) (so_far : Option ℕ) →
    seat < length things →
    lesser so_far (least_of number (drop seat things)) ≡ lesser (lesser so_far (number (get_or things seat default)))
    (least_of number (drop (seat + 1) things))
least_next number things seat default so_far within =
    at_drop_more (λ left. lesser so_far (least_of number left)) things seat default within
    ∙ lesser_assoc so_far (number (get_or things seat default)) (least_of number (drop (seat + 1) things))

-- nothing is left
pub least_done : {T : Type 0} → (number : T → Option ℕ) (things : List T) (seat : ℕ) (so_far : Option ℕ) → length things ≤ seat →
    lesser so_far (least_of number (drop seat things)) ≡ so_far
least_done number things seat so_far past =
    at_drop_all (λ left. lesser so_far (least_of number left)) things seat past ∙ lesser_none so_far

-- nothing stands any more
none_here : {T : Type 0} → (number : Option T → Option ℕ) (seats : List (Option T)) (at : ℕ) (least : Option ℕ) (over : Bool) →
    leb (length seats) at ≡ over → number None ≡ None → IsEmptyFrom at seats →
    lesser least (least_of number (drop (at + 1) seats)) ≡ least → lesser least (least_of number (drop at seats)) ≡ least
none_here number seats at least true is none empty behind = least_done number seats at least (leb-true (length seats) at is)
none_here number seats at least false is none empty behind =
    let here : lesser least (number (get_or seats at None)) ≡ least = ap (λ held. lesser least (number held)) (empty.each at (omega arith))
    ∙ ap (lesser least) none ∙ lesser_none least in
    least_next number seats at None least (leb-false (length seats) at is)
    ∙ ap (λ so. lesser so (least_of number (drop (at + 1) seats))) here ∙ behind

none_down : {T : Type 0} → (number : Option T → Option ℕ) (seats : List (Option T)) (left at : ℕ) (least : Option ℕ) →
    length seats ≤ at + left → number None ≡ None → IsEmptyFrom at seats →
    lesser least (least_of number (drop at seats)) ≡ least
none_down number seats zero at least past none empty = least_done number seats at least (omega (arith, past))
none_down number seats (suc left) at least past none empty =
    none_here number seats at least (leb (length seats) at) refl none empty
    (none_down number seats left (at + 1) least (omega (arith, past)) none
    (record { each = λ seat behind. empty.each seat (omega (arith, behind)) }))

pub least_empty : {T : Type 0} → (number : Option T → Option ℕ) (seats : List (Option T)) (seat : ℕ) (so_far : Option ℕ) →
    number None ≡ None → IsEmptyFrom seat seats →
    lesser so_far (least_of number (drop seat seats)) ≡ so_far
least_empty number seats seat so_far none empty = none_down number seats (length seats) seat so_far (omega arith) none empty

-- ---- which one is the least

-- the lesser of two is one of them
pub lesser_is : (a b : Option ℕ) (n : ℕ) → lesser a b ≡ Some n → (a ≡ Some n) ⊎ (b ≡ Some n)
lesser_is None b n is = inr is
lesser_is (Some a) None n is = inl is
lesser_is (Some a) (Some b) n is = by (leb a b) refl
  where
    least : min a b ≡ n
    least = same_Some (min a b) n is

    by : (less : Bool) → leb a b ≡ less → (Some a ≡ Some n) ⊎ (Some b ≡ Some n)
    by true less = let same : a ≡ n = omega (arith, least, leb-true a b less) in inl (ap Some same)
    by false less = let same : b ≡ n = omega (arith, least, leb-false a b less) in inr (ap Some same)

-- it is there where one of them is
pub lesser_never : (a b : Option ℕ) → lesser a b ≡ None → (a ≡ None) × (b ≡ None)
lesser_never None b is = (refl, is)
lesser_never (Some a) None is = absurd (cc is)
lesser_never (Some a) (Some b) is = absurd (cc is)

-- the least is that of something at a seat
pub least_held : {T : Type 0} → (number : Option T → Option ℕ) (things : List (Option T)) (n : ℕ) → least_of number things ≡ Some n →
    (seat : ℕ) × (number (held_in things seat) ≡ Some n)
least_held number [] n is = absurd (none-some n is)
least_held {T} number (thing ∷ things) n is =
    by (lesser_is (number thing) (least_of number things) n is) (λ there. least_held number things n there)
  where
    by : (number thing ≡ Some n) ⊎ (least_of number things ≡ Some n) →
        (least_of number things ≡ Some n → (seat : ℕ) × (number (held_in things seat) ≡ Some n)) →
        (seat : ℕ) × (number (held_in (thing ∷ things) seat) ≡ Some n)
    by (inl here) more = (zero, here)
    by (inr there) more = let found = more there in (suc found.0, found.1)

-- without one nothing has a number
pub least_never : {T : Type 0} → (number : Option T → Option ℕ) (things : List (Option T)) → number None ≡ None →
    least_of number things ≡ None → (seat : ℕ) → number (held_in things seat) ≡ None
least_never number [] none is seat = none
least_never number (thing ∷ things) none is zero = (lesser_never (number thing) (least_of number things) is).0
least_never number (thing ∷ things) none is (suc seat) =
    least_never number things none (lesser_never (number thing) (least_of number things) is).1 seat

-- ---- all are greater than a number

-- where there is such a number, it is greater
abbrev pub IsAfter : ℕ → Option ℕ → Type 0
IsAfter k found = (n : ℕ) → found ≡ Some n → k < n

pub lesser_after : (k : ℕ) (a b : Option ℕ) → IsAfter k a → IsAfter k b → IsAfter k (lesser a b)
lesser_after k None b ha hb n e = hb n e
lesser_after k (Some a) None ha hb n e = ha n e
lesser_after k (Some a) (Some b) ha hb n e = omega (arith, ha a refl, hb b refl, ap (λ found. unwrap_or found 0) e)

pub least_after : {T : Type 0} → (k : ℕ) (number : T → Option ℕ) → ((x : T) → IsAfter k (number x)) → (xs : List T) →
    IsAfter k (least_of number xs)
least_after k number each [] n e = absurd (cc)
least_after k number each (x ∷ xs) n e = lesser_after k (number x) (least_of number xs) (each x) (least_after k number each xs) n e
