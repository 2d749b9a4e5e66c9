-- What stands at the seats of a table, behind one write too, and how many seats are taken.
use Rattle.std.proofs.Common.{◌≡◌, ◌≢◌, ◌⊎◌, ℕ, zero, suc, ◌+◌, ◌<◌, ◌≤◌, true, false, List, ◌∷◌, length, map, Option, None, Some, is_none}
use Rattle.std.proofs.Common.{refl, sym, ap, subst, ◌∙◌, inl, inr, ⊎_elim, arith, []}
use Rattle.std.specs.List.{sum_by}
use Rattle.std.proofs.lemmas.List.{get_or-set_other}
use Rattle.std.proofs.lemmas.List.Sums.{sum_by-cons, sum_by-set}
use Rattle.std.proofs.lemmas.Bool.{eqb-true, eqb-false}
use Rattle.std.proofs.lemmas.Option.{none-some, same_Some}
use Rattle.fs_seats.specs.declared.numbered.Numbered.{Numbered}
use Rattle.fs_seats.specs.Seats.{no_seats, held_in, with_held, first_seat, least_free}
use Rattle.fs_seats.specs.Rows.{has_number, seat_of, row_of, with_held_at, with_row, without_row, with_new_row}
use Rattle.fs_seats.proofs.HeldLemmas.{held_within, nothing_held}
use Rattle.fs_seats.proofs.RowLemmas.{held_of, row_at, row_none, seat_stands, none_stands}

-- what is there is something
pub something_there : {T : Type 0} → (x : T) → Some x ≡ None → ⊥
something_there x is = cc is

-- ---- one write

-- this was written there, or stands at another seat
abbrev pub IsWrittenOrKept : {T : Type 0} → List (Option T) → ℕ → Option T → ℕ → T → Type 0
IsWrittenOrKept seats seat held other x = ((other ≡ seat) × (held ≡ Some x)) ⊎ ((other ≢ seat) × (held_in seats other ≡ Some x))

-- what stands at a seat behind a write was written there, or stands at another seat as before
pub written_or_kept : {T : Type 0} → (seats : List (Option T)) (seat : ℕ) (held : Option T) (other : ℕ) (x : T) →
    held_in (with_held seats seat held) other ≡ Some x →
    IsWrittenOrKept seats seat held other x
written_or_kept [] seat held other x is = absurd (none-some x is)
written_or_kept (first ∷ more) zero held zero x is = inl (refl, is)
written_or_kept (first ∷ more) zero held (suc other) x is = inr ((λ same. omega (arith, same)), is)
written_or_kept (first ∷ more) (suc seat) held zero x is = inr ((λ same. omega (arith, same)), is)
written_or_kept (first ∷ more) (suc seat) held (suc other) x is =
    ⊎_elim
    (λ (here : (other ≡ seat) × (held ≡ Some x)). inl (ap suc here.0, here.1))
    (λ (there : (other ≢ seat) × (held_in more other ≡ Some x)). inr ((λ same. there.0 (omega (arith, same))), there.1))
    (written_or_kept more seat held other x is)

-- what stands somewhere behind a removal stood there before, and at another seat
pub kept_without : {T : Type 0} → (seats : List (Option T)) (seat other : ℕ) (x : T) →
    held_in (with_held seats seat None) other ≡ Some x →
    (other ≢ seat) × (held_in seats other ≡ Some x)
kept_without seats seat other x is =
    ⊎_elim
    (λ (here : (other ≡ seat) × (None ≡ Some x)). absurd (none-some x here.1))
    (λ (there : (other ≢ seat) × (held_in seats other ≡ Some x)). there)
    (written_or_kept seats seat None other x is)

-- what stands at another seat stands there still
pub still_there : {T : Type 0} → (seats : List (Option T)) (seat : ℕ) (held : Option T) (other : ℕ) (x : T) → other ≢ seat →
    held_in seats other ≡ Some x →
    held_in (with_held seats seat held) other ≡ Some x
still_there seats seat held other x apart is = get_or-set_other seats seat other held None apart ∙ is

-- what stands somewhere does not stand at a free seat
pub not_free : {T : Type 0} → (seats : List (Option T)) (seat other : ℕ) (x : T) → held_in seats seat ≡ None →
    held_in seats other ≡ Some x → other ≢ seat
not_free seats seat other x free is same = none-some x (sym free ∙ (ap (λ (p : ℕ). held_in seats p) (sym same) ∙ is))

-- what stands at one seat is one
pub one_there : {T : Type 0} → (seats : List (Option T)) (seat other : ℕ) (x y : T) → held_in seats seat ≡ Some x →
    held_in seats other ≡ Some y → other ≡ seat → x ≡ y
one_there seats seat other x y is is_other same = same_Some x y (sym is ∙ (ap (λ (p : ℕ). held_in seats p) (sym same) ∙ is_other))

-- nothing stands in a table of empty seats
pub none_held : {T : Type 0} → (count seat : ℕ) (x : T) → held_in (no_seats {T = T} count) seat ≡ Some x → ⊥
unfolding no_seats
none_held {T} count seat x is = none-some x (sym (nothing_held T count seat) ∙ is)

-- ---- numbers

number_here : {T : Type 0} → (number : ℕ) (held : Option (Numbered T)) → has_number number held ≡ true →
    (row : Numbered T) × (held ≡ Some row) × (row.number ≡ number)
number_here number None is = absurd (cc is)
number_here number (Some row) is = (row, refl, eqb-true row.number number is)

-- where a number has no seat, nothing has this number
no_seat : {T : Type 0} → (seats : List (Option (Numbered T))) (number k : ℕ) (row : Numbered T) → seat_of seats number ≡ None →
    held_in seats k ≡ Some row → row.number ≢ number
no_seat {T} seats number k row is there same =
    eqb-false row.number number
    (subst (λ (held : Option (Numbered T)). has_number number held ≡ false) there (none_stands seats number is k)) same

-- a thing of a number, with its seat
pub record IsRow {T : Type 0} (seats : List (Option (Numbered T))) (number seat : ℕ) (row : Numbered T) : Type 0 where
  pub at : seat_of seats number ≡ Some seat
  pub there : held_in seats seat ≡ Some row
  pub numbered : row.number ≡ number

abbrev pub HasRow : {T : Type 0} → List (Option (Numbered T)) → ℕ → Type 0
HasRow {T} seats number = (seat : ℕ) × (row : Numbered T) × IsRow seats number seat row

row_there : {T : Type 0} → (seats : List (Option (Numbered T))) (number seat : ℕ) → seat_of seats number ≡ Some seat →
    HasRow seats number
row_there {T} seats number seat is =
    let found : (row : Numbered T) × (held_in seats seat ≡ Some row) × (row.number ≡ number) =
    number_here number (held_in seats seat) (seat_stands seats number seat is) in
    (seat, found.0, record { at = is; there = found.1; numbered = found.2 })

-- the thing of a number is what its row holds
pub row_is : {T : Type 0} → (seats : List (Option (Numbered T))) (number seat : ℕ) (row : Numbered T) → IsRow seats number seat row →
    row_of seats number ≡ Some row.held
row_is seats number seat row h = row_at seats number seat h.at ∙ ap held_of h.there

-- what has a number has a row
pub row_found : {T : Type 0} → (seats : List (Option (Numbered T))) (number : ℕ) (x : T) → row_of seats number ≡ Some x →
    (seat : ℕ) × (row : Numbered T) × IsRow seats number seat row × (row.held ≡ x)
row_found {T} seats number x is = by (seat_of seats number) refl
  where
    by : (found : Option ℕ) → seat_of seats number ≡ found →
        (seat : ℕ) × (row : Numbered T) × IsRow seats number seat row × (row.held ≡ x)
    by None at = absurd (none-some x (sym (row_none seats number at) ∙ is))
    by (Some seat) at =
        let found : HasRow seats number = row_there seats number seat at in
        (found.0, found.1, found.2, same_Some found.1.held x (sym (row_is seats number found.0 found.1 found.2) ∙ is))

-- what stands at a seat has a row of its number
pub row_of_held : {T : Type 0} → (seats : List (Option (Numbered T))) (k : ℕ) (row : Numbered T) → held_in seats k ≡ Some row →
    HasRow seats row.number
row_of_held {T} seats k row there = by (seat_of seats row.number) refl
  where
    by : (found : Option ℕ) → seat_of seats row.number ≡ found → HasRow seats row.number
    by None at = absurd (no_seat seats row.number k row at there refl)
    by (Some seat) at = row_there seats row.number seat at

-- where a number has no thing, nothing has this number
pub no_row : {T : Type 0} → (seats : List (Option (Numbered T))) (number k : ℕ) (row : Numbered T) → row_of seats number ≡ None →
    held_in seats k ≡ Some row → row.number ≢ number
no_row {T} seats number k row is there same =
    let found : HasRow seats row.number = row_of_held seats k row there in
    something_there found.1.held (sym (row_is seats row.number found.0 found.1 found.2) ∙ (ap (λ (n : ℕ). row_of seats n) same ∙ is))

-- a change of a table is one write
pub row_written : {T : Type 0} → (seats : List (Option (Numbered T))) (number seat : ℕ) (x : T) → seat_of seats number ≡ Some seat →
    with_row seats number x ≡ with_held seats seat (Some (record { number = number; held = x }))
row_written {T} seats number seat x at =
    ap (λ (found : Option ℕ). with_held_at {T = Numbered T} seats (Some (record { number = number; held = x })) found) at

pub row_removed : {T : Type 0} → (seats : List (Option (Numbered T))) (number seat : ℕ) → seat_of seats number ≡ Some seat →
    without_row seats number ≡ with_held seats seat None
row_removed {T} seats number seat at = ap (λ (found : Option ℕ). with_held_at {T = Numbered T} seats None found) at

pub row_added : {T : Type 0} → (seats : List (Option (Numbered T))) (number seat : ℕ) (x : T) → least_free seats 0 ≡ Some seat →
    with_new_row seats number x ≡ with_held seats seat (Some (record { number = number; held = x }))
row_added {T} seats number seat x at =
    ap (λ (found : Option ℕ). with_held_at {T = Numbered T} seats (Some (record { number = number; held = x })) found) at

-- ---- the numbers alone

abbrev pub number_at : {T : Type 0} → Option (Numbered T) → Option ℕ
number_at None = None
number_at (Some row) = Some row.number

abbrev pub numbers_in : {T : Type 0} → List (Option (Numbered T)) → List (Option ℕ)
numbers_in seats = map number_at seats

pub numbers_held : {T : Type 0} → (seats : List (Option (Numbered T))) (seat : ℕ) →
    held_in (numbers_in seats) seat ≡ number_at (held_in seats seat)
numbers_held [] seat = refl
numbers_held (held ∷ more) zero = refl
numbers_held (held ∷ more) (suc seat) = numbers_held more seat

-- ---- how many seats are taken

abbrev pub one_if : {T : Type 0} → Option T → ℕ
one_if None = 0
one_if (Some x) = 1

abbrev pub taken_in : {T : Type 0} → List (Option T) → ℕ
taken_in seats = sum_by one_if seats

full_from : {T : Type 0} → (seats : List (Option T)) (from : ℕ) → first_seat is_none seats from ≡ None → taken_in seats ≡ length seats
full_from [] from is = refl
full_from (None ∷ more) from is = absurd (something_there from is)
full_from (Some x ∷ more) from is =
    let rest : taken_in more ≡ length more = full_from more (from + 1) is in
    let all : taken_in (Some x ∷ more) ≡ one_if (Some x) + taken_in more = sum_by-cons one_if (Some x) more in
    omega (arith, rest, all)

-- where no seat is free, all are taken
pub full_taken : {T : Type 0} → (seats : List (Option T)) → least_free seats 0 ≡ None → taken_in seats ≡ length seats
full_taken seats is = full_from seats 0 is

-- as many numbers are there as things
pub taken_numbers : {T : Type 0} → (seats : List (Option (Numbered T))) → taken_in (numbers_in seats) ≡ taken_in seats
taken_numbers [] = refl
taken_numbers (None ∷ more) =
    let rest : taken_in (numbers_in more) ≡ taken_in more = taken_numbers more in
    let one : taken_in (numbers_in (None ∷ more)) ≡ 0 + taken_in (numbers_in more) = sum_by-cons one_if None (numbers_in more) in
    let other : taken_in (None ∷ more) ≡ 0 + taken_in more = sum_by-cons one_if None more in
    omega (arith, rest, one, other)
taken_numbers (Some row ∷ more) =
    let rest : taken_in (numbers_in more) ≡ taken_in more = taken_numbers more in
    let one : taken_in (numbers_in (Some row ∷ more)) ≡ 1 + taken_in (numbers_in more) =
    sum_by-cons one_if (Some row.number) (numbers_in more) in
    let other : taken_in (Some row ∷ more) ≡ 1 + taken_in more = sum_by-cons one_if (Some row) more in
    omega (arith, rest, one, other)

-- one more is taken where something is put at an empty seat, and one less where a seat is emptied
pub taken_more : {T : Type 0} → (seats : List (Option T)) (seat : ℕ) (x : T) → seat < length seats → held_in seats seat ≡ None →
    taken_in (with_held seats seat (Some x)) ≡ taken_in seats + 1
taken_more seats seat x within free =
    let sums : taken_in (with_held seats seat (Some x)) + one_if (held_in seats seat) ≡ taken_in seats + 1 =
    sum_by-set one_if seats seat (Some x) None within in
    let none : one_if (held_in seats seat) ≡ 0 = ap one_if free in
    omega (arith, sums, none)

pub taken_less : {T : Type 0} → (seats : List (Option T)) (seat : ℕ) (x : T) → held_in seats seat ≡ Some x →
    taken_in (with_held seats seat None) + 1 ≡ taken_in seats
taken_less seats seat x stands =
    let sums : taken_in (with_held seats seat None) + one_if (held_in seats seat) ≡ taken_in seats + 0 =
    sum_by-set one_if seats seat None None (held_within seats seat x stands) in
    let one : one_if (held_in seats seat) ≡ 1 = ap one_if stands in
    omega (arith, sums, one)

-- as many are where something stands for something else
pub taken_same : {T : Type 0} → (seats : List (Option T)) (seat : ℕ) (old new : T) → held_in seats seat ≡ Some old →
    taken_in (with_held seats seat (Some new)) ≡ taken_in seats
taken_same seats seat old new stands =
    let sums : taken_in (with_held seats seat (Some new)) + one_if (held_in seats seat) ≡ taken_in seats + 1 =
    sum_by-set one_if seats seat (Some new) None (held_within seats seat old stands) in
    let one : one_if (held_in seats seat) ≡ 1 = ap one_if stands in
    omega (arith, sums, one)

-- no more are than there are
pub taken_most : {T : Type 0} → (seats : List (Option T)) → taken_in seats ≤ length seats
taken_most [] = omega arith
taken_most {T} (held ∷ more) =
    let rest : taken_in more ≤ length more = taken_most more in
    let all : taken_in (held ∷ more) ≡ one_if held + taken_in more = sum_by-cons one_if held more in
    let one : one_if held ≤ 1 = at_most held in
    omega (arith, rest, all, one)
  where
    at_most : (x : Option T) → one_if x ≤ 1
    at_most None = omega arith
    at_most (Some x) = omega arith

-- a table of empty seats has none that is taken
pub none_taken : {T : Type 0} → (measure : Option T → ℕ) (count : ℕ) → measure None ≡ 0 → sum_by measure (no_seats {T = T} count) ≡ 0
unfolding no_seats
none_taken measure zero is = refl
none_taken {T} measure (suc count) is =
    let rest : sum_by measure (no_seats {T = T} count) ≡ 0 = none_taken measure count is in
    let all : sum_by measure (None ∷ no_seats {T = T} count) ≡ measure None + sum_by measure (no_seats {T = T} count) =
    sum_by-cons measure None (no_seats {T = T} count) in
    omega (arith, rest, all, is)
