-- What is written over a table, and what stands at its seats.
use Rattle.std.proofs.Common.{◌≡◌, ℕ, zero, suc, ◌+◌, ◌<◌, ◌≤◌, ◌==◌, leb, Bool, true, false, List, [], ◌∷◌, ◌++◌, length, drop, Option}
use Rattle.std.proofs.Common.{None, Some, refl, sym, ap, subst, ◌∙◌, arith}
use Rattle.std.specs.Prelude.{◌-◌, slice_get, if◌then◌else◌}
use Rattle.std.proofs.lemmas.List.{length-append, get_or-set_same, get_or-set_other, set-set, length-set, get_or_past, at_drop_more}
use Rattle.std.proofs.lemmas.List.{at_drop_all}
use Rattle.std.proofs.lemmas.Bool.{eqb-true, leb-true, leb-false}
use Rattle.std.proofs.lemmas.Bool.Decides.{nat_tests}
use Rattle.fs_seats.specs.declared.sheet.Write.{Write}
use Rattle.fs_seats.specs.Seats.{held_in, with_held, first_seat, IsEmptyFrom}
use Rattle.fs_seats.specs.Sheets.{written, newest}

-- no write changes how many seats there are
pub written_length : {T : Type 0} → (seats : List (Option T)) (ws : List (Write T)) → length (written seats ws) ≡ length seats
written_length seats [] = refl
written_length seats (w ∷ ws) = written_length (with_held seats w.seat w.held) ws ∙ length-set seats w.seat w.held

-- the newest write is put last
pub written_put : {T : Type 0} → (seats : List (Option T)) (ws : List (Write T)) (w : Write T) →
    written seats (ws ++ w ∷ []) ≡ with_held (written seats ws) w.seat w.held
written_put seats [] w = refl
written_put seats (v ∷ ws) w = written_put (with_held seats v.seat v.held) ws w

-- what stands at a seat after one write
one_written : {T : Type 0} → (seats : List (Option T)) (w : Write T) (seat : ℕ) → seat < length seats →
    held_in (with_held seats w.seat w.held) seat ≡ (if w.seat == seat then w.held else held_in seats seat)
one_written seats w seat within = on (w.seat == seat) refl
  where
    on : (b : Bool) → (w.seat == seat) ≡ b →
        held_in (with_held seats w.seat w.held) seat ≡ (if b then w.held else held_in seats seat)
    on true e =
        let same : w.seat ≡ seat = eqb-true w.seat seat e in
        subst (λ p. held_in (with_held seats w.seat w.held) p ≡ w.held) same
        (get_or-set_same seats w.seat w.held None (subst (λ p. p < length seats) (sym same) within))
    on false e = get_or-set_other seats w.seat seat w.held None (λ same. grind (arith, nat_tests, e, same))

-- what stands at a seat is what was written there last, or else what is kept
pub written_newest : {T : Type 0} → (seats : List (Option T)) (ws : List (Write T)) (seat : ℕ) → seat < length seats →
    held_in (written seats ws) seat ≡ newest ws seat (held_in seats seat)
written_newest seats [] seat within = refl
written_newest seats (w ∷ ws) seat within =
    written_newest (with_held seats w.seat w.held) ws seat (subst (λ n. seat < n) (sym (length-set seats w.seat w.held)) within)
    ∙ ap (newest ws seat) (one_written seats w seat within)

-- past the last seat nothing stands
pub written_past : {T : Type 0} → (seats : List (Option T)) (ws : List (Write T)) (seat : ℕ) → length seats ≤ seat →
    held_in (written seats ws) seat ≡ None
written_past seats ws seat past =
    get_or_past (written seats ws) seat None (subst (λ n. n ≤ seat) (sym (written_length seats ws)) past)

-- a write that is taken back stood there
pub taken_held : {T : Type 0} → (seats : List (Option T)) (ws : List (Write T)) (seat : ℕ) (held : Option T) → seat < length seats →
    held_in (written seats (ws ++ record { seat = seat; held = held } ∷ [])) seat ≡ held
taken_held seats ws seat held within =
    ap (λ list. held_in list seat) (written_put seats ws (record { seat = seat; held = held }))
    ∙ get_or-set_same (written seats ws) seat held None (subst (λ n. seat < n) (sym (written_length seats ws)) within)

-- whatever is put there then
pub taken_put : {T : Type 0} → (seats : List (Option T)) (ws : List (Write T)) (seat : ℕ) (held other : Option T) →
    with_held (written seats ws) seat other ≡ with_held (written seats (ws ++ record { seat = seat; held = held } ∷ [])) seat other
taken_put seats ws seat held other =
    sym (ap (λ list. with_held list seat other) (written_put seats ws (record { seat = seat; held = held }))
    ∙ set-set (written seats ws) seat held other)

-- the newest write is the last one
last_put : {T : Type 0} → (ws : List (Write T)) (w : Write T) → slice_get (ws ++ w ∷ []) (length ws) ≡ Some w
last_put [] w = refl
last_put (v ∷ ws) w = last_put ws w

pub last_write : {T : Type 0} → (ws : List (Write T)) (w : Write T) → slice_get (ws ++ w ∷ []) (length (ws ++ w ∷ []) - 1) ≡ Some w
last_write ws w =
    let count : length (ws ++ w ∷ []) - 1 ≡ length ws = omega (arith, length-append ws (w ∷ [])) in
    ap (slice_get (ws ++ w ∷ [])) count ∙ last_put ws w

-- ---- what is filled

pub none_past : {T : Type 0} → (seats : List (Option T)) → IsEmptyFrom (length seats) seats
none_past seats = record { each = λ seat past. get_or_past seats seat None past }

-- ---- the first seat

pub first_here : {T : Type 0} → (test : Option T → Bool) (seats : List (Option T)) (seat : ℕ) → seat < length seats →
    test (held_in seats seat) ≡ true → first_seat test (drop seat seats) seat ≡ Some seat
first_here test seats seat within e =
    at_drop_more (λ held. first_seat test held seat) seats seat None within
    ∙ ap (λ b. if b then Some seat else first_seat test (drop (seat + 1) seats) (seat + 1)) e

pub first_behind : {T : Type 0} → (test : Option T → Bool) (seats : List (Option T)) (seat : ℕ) → seat < length seats →
    test (held_in seats seat) ≡ false →
    first_seat test (drop seat seats) seat ≡ first_seat test (drop (seat + 1) seats) (seat + 1)
first_behind test seats seat within e =
    at_drop_more (λ held. first_seat test held seat) seats seat None within
    ∙ ap (λ b. if b then Some seat else first_seat test (drop (seat + 1) seats) (seat + 1)) e

pub first_nowhere : {T : Type 0} → (test : Option T → Bool) (seats : List (Option T)) (seat : ℕ) → length seats ≤ seat →
    first_seat test (drop seat seats) seat ≡ None
first_nowhere test seats seat past = at_drop_all (λ held. first_seat test held seat) seats seat past

pub ruleset first_rules = (first_here, first_behind, first_nowhere)

-- where nothing stands any more
empty_behind : {T : Type 0} → (seats : List (Option T)) (from : ℕ) → IsEmptyFrom from seats → IsEmptyFrom (from + 1) seats
empty_behind seats from empty = record { each = λ seat past. empty.each seat (omega (arith, past)) }

first_over : {T : Type 0} → (test : Option T → Bool) (seats : List (Option T)) (at : ℕ) (over : Bool) → leb (length seats) at ≡ over →
    test None ≡ false → IsEmptyFrom at seats →
    first_seat test (drop (at + 1) seats) (at + 1) ≡ None → first_seat test (drop at seats) at ≡ None
first_over test seats at true is fails empty behind = first_nowhere test seats at (leb-true (length seats) at is)
first_over test seats at false is fails empty behind =
    first_behind test seats at (leb-false (length seats) at is) (ap test (empty.each at (omega arith)) ∙ fails) ∙ behind

first_down : {T : Type 0} → (test : Option T → Bool) (seats : List (Option T)) (left at : ℕ) → length seats ≤ at + left →
    test None ≡ false → IsEmptyFrom at seats →
    first_seat test (drop at seats) at ≡ None
first_down test seats zero at past fails empty = first_nowhere test seats at (omega (arith, past))
first_down test seats (suc left) at past fails empty =
    first_over test seats at (leb (length seats) at) refl fails empty
    (first_down test seats left (at + 1) (omega (arith, past)) fails (empty_behind seats at empty))

pub first_empty : {T : Type 0} → (test : Option T → Bool) (seats : List (Option T)) (from : ℕ) → test None ≡ false →
    IsEmptyFrom from seats → first_seat test (drop from seats) from ≡ None
first_empty test seats from fails empty = first_down test seats (length seats) from (omega arith) fails empty

-- the first seat, where no more are filled from some seat on
pub ruleset filled_rules = (first_here, first_behind, first_empty)
