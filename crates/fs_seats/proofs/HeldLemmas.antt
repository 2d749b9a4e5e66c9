-- What stands at the seats of a table once one of them was written, and which seats are free.
use Rattle.std.proofs.Common.{◌≡◌, ℕ, zero, suc, ◌<◌, ◌≤◌, List, length, get_or, drop, replicate, Option, None, Some, is_none, ◌⊎◌, inl}
use Rattle.std.proofs.Common.{inr, refl, sym, ap, subst, ◌∙◌, arith}
use Rattle.std.proofs.lemmas.List.{get_or-set_same, get_or-set_other, get_or_past, get_or-drop, length-drop}
use Rattle.std.proofs.lemmas.Bool.{cases_eq, cases_lt}
use Rattle.fs_seats.specs.Seats.{no_seats, held_in, with_held, least_free}
use Rattle.fs_seats.proofs.RowLemmas.{seat_found, is_nothing}

-- ---- one seat is written

pub held_here : {T : Type 0} → (seats : List (Option T)) (slot : ℕ) (new : Option T) → slot < length seats →
    held_in (with_held seats slot new) slot ≡ new
held_here seats slot new within = get_or-set_same seats slot new None within

pub held_there : {T : Type 0} → (seats : List (Option T)) (slot q : ℕ) (new : Option T) → (q ≡ slot → ⊥) →
    held_in (with_held seats slot new) q ≡ held_in seats q
held_there seats slot q new other = get_or-set_other seats slot q new None other

-- where something stands is a seat
pub held_within : {T : Type 0} → (seats : List (Option T)) (slot : ℕ) (x : T) → held_in seats slot ≡ Some x → slot < length seats
held_within seats slot x e = by (cases_lt slot (length seats))
  where
    by : (slot < length seats) ⊎ (length seats ≤ slot) → slot < length seats
    by (inl within) = within
    by (inr past) = let none : held_in seats slot ≡ None = get_or_past seats slot None past in absurd (cc)

-- what relates each thing to itself, and what stood there to what is written, relates old and new everywhere
pub at_each : {T : Type 0} → (seats : List (Option T)) (slot : ℕ) (new : Option T) (R : Option T → Option T → Type 0) →
    slot < length seats →
    R (held_in seats slot) new → ((x : Option T) → R x x) → (q : ℕ) → R (held_in seats q) (held_in (with_held seats slot new) q)
at_each seats slot new R within there same q = by (cases_eq q slot)
  where
    by : (q ≡ slot) ⊎ (q ≡ slot → ⊥) → R (held_in seats q) (held_in (with_held seats slot new) q)
    by (inl is_slot) =
        subst (λ k. R (held_in seats k) (held_in (with_held seats slot new) k)) (sym is_slot)
        (subst (λ y. R (held_in seats slot) y) (sym (held_here seats slot new within)) there)
    by (inr other) = subst (λ y. R (held_in seats q) y) (sym (held_there seats slot q new other)) (same (held_in seats q))

-- ---- free seats

-- nothing stands at a seat, and it is one from a seat on
pub record IsFree (T : Type 0) (seats : List (Option T)) (from seat : ℕ) : Type 0 where
  pub behind : from ≤ seat
  pub within : seat < length seats
  pub free : held_in seats seat ≡ None

pub free_seat : (T : Type 0) (seats : List (Option T)) (from seat : ℕ) → least_free seats from ≡ Some seat → IsFree T seats from seat
free_seat T seats from seat e =
    let found = seat_found is_none (drop from seats) from seat e in
    record {
      behind = omega (arith, found.1);
      within = omega (arith, found.1, found.3, length-drop from seats);
      free = ap (held_in seats) found.1 ∙ sym (get_or-drop from seats found.0 None)
          ∙ is_nothing (held_in (drop from seats) found.0) found.2;
    }

-- ---- empty seats

-- what is repeated stands at each seat
pub all_alike : {A : Type 0} → (count seat : ℕ) (a : A) → get_or (replicate count a) seat a ≡ a
all_alike zero seat a = refl
all_alike (suc count) zero a = refl
all_alike (suc count) (suc seat) a = all_alike count seat a

pub nothing_held : (T : Type 0) (count seat : ℕ) → held_in (no_seats {T = T} count) seat ≡ None
unfolding no_seats
nothing_held T count seat = all_alike {A = Option T} count seat None
