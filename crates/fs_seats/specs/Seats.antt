-- What stands at the seats of a table.
use Rattle.std.specs.Prelude.{◌≡◌, ◌≤◌, ℕ, ◌+◌, Bool, List, [], ◌∷◌, Option, None, Some, is_none, get_or, drop, replicate, if◌then◌else◌}
use Rattle.std.specs.List.{slice_set}

-- so many empty seats
unfoldable pub no_seats : {T : Type 0} → ℕ → List (Option T)
no_seats count = replicate count None

-- what stands at a seat; past the last one stands nothing
abbrev pub held_in : {T : Type 0} → List (Option T) → ℕ → Option T
held_in seats seat = get_or seats seat None

-- with something else at a seat; past the last one nothing changes
abbrev pub with_held : {T : Type 0} → List (Option T) → ℕ → Option T → List (Option T)
with_held seats seat held = slice_set seats seat held

-- the first seat of which a test holds, where these stand from a seat on
abbrev pub first_seat : {T : Type 0} → (Option T → Bool) → List (Option T) → ℕ → Option ℕ
first_seat test [] seat = None
first_seat test (held ∷ more) seat = if test held then Some seat else first_seat test more (seat + 1)

-- the least empty seat from one on
abbrev pub least_free : {T : Type 0} → List (Option T) → ℕ → Option ℕ
least_free seats from = first_seat is_none (drop from seats) from

-- from this seat on nothing stands
pub record IsEmptyFrom {T : Type 0} (from : ℕ) (seats : List (Option T)) : Type 0 where
  pub each : (seat : ℕ) → from ≤ seat → held_in seats seat ≡ None
