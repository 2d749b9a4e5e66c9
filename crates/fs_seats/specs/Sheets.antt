-- Writes over a table, the newest last.
use Rattle.std.specs.Prelude.{ℕ, ◌==◌, ◌-◌, List, [], ◌∷◌, ◌++◌, length, drop, slice_get, Bool, true, false, Option, None, Some, if◌then◌else◌}
use Rattle.fs_seats.specs.declared.sheet.Write.{Write}
use Rattle.fs_seats.specs.Seats.{with_held}

-- the table with these writes
abbrev pub written : {T : Type 0} → List (Option T) → List (Write T) → List (Option T)
written seats [] = seats
written seats (w ∷ ws) = written (with_held seats w.seat w.held) ws

-- what was written last at a seat, or else what is kept there
abbrev pub newest : {T : Type 0} → List (Write T) → ℕ → Option T → Option T
newest [] seat kept = kept
newest (w ∷ ws) seat kept = newest ws seat (if w.seat == seat then w.held else kept)

-- with one more write, which puts something at a seat
abbrev pub with_put : {T : Type 0} → List (Write T) → ℕ → T → List (Write T)
with_put ws seat held = ws ++ record { seat = seat; held = Some held } ∷ []

-- what a write put at a seat; nothing, where it is of another seat or empties its own
abbrev pub put_by : {T : Type 0} → Option (Write T) → ℕ → Option T
put_by None seat = None
put_by (Some w) seat = if w.seat == seat then w.held else None

-- what the newest write put at a seat
abbrev pub put_last : {T : Type 0} → List (Write T) → ℕ → Option T
put_last ws seat = put_by (slice_get ws (length ws - 1)) seat

-- one of these writes is of the seat
abbrev pub has_write : {T : Type 0} → List (Write T) → ℕ → Bool
has_write [] seat = false
has_write (w ∷ ws) seat = if w.seat == seat then true else has_write ws seat

-- the seat of the first of these writes, unless one behind it is of the same seat
abbrev pub last_in : {T : Type 0} → List (Write T) → Option ℕ
last_in [] = None
last_in (w ∷ ws) = if has_write ws w.seat then None else Some w.seat

-- the seat of a write, unless a later one is of the same seat
abbrev pub last_of : {T : Type 0} → List (Write T) → ℕ → Option ℕ
last_of ws write = last_in (drop write ws)
