-- Things that are known by their numbers, at the seats of a table.
use Rattle.std.specs.Prelude.{ℕ, ◌==◌, Bool, false, List, Option, None, Some}
use Rattle.std.specs.Option.{option_map, option_and_then}
use Rattle.fs_seats.specs.declared.numbered.Numbered.{Numbered}
use Rattle.fs_seats.specs.Seats.{held_in, with_held, first_seat, least_free}

-- what stands there has this number
abbrev pub has_number : {T : Type 0} → ℕ → Option (Numbered T) → Bool
has_number number None = false
has_number number (Some row) = row.number == number

-- the seat of a number
abbrev pub seat_of : {T : Type 0} → List (Option (Numbered T)) → ℕ → Option ℕ
seat_of seats number = first_seat (has_number number) seats 0

-- the thing of a number
abbrev pub row_of : {T : Type 0} → List (Option (Numbered T)) → ℕ → Option T
row_of seats number = option_map (λ row. row.held) (option_and_then (λ seat. held_in seats seat) (seat_of seats number))

-- with something at such a seat, if there is one
abbrev pub with_held_at : {T : Type 0} → List (Option T) → Option T → Option ℕ → List (Option T)
with_held_at seats held None = seats
with_held_at seats held (Some seat) = with_held seats seat held

-- with another thing of this number, if there is one
abbrev pub with_row : {T : Type 0} → List (Option (Numbered T)) → ℕ → T → List (Option (Numbered T))
with_row seats number held = with_held_at seats (Some (record { number = number; held = held })) (seat_of seats number)

-- without the thing of this number
abbrev pub without_row : {T : Type 0} → List (Option (Numbered T)) → ℕ → List (Option (Numbered T))
without_row seats number = with_held_at seats None (seat_of seats number)

-- with a thing at the least empty seat, if there is one
abbrev pub with_new_row : {T : Type 0} → List (Option (Numbered T)) → ℕ → T → List (Option (Numbered T))
with_new_row seats number held = with_held_at seats (Some (record { number = number; held = held })) (least_free seats 0)
