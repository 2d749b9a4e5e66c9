-- A table with a sheet of writes over it.
use Rattle.std.specs.Prelude.{ℕ, nat_lt, if◌then◌else◌, length, List, Option, None}
use Rattle.fs_seats.specs.declared.sheet.Write.{Write}
use Rattle.fs_seats.specs.Seats.{held_in, with_held}
use Rattle.fs_seats.specs.Sheets.{written, put_last}

pub record Overlaid (T : Type 0) : Type 0 where
  pub kept : List (Option T)
  pub sheet : List (Write T)

-- a table with a sheet over it
abbrev pub over : {T : Type 0} → List (Option T) → List (Write T) → Overlaid T
over seats ws = record { kept = seats; sheet = ws }

-- the table with what is written
abbrev pub now_of : {T : Type 0} → Overlaid T → List (Option T)
now_of o = written o.kept o.sheet

-- what stands at a seat, with what is written
abbrev pub held_at : {T : Type 0} → Overlaid T → ℕ → Option T
held_at o seat = held_in (now_of o) seat

-- the table as it is with something else at a seat
abbrev pub put_at : {T : Type 0} → Overlaid T → ℕ → Option T → List (Option T)
put_at o seat held = with_held (now_of o) seat held

-- what can be taken back at a seat: what the newest write put there, where there is such a seat
abbrev pub taken_back : {T : Type 0} → Overlaid T → ℕ → Option T
taken_back o seat = if nat_lt seat (length o.kept) then put_last o.sheet seat else None
