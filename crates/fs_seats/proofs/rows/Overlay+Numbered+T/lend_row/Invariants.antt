use Rattle.std.proofs.Common.{◌≡◌, drop}
use Rattle.fs_seats.specs.Overlays.{now_of}
use Rattle.fs_seats.specs.Seats.{first_seat}
use Rattle.fs_seats.specs.Rows as spec
use Rattle.fs_seats.proofs.rows.Overlay+Numbered+T.lend_row.Given as goal

abbrev pub invariant-loop-seat : goal.invariant-loop-seat
invariant-loop-seat g l =
    first_seat (spec.has_number l.number) (drop l.seat (now_of l.self)) l.seat ≡ spec.seat_of (now_of l.self) l.number
