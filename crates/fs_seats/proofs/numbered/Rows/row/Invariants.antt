use Rattle.std.proofs.Common.{◌≡◌, drop}
use Rattle.fs_seats.specs.Seats.{first_seat}
use Rattle.fs_seats.specs.Rows as spec
use Rattle.fs_seats.proofs.numbered.Rows.row.Given as goal

abbrev pub invariant-loop-seat : goal.invariant-loop-seat
invariant-loop-seat g l =
    first_seat (spec.has_number l.number) (drop l.seat (g.Self.Table.held l.self)) l.seat
    ≡ spec.seat_of (g.Self.Table.held l.self) l.number
