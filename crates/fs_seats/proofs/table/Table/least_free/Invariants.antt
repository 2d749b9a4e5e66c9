use Rattle.std.proofs.Common.{◌≡◌, drop}
use Rattle.std.specs.Prelude.{is_none}
use Rattle.fs_seats.specs.Seats.{first_seat, least_free}
use Rattle.fs_seats.proofs.table.Table.least_free.Given as goal

abbrev pub invariant-loop-seat : goal.invariant-loop-seat
invariant-loop-seat g l =
    first_seat is_none (drop l.seat (g.Self.Table.held l.self)) l.seat ≡ least_free (g.Self.Table.held l.self) l.from
