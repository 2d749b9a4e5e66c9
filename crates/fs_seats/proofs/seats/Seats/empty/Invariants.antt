use Rattle.std.proofs.Common.{◌≡◌, replicate, None}
use Rattle.fs_seats.proofs.seats.Seats.empty.Given as goal

abbrev pub invariant-loop-seat : goal.invariant-loop-seat
invariant-loop-seat g l = l.list.items ≡ replicate l._seat None
