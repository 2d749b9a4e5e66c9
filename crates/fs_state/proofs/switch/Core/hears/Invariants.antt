use Rattle.std.proofs.Common.{◌≡◌, drop}
use Rattle.fs_seats.specs.Seats.{first_seat}
use Rattle.fs_state.specs.Posting as spec
use Rattle.fs_state.proofs.switch.Core.hears.Given as goal

abbrev pub invariant-loop-seat : goal.invariant-loop-seat
invariant-loop-seat l =
    first_seat (spec.hears_at l.name l.subclass) (drop l.seat l.self.switch.conns) l.seat
    ≡ first_seat (spec.hears_at l.name l.subclass) l.self.switch.conns 0
