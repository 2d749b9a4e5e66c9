use Rattle.std.proofs.Common.{◌≡◌, drop}
use Rattle.fs_seats.specs.Seats.{first_seat}
use Rattle.fs_state.specs.Queues.{waits}
use Rattle.fs_state.proofs.seen.Seen.first_waiting.Given as goal

abbrev pub invariant-loop-slot : goal.invariant-loop-slot
invariant-loop-slot l =
    first_seat (waits l.fn.name) l.fn.self.channels 0 ≡ first_seat (waits l.fn.name) (drop l.slot l.fn.self.channels) l.slot
