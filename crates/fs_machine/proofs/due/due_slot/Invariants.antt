use Rattle.std.proofs.Common.{◌≡◌, drop}
use Rattle.fs_seats.specs.Seats.{first_seat}
use Rattle.fs_machine.specs.Due.{is_due, due_slot}
use Rattle.fs_machine.proofs.due.due_slot.Given as goal

abbrev pub invariant-loop-slot : goal.invariant-loop-slot
invariant-loop-slot l =
    first_seat (is_due l.seen) (drop l.slot l.seen.channels) l.slot ≡ due_slot l.seen
