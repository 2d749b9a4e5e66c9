use Rattle.std.proofs.Common.{◌≡◌, drop}
use Rattle.fs_seats.specs.Least.{lesser, least_of}
use Rattle.fs_machine.specs.Due.{due_number, due_job}
use Rattle.fs_machine.proofs.due.due_job.Given as goal

abbrev pub invariant-loop-seat : goal.invariant-loop-seat
invariant-loop-seat l =
    lesser l.least (least_of (due_number l.seen) (drop l.seat l.seen.jobs)) ≡ due_job l.seen
