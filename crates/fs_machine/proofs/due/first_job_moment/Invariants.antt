use Rattle.std.proofs.Common.{◌≡◌, drop}
use Rattle.fs_seats.specs.Least.{lesser, least_of}
use Rattle.fs_machine.specs.Due.{row_moment, first_job_moment}
use Rattle.fs_machine.proofs.due.first_job_moment.Given as goal

abbrev pub invariant-loop-seat : goal.invariant-loop-seat
invariant-loop-seat l =
    lesser l.first (least_of (row_moment l.seen) (drop l.seat l.seen.jobs)) ≡ first_job_moment l.seen
