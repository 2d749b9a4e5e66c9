use Rattle.std.proofs.Common.{◌≡◌, drop}
use Rattle.fs_seats.specs.Least.{lesser, least_of}
use Rattle.fs_machine.specs.Due.{chan_moment, first_chan_moment}
use Rattle.fs_machine.proofs.due.first_chan_moment.Given as goal

abbrev pub invariant-loop-slot : goal.invariant-loop-slot
invariant-loop-slot l =
    lesser l.first (least_of (chan_moment l.seen) (drop l.slot l.seen.channels)) ≡ first_chan_moment l.seen
