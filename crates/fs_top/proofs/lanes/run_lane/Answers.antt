use Rattle.std.proofs.Common.{subst}
use Rattle.fs_top.specs.Standing.{HasFailed}
use Rattle.fs_top.proofs.lanes.run_lane.Goals as goal

pub returns-in-Slot-clause-failed : goal.returns-in-Slot-clause-failed
returns-in-Slot-clause-failed g c = λ from failed.
    c.run_slot.ensures.failed from (subst (HasFailed g.O.Dialer.dial_faults from) c.in-Slot.is failed)
