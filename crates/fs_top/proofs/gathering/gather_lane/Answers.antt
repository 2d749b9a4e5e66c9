use Rattle.std.proofs.Common.{subst}
use Rattle.std.proofs.lemmas.Result.{on_ok_weaker}
use Rattle.fs_top.specs.Standing.{HasFailed}
use Rattle.fs_top.proofs.gathering.gather_lane.Goals as goal

pub returns-in-Slot-clause-bounded : goal.returns-in-Slot-clause-bounded
returns-in-Slot-clause-bounded g c =
    on_ok_weaker c.gather_slot.result
    (λ bounded from failed before. bounded from (subst (HasFailed g.O.Dialer.dial_faults from) c.in-Slot.is failed) before)
    c.gather_slot.ensures.bounded

pub returns-in-Staff-clause-bounded : goal.returns-in-Staff-clause-bounded
returns-in-Staff-clause-bounded g c =
    on_ok_weaker c.gather_staff.result
    (λ bounded from failed before. bounded from _ before)
    c.gather_staff.ensures.bounded
