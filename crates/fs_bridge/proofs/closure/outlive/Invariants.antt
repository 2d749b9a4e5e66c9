use Rattle.std.proofs.Common.{◌≡◌, not, fold, filter, take}
use Rattle.fs_bridge.specs.Orders.{has_slot, placed}
use Rattle.fs_bridge.proofs.closure.outlive.Given as goal

abbrev pub invariant-loop-other : goal.invariant-loop-other
invariant-loop-other l =
    l.survivors.items
    ≡ fold placed l.initial.survivors.items (filter (λ s. not (has_slot s.0 l.members)) (take l.other-index l.others))
