use Rattle.std.proofs.Common.{◌≡◌, fold, filter, take}
use Rattle.fs_bridge.specs.Closure.{may_join}
use Rattle.fs_bridge.specs.Orders.{placed}
use Rattle.fs_bridge.proofs.closure.join.Given as goal

abbrev pub invariant-loop-member : goal.invariant-loop-member
invariant-loop-member g l =
    l.round.items
    ≡ fold placed l.initial.round.items (filter (may_join (g.L.Lines.world l.world) l.members) (take l.member-index l.dragged))
