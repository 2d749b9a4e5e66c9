use Rattle.std.proofs.Common.{◌≡◌, filter_map, take}
use Rattle.fs_bridge.specs.Closure.{survivor_of}
use Rattle.fs_bridge.specs.Orders.{in_order}
use Rattle.fs_bridge.proofs.closure.survivors_of.Given as goal

abbrev pub invariant-loop-member : goal.invariant-loop-member
invariant-loop-member g l =
    l.survivors.items ≡ in_order (filter_map (survivor_of (g.L.Lines.world l.world) l.members) (take l.member-index l.members))
