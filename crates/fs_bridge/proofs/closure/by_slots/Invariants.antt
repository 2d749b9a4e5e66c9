use Rattle.std.proofs.Common.{◌≡◌, take}
use Rattle.fs_bridge.specs.Orders.{in_order}
use Rattle.fs_bridge.proofs.closure.by_slots.Given as goal

abbrev pub invariant-loop-member : goal.invariant-loop-member
invariant-loop-member l = l.ordered.items ≡ in_order (take l.member-index l.members)
