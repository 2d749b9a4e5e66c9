use Rattle.std.proofs.Common.{◌≡◌, take}
use Rattle.fs_bridge.specs.Closure as spec
use Rattle.fs_bridge.proofs.closure.ended_of.Given as goal

abbrev pub invariant-loop-member : goal.invariant-loop-member
invariant-loop-member g l = l.ended.items ≡ spec.ended_of (g.L.Lines.world l.world) (take l.member-index l.members)
