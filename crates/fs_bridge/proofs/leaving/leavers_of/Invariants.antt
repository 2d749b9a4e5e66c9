use Rattle.std.proofs.Common.{◌≡◌, take}
use Rattle.fs_bridge.specs.Leaving as spec
use Rattle.fs_bridge.proofs.leaving.leavers_of.Given as goal

abbrev pub invariant-loop-slot : goal.invariant-loop-slot
invariant-loop-slot l = l.leavers.items ≡ spec.leavers_of (take l.slot-index l.left) l.members
