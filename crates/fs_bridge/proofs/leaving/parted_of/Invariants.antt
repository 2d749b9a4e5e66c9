use Rattle.std.proofs.Common.{◌≡◌, take}
use Rattle.fs_bridge.specs.Leaving as spec
use Rattle.fs_bridge.proofs.leaving.parted_of.Given as goal

abbrev pub invariant-loop-slot : goal.invariant-loop-slot
invariant-loop-slot g l = l.parted.items ≡ spec.parted_of (g.L.Lines.world l.world) (take l.slot-index l.left)
