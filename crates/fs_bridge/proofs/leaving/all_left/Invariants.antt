use Rattle.std.proofs.Common.{◌≡◌, filter_map, take}
use Rattle.fs_bridge.specs.Leaving.{left_behind}
use Rattle.fs_bridge.proofs.leaving.all_left.Given as goal

abbrev pub invariant-loop-slot : goal.invariant-loop-slot
invariant-loop-slot g l =
    l.others.items ≡ filter_map (left_behind (g.L.Lines.world l.world) l.left) (take l.slot-index l.left)
