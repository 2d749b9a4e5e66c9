use Rattle.std.proofs.Common.{[], ◌∙◌}
use Rattle.fs_bridge.specs.Leaving.{left_behind}
use Rattle.fs_bridge.proofs.LeavingSteps.{added_next}
use Rattle.fs_bridge.proofs.leaving.all_left.Goals as goal

pub loop-slot-preserved : goal.loop-slot-preserved
loop-slot-preserved g c =
    c.in_ok-add.ensures.ok
    ∙ added_next (left_behind (g.L.Lines.world c.args.world.now) c.args.left.now) [] c.args.left.now c.loop-slot.slot-index 0
    c.loop-slot.others.items c.left_behind.result c.loop-slot-test.true c.loop-slot.invariant c.left_behind.ensures
