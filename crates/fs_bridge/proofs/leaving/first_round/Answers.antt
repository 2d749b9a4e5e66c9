use Rattle.std.proofs.Common.{◌∙◌}
use Rattle.fs_bridge.specs.declared.after.After.TheVariants.{GoOn}
use Rattle.fs_bridge.specs.Closure.{hung}
use Rattle.fs_bridge.proofs.LeavingSteps.{added_next}
use Rattle.fs_bridge.proofs.leaving.first_round.Goals as goal

pub loop-other-preserved : goal.loop-other-preserved
loop-other-preserved c =
    c.in_ok-add.ensures.ok
    ∙ added_next hung c.args.first.now c.args.others.now c.loop-other.other-index (0, GoOn) c.loop-other.round.items c.hung.result
    c.loop-other-test.true c.loop-other.invariant c.hung.ensures
