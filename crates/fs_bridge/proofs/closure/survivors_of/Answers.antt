use Rattle.std.proofs.Common.{◌∙◌}
use Rattle.fs_text.specs.declared.causes.Cause.TheVariants.{UnallocatedNumber}
use Rattle.fs_bridge.specs.Closure.{survivor_of}
use Rattle.fs_bridge.proofs.RoundLemmas.{survivor_next}
use Rattle.fs_bridge.proofs.closure.survivors_of.Goals as goal

pub loop-member-preserved : goal.loop-member-preserved
loop-member-preserved g c =
    c.in_ok-place_if.ensures.ok
    ∙ survivor_next (survivor_of (g.L.Lines.world c.args.world.now) c.args.members.now) c.args.members.now c.loop-member.member-index
    (0, UnallocatedNumber) c.loop-member.survivors.items c.survivor_of.result c.loop-member-test.true c.loop-member.invariant
    c.survivor_of.ensures
