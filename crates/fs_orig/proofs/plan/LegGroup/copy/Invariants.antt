use Rattle.std.proofs.Common.{◌≡◌, take}
use Rattle.fs_orig.proofs.plan.LegGroup.copy.Given as goal

abbrev pub invariant-loop-plan : goal.invariant-loop-plan
invariant-loop-plan l = l.group ≡ take l.plan-index l.plan-items
