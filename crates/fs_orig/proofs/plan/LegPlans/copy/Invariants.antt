use Rattle.std.proofs.Common.{◌≡◌, take}
use Rattle.fs_orig.proofs.plan.LegPlans.copy.Given as goal

abbrev pub invariant-loop-group : goal.invariant-loop-group
invariant-loop-group l = l.plans ≡ take l.group-index l.group-items
