use Rattle.std.proofs.Common.{◌≡◌, map, take}
use Rattle.fs_orig.specs.Plans.{leg_behind}
use Rattle.fs_orig.proofs.plan.LegPlans.of.Given as goal

abbrev pub invariant-loop-group : goal.invariant-loop-group
invariant-loop-group l = l.plans ≡ map (λ legs. map (leg_behind l.braces) legs) (take l.group-index l.group-items)
