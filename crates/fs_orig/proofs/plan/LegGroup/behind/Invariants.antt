use Rattle.std.proofs.Common.{◌≡◌, map, take}
use Rattle.fs_orig.specs.Plans.{plan_behind}
use Rattle.fs_orig.proofs.plan.LegGroup.behind.Given as goal

abbrev pub invariant-loop-plan : goal.invariant-loop-plan
invariant-loop-plan l = l.group ≡ map (plan_behind l.pairs) (take l.plan-index l.plans)
