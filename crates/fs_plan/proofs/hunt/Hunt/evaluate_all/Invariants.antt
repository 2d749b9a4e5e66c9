use Rattle.std.proofs.Common.{◌≡◌, false, drop}
use Rattle.fs_plan.specs.Hunting.{conditions_done, looked_to}
use Rattle.fs_plan.proofs.hunt.Hunt.evaluate_all.Given as goal

-- the conditions that are left lead to what all lead to
abbrev pub invariant-loop-condition : goal.invariant-loop-condition
invariant-loop-condition g l =
    conditions_done l.profile (drop l.condition-index l.conditions) (looked_to l.self l.taken)
    ≡ conditions_done l.profile l.conditions (looked_to l.fn.self false)
