use Rattle.std.proofs.Common.{◌≡◌, drop}
use Rattle.fs_plan.specs.Hunting.{actions_done}
use Rattle.fs_plan.proofs.hunt.Hunt.give_all.Given as goal

-- the actions that are left lead to what all lead to
abbrev pub invariant-loop-action : goal.invariant-loop-action
invariant-loop-action l =
    actions_done l.profile l.groups (drop l.action-index l.actions) l.self ≡ actions_done l.profile l.groups l.actions l.fn.self
