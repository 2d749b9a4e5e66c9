use Rattle.std.proofs.Common.{◌≡◌, take}
use Rattle.fs_plan.proofs.build.copies.Given as goal

-- the actions so far stand in the copy
abbrev pub invariant-loop-action : goal.invariant-loop-action
invariant-loop-action l = l.copied ≡ take l.action-index l.actions
