use Rattle.std.proofs.Common.{◌≡◌, take}
use Rattle.fs_chan.proofs.left.copied.Given as goal

-- the actions so far
abbrev pub invariant-loop-action : goal.invariant-loop-action
invariant-loop-action l = l.all.items ≡ take l.action-index l.actions
