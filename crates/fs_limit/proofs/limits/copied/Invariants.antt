use Rattle.std.proofs.Common.{◌≡◌, take}
use Rattle.fs_limit.proofs.limits.copied.Given as goal

abbrev pub invariant-loop-hold : goal.invariant-loop-hold
invariant-loop-hold l = l.all.items ≡ take l.hold-index l.holds
