use Rattle.std.proofs.Common.{◌≡◌, ◌++◌, take}
use Rattle.fs_orig.proofs.plan.add_copies.Given as goal

abbrev pub invariant-loop-name : goal.invariant-loop-name
invariant-loop-name l = l.pairs ≡ l.initial.pairs ++ take l.name-index l.name-items
