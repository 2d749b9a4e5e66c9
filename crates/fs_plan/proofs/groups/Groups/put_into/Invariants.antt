use Rattle.std.proofs.Common.{◌≡◌, ◌++◌, length}
use Rattle.fs_plan.specs.Substitution.{with_groups}
use Rattle.fs_plan.proofs.groups.Groups.put_into.Given as goal

-- what is written, and what comes of the rest, is the whole
abbrev pub invariant-loop-left : goal.invariant-loop-left
invariant-loop-left l = l.out.items ++ with_groups l.self l.left ≡ with_groups l.self l.text

abbrev pub decreases-loop-left : goal.decreases-loop-left
decreases-loop-left l = length l.left
