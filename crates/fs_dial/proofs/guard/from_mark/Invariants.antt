use Rattle.std.proofs.Common.{◌≡◌, ◌≤◌, length}
use Rattle.fs_dial.specs.declared.guard.Guard.TheVariants.{Bare}
use Rattle.fs_dial.specs.Guards.{from_mark}
use Rattle.fs_dial.proofs.guard.from_mark.Given as goal

abbrev pub invariant-loop-left : goal.invariant-loop-left
invariant-loop-left l =
    record { same : from_mark l.mark l.guard l.left ≡ from_mark l.mark Bare l.text; within : length l.left ≤ length l.text }

abbrev pub decreases-loop-left : goal.decreases-loop-left
decreases-loop-left l = length l.left
