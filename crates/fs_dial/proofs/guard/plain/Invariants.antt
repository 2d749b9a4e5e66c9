use Rattle.std.proofs.Common.{◌≡◌, ◌++◌, length}
use Rattle.fs_dial.specs.declared.guard.Guard.TheVariants.{Bare}
use Rattle.fs_dial.specs.Guards.{plain_of}
use Rattle.fs_dial.proofs.guard.plain.Given as goal

abbrev pub invariant-loop-left : goal.invariant-loop-left
invariant-loop-left l = record { so_far : l.text.items ++ plain_of l.separator l.guard l.left ≡ plain_of l.separator Bare l.value }

abbrev pub decreases-loop-left : goal.decreases-loop-left
decreases-loop-left l = length l.left
