use Rattle.std.proofs.Common.{◌≡◌, length}
use Rattle.fs_frame.specs.Front.{behind_end}
use Rattle.fs_frame.proofs.scan.behind_empty.Given as goal

abbrev pub invariant-loop-line : goal.invariant-loop-line
invariant-loop-line l = behind_end l.left ≡ behind_end l.lines

abbrev pub decreases-loop-line : goal.decreases-loop-line
decreases-loop-line l = length l.left
