use Rattle.std.proofs.Common.{◌≡◌, length}
use Rattle.fs_frame.specs.Headers.{up_to_last}
use Rattle.fs_frame.proofs.header.up_to_last.Given as goal

abbrev pub invariant-loop-left : goal.invariant-loop-left
invariant-loop-left l = up_to_last l.left ≡ up_to_last l.text

abbrev pub decreases-loop-left : goal.decreases-loop-left
decreases-loop-left l = length l.left
