use Rattle.std.proofs.Common.{◌≡◌, length}
use Rattle.fs_frame.specs.Headers.{from_first}
use Rattle.fs_frame.proofs.header.from_first.Given as goal

abbrev pub invariant-loop-left : goal.invariant-loop-left
invariant-loop-left l = from_first l.left ≡ from_first l.text

abbrev pub decreases-loop-left : goal.decreases-loop-left
decreases-loop-left l = length l.left
