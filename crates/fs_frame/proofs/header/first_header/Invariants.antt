use Rattle.std.proofs.Common.{◌≡◌, length}
use Rattle.fs_frame.specs.Lines.{lines_of}
use Rattle.fs_frame.specs.Headers.{headers_among}
use Rattle.fs_frame.proofs.header.first_header.Given as goal

abbrev pub invariant-loop-text : goal.invariant-loop-text
invariant-loop-text l = headers_among (lines_of l.left) ≡ headers_among (lines_of l.lines)

abbrev pub decreases-loop-text : goal.decreases-loop-text
decreases-loop-text l = length l.left
