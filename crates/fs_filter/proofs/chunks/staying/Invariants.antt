use Rattle.std.proofs.Common.{◌≤◌, length}
use Rattle.fs_filter.proofs.chunks.staying.Given as goal

abbrev pub invariant-loop-staying : goal.invariant-loop-staying
invariant-loop-staying g l = l.staying ≤ length l.chunks

abbrev pub decreases-loop-staying : goal.decreases-loop-staying
decreases-loop-staying g l = l.staying
