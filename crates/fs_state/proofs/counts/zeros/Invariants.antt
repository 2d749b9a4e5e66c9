use Rattle.std.proofs.Common.{◌≡◌, replicate}
use Rattle.fs_state.proofs.counts.zeros.Given as goal

abbrev pub invariant-loop-seat : goal.invariant-loop-seat
invariant-loop-seat l = l.zeros.items ≡ replicate l._seat 0
