use Rattle.std.proofs.Common.{◌≡◌, [], replicate}
use Rattle.fs_state.proofs.outboxes.Outboxes.new.Given as goal

abbrev pub invariant-loop-seat : goal.invariant-loop-seat
invariant-loop-seat l = l.outboxes.items ≡ replicate l._seat []
