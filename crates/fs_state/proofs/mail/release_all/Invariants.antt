use Rattle.std.proofs.Common.{◌≡◌, ◌≤◌, length}
use Rattle.fs_state.specs.Waiting.{all_gone}
use Rattle.fs_state.proofs.mail.release_all.Given as goal

abbrev pub invariant-loop-first : goal.invariant-loop-first
invariant-loop-first l =
    (all_gone l.left l.ring.pairs ≡ all_gone l.fn.waiting l.fn.ring.pairs) × (l.fn.ring.spare ≤ l.ring.spare)

abbrev pub decreases-loop-first : goal.decreases-loop-first
decreases-loop-first l = length l.left
