use Rattle.std.proofs.Common.{◌≡◌}
use Rattle.fs_state.specs.Drafts.{drafted}
use Rattle.fs_machine.proofs.LeavingLemmas.{left_to}
use Rattle.fs_machine.proofs.controlling.part_left.Given as goal

abbrev pub invariant-loop-seat : goal.invariant-loop-seat
invariant-loop-seat l = (l.draft.base ≡ l.fn.draft.base) × (drafted l.draft ≡ left_to l.seat (drafted l.fn.draft))
