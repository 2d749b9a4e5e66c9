use Rattle.std.proofs.Common.{◌≡◌, take}
use Rattle.fs_state.specs.Drafts.{drafted}
use Rattle.fs_machine.specs.Leaving.{moved_on, after_arrivals}
use Rattle.fs_machine.proofs.leaving.arrive_all.Given as goal

abbrev pub invariant-loop-slot : goal.invariant-loop-slot
invariant-loop-slot l =
    (l.draft.base ≡ l.fn.draft.base)
    × (drafted l.draft ≡ after_arrivals (moved_on l.onward) (take l.slot-index l.slots) (drafted l.fn.draft))
