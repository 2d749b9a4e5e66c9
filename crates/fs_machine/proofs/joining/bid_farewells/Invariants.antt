use Rattle.std.proofs.Common.{◌≡◌, take}
use Rattle.fs_state.specs.Drafts.{drafted}
use Rattle.fs_machine.specs.Joining.{after_farewells}
use Rattle.fs_machine.proofs.joining.bid_farewells.Given as goal

abbrev pub invariant-loop-slot : goal.invariant-loop-slot
invariant-loop-slot l = (l.draft.base ≡ l.fn.draft.base) × (drafted l.draft ≡ after_farewells (take l.slot-index l.slots) (drafted l.fn.draft))
