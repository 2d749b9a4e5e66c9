use Rattle.std.proofs.Common.{◌≡◌, take}
use Rattle.fs_state.specs.Drafts.{drafted}
use Rattle.fs_state.specs.Leaving.{living_among}
use Rattle.fs_state.proofs.draft.Draft.living_among.Given as goal

abbrev pub invariant-loop-slot : goal.invariant-loop-slot
invariant-loop-slot l = l.living.items ≡ living_among (drafted l.self) (take l.slot-index l.slots)
