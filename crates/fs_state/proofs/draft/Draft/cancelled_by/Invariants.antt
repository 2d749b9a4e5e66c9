use Rattle.std.proofs.Common.{◌≡◌, map, take}
use Rattle.fs_bridge.specs.Closure.{cancelled}
use Rattle.fs_state.specs.Drafts.{drafted}
use Rattle.fs_state.specs.Leaving.{all_legs_at}
use Rattle.fs_state.proofs.draft.Draft.cancelled_by.Given as goal

abbrev pub invariant-loop-slot : goal.invariant-loop-slot
invariant-loop-slot l = l.all.items ≡ map cancelled (all_legs_at (drafted l.self) (take l.slot-index l.slots))
