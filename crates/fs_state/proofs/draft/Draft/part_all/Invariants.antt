use Rattle.std.proofs.Common.{◌≡◌, take}
use Rattle.fs_state.specs.Drafts.{drafted}
use Rattle.fs_state.specs.Leaving.{after_partings}
use Rattle.fs_state.proofs.draft.Draft.part_all.Given as goal

abbrev pub invariant-loop-end : goal.invariant-loop-end
invariant-loop-end l = (l.self.base ≡ l.fn.self.base) × (drafted l.self ≡ after_partings (take l.end-index l.parted) (drafted l.fn.self))
