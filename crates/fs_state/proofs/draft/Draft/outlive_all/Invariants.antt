use Rattle.std.proofs.Common.{◌≡◌, take}
use Rattle.fs_state.specs.Drafts.{drafted}
use Rattle.fs_state.specs.Hangups.{after_survivals}
use Rattle.fs_state.proofs.draft.Draft.outlive_all.Given as goal

abbrev pub invariant-loop-survivor : goal.invariant-loop-survivor
invariant-loop-survivor l =
    (l.self.base ≡ l.fn.self.base)
    × (drafted l.self ≡ after_survivals (take l.survivor-index l.survivors) (drafted l.fn.self))
