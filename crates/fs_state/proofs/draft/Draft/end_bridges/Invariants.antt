use Rattle.std.proofs.Common.{◌≡◌, take}
use Rattle.fs_state.specs.Drafts.{drafted}
use Rattle.fs_state.specs.Hangups.{after_ends}
use Rattle.fs_state.proofs.draft.Draft.end_bridges.Given as goal

abbrev pub invariant-loop-end : goal.invariant-loop-end
invariant-loop-end l =
    (l.self.base ≡ l.fn.self.base)
    × (drafted l.self ≡ after_ends (take l.end-index l.ended) (drafted l.fn.self))
