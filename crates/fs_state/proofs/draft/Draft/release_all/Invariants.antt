use Rattle.std.proofs.Common.{◌≡◌}
use Rattle.fs_state.specs.Drafts.{drafted}
use Rattle.fs_state.proofs.EndLemmas.{released_to}
use Rattle.fs_state.proofs.draft.Draft.release_all.Given as goal

abbrev pub invariant-loop-seat : goal.invariant-loop-seat
invariant-loop-seat l =
    (l.self.base ≡ l.fn.self.base)
    × (drafted l.self ≡ released_to l.seat l.reply l.notice (drafted l.fn.self))
