use Rattle.std.proofs.Common.{◌≡◌, ◌+◌, ◌-◌, ◌++◌, drop}
use Rattle.fs_state.specs.Drafts.{drafted}
use Rattle.fs_state.specs.Posting.{posts_told}
use Rattle.fs_state.proofs.PostLemmas.{posts_left}
use Rattle.fs_state.proofs.draft.Draft.tell_all.Given as goal

-- what is told so far, and what the events that are left tell, is all
abbrev pub invariant-loop-event : goal.invariant-loop-event
invariant-loop-event l =
    (l.number ≡ l.self.base.counts.all + l.event-index)
    × (l.told.items ++ posts_left l.seats l.self.base (drafted l.self) (l.self.base.counts.all + l.event-index + 1)
    (drop l.event-index (drafted l.self).news)
    ≡ posts_told l.seats l.self.base (drafted l.self))
