use Rattle.std.proofs.Common.{◌≡◌, drop}
use Rattle.fs_state.specs.Drafts.{drafted}
use Rattle.fs_state.specs.Hangups.{after_members}
use Rattle.fs_state.proofs.draft.Draft.hang_up_members.Given as goal

abbrev pub invariant-loop-member : goal.invariant-loop-member
invariant-loop-member l =
    (l.self.base ≡ l.fn.self.base)
    × (after_members l.untold.items (drop l.member-index l.members) (drafted l.self) ≡ after_members l.ended l.members (drafted l.fn.self))
