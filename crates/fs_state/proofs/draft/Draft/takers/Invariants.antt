use Rattle.std.proofs.Common.{◌≡◌, map, take}
use Rattle.fs_state.specs.Drafts.{drafted}
use Rattle.fs_state.specs.Posting as spec
use Rattle.fs_state.proofs.draft.Draft.takers.Given as goal

-- the seats so far were asked
abbrev pub invariant-loop-seat : goal.invariant-loop-seat
invariant-loop-seat l =
    l.takers ≡ map (spec.wants_at (spec.telling_of l.self.base (drafted l.self) l.number l.event)) (take l.seat l.self.base.conns)
