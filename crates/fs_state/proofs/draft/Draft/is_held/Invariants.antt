use Rattle.std.proofs.Common.{◌≡◌, drop}
use Rattle.fs_seats.specs.Seats.{first_seat}
use Rattle.fs_state.specs.Drafts.{drafted}
use Rattle.fs_state.specs.Switch as spec
use Rattle.fs_state.proofs.draft.Draft.is_held.Given as goal

abbrev pub invariant-loop-slot : goal.invariant-loop-slot
invariant-loop-slot l =
    first_seat (spec.is_called l.uuid) (drop l.slot (drafted l.self).channels) l.slot ≡
    first_seat (spec.is_called l.uuid) (drafted l.self).channels 0
