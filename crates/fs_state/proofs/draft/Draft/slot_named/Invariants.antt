use Rattle.std.proofs.Common.{◌≡◌, drop}
use Rattle.fs_seats.specs.Seats.{first_seat}
use Rattle.fs_state.specs.Drafts.{drafted}
use Rattle.fs_state.specs.Switch as spec
use Rattle.fs_state.proofs.draft.Draft.slot_named.Given as goal

abbrev pub invariant-loop-slot : goal.invariant-loop-slot
invariant-loop-slot l =
    first_seat (spec.is_live_as l.uuid) (drop l.slot (drafted l.self).channels) l.slot ≡ spec.slot_named l.uuid (drafted l.self)
