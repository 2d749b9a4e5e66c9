use Rattle.std.proofs.Common.{◌≡◌, drop}
use Rattle.fs_text.specs.Texts.{Text}
use Rattle.fs_text.specs.declared.event_names.EventName.{EventName}
use Rattle.fs_seats.specs.Seats.{first_seat}
use Rattle.fs_state.specs.Posting as spec
use Rattle.fs_state.proofs.switch.Core.is_deaf.Given as goal

abbrev pub invariant-loop-seat : goal.invariant-loop-seat
invariant-loop-seat l =
    (name : EventName) (subclass : Text) →
    first_seat (spec.hears_at name subclass) (drop l.seat l.self.switch.conns) l.seat
    ≡ first_seat (spec.hears_at name subclass) l.self.switch.conns 0
