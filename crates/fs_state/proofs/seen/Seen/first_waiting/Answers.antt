use Rattle.std.proofs.Common.{arith, sym, ◌∙◌}
use Rattle.fs_seats.proofs.SeatLemmas.{first_here}
use Rattle.fs_state.specs.Queues.{waits}
use Rattle.fs_state.proofs.seen.Seen.first_waiting.Goals as goal

pub returns-then-waits_at : goal.returns-then-waits_at
returns-then-waits_at c =
    sym (c.loop-slot.invariant
    ∙ first_here (waits c.args.name.now) c.args.self.now.channels c.loop-slot.slot
    (omega (arith, c.loop-slot-test.true, c.filled_slots-slot-end.ensures.within)) (sym c.waits_at.ensures ∙ c.if-waits_at.true))
