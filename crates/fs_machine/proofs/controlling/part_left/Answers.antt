use Rattle.std.proofs.Common.{◌<◌, length, ◌∙◌, arith}
use Rattle.fs_state.specs.Drafts.{drafted}
use Rattle.fs_machine.proofs.LeavingLemmas.{left_next}
use Rattle.fs_machine.proofs.controlling.part_left.Goals as goal

pub loop-seat-preserved : goal.loop-seat-preserved
loop-seat-preserved c =
    let s = drafted c.args.draft.now in
    let within : c.loop-seat.seat < length s.conns = omega (arith, c.filled_conns-seat-end.ensures.within, c.loop-seat-test.true) in (
      c.in_ok-part_at.ensures.0 ∙ c.loop-seat.invariant.0,
      c.in_ok-part_at.ensures.1 ∙ left_next c.loop-seat.seat s (drafted c.loop-seat.draft) within c.loop-seat.invariant.1,
    )
