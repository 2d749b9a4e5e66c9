use Rattle.std.proofs.Common.{ap, ◌∙◌, arith}
use Rattle.circular_buffer.specs.Buffer.{buffer}
use Rattle.fs_event.specs.Places.{turned_once}
use Rattle.fs_event.proofs.RingLemmas.{turn_more}
use Rattle.fs_event.proofs.ring.turn.Goals as goal

pub loop-place-preserved : goal.loop-place-preserved
loop-place-preserved g c =
    c.turn_one.ensures
    ∙ ap (λ b. buffer (turned_once b.items) b.capacity) c.loop-place.invariant
    ∙ ap (λ items. buffer items c.args.places.now.capacity) (turn_more c.args.places.now.items c.loop-place._place (omega (arith, c.loop-place-test.true, c.len-place-end.ensures.len)))
