use Rattle.std.proofs.Common.{[], drop, ap, ◌∙◌, arith}
use Rattle.fs_state.specs.Outboxes.{outbox_at, without_frames}
use Rattle.fs_state.proofs.OutboxLemmas.{set_again}
use Rattle.fs_state.proofs.outboxes.Outboxes.clear.Goals as goal

pub loop-self-preserved : goal.loop-self-preserved
loop-self-preserved c =
    let seat = c.args.seat in
    let outboxes = c.loop-self.self.frames in (
      ap (without_frames seat) c.take_first.ensures.frames
          ∙ set_again outboxes seat (drop 1 (outbox_at outboxes seat)) [] ∙ c.loop-self.invariant.0,
      record {
        below = λ end below. c.take_first.ensures.ring.below end (c.loop-self.invariant.1.below end below);
        spare = omega (arith, c.take_first.ensures.ring.spare, c.loop-self.invariant.1.spare);
      },
    )
