use Rattle.std.proofs.Common.{◌≡◌, length}
use Rattle.fs_state.specs.Outboxes.{outbox_at, without_frames}
use Rattle.fs_state.specs.Waiting.{AreNoMore}
use Rattle.fs_state.proofs.outboxes.Outboxes.clear.Given as goal

abbrev pub invariant-loop-self : goal.invariant-loop-self
invariant-loop-self l =
    (without_frames l.seat l.self.frames ≡ without_frames l.seat l.initial.self.frames) × AreNoMore l.initial.self.ring l.self.ring

abbrev pub decreases-loop-self : goal.decreases-loop-self
decreases-loop-self l = length (outbox_at l.self.frames l.seat)
