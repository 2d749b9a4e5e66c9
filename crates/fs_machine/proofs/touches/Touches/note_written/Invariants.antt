use Rattle.std.proofs.Common.{◌≡◌, length, drop}
use Rattle.fs_state.specs.Drafts.{after}
use Rattle.fs_machine.proofs.TouchLemmas.{AreNoted}
use Rattle.fs_machine.proofs.touches.Touches.note_written.Given as goal

-- all slots are counted but those of the writes to come
abbrev pub invariant-loop-write : goal.invariant-loop-write
invariant-loop-write l = record {
  all : length l.self ≡ length l.fn.self;
  noted : AreNoted l.core.switch (after l.core.switch l.delta) (drop l.write l.delta.channels) l.fn.self l.self;
}
