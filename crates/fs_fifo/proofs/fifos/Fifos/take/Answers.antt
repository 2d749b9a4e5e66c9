use Rattle.std.proofs.Common.{subst, sym}
use Rattle.fs_fifo.specs.Laws.{IsSound}
use Rattle.fs_fifo.proofs.SoundLemmas.{taken_sound}
use Rattle.fs_fifo.proofs.fifos.Fifos.take.Goals as goal

pub invariant_of-self : goal.invariant_of-self
invariant_of-self c =
    subst IsSound (sym c.take_first.ensures.rest) (taken_sound c.args.name.now c.self.inside.callers.items c.self.invariant)
