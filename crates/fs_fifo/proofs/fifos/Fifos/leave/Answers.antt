use Rattle.std.proofs.Common.{subst, sym}
use Rattle.fs_fifo.specs.Laws.{IsSound}
use Rattle.fs_fifo.proofs.SoundLemmas.{left_sound}
use Rattle.fs_fifo.proofs.fifos.Fifos.leave.Goals as goal

pub invariant_of-self : goal.invariant_of-self
invariant_of-self c =
    subst IsSound (sym c.keep_others.ensures) (left_sound c.args.slot c.self.inside.callers.items c.self.invariant)
