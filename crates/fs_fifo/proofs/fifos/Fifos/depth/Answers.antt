use Rattle.std.proofs.Common.{◌≤◌, ◌^◌, length, subst, sym}
use Rattle.fs_fifo.proofs.SoundLemmas.{few_wait}
use Rattle.fs_fifo.proofs.fifos.Fifos.depth.Goals as goal

pub count_in-requires : goal.count_in-requires
count_in-requires c =
    subst (λ callers. length callers ≤ 2 ^ 16) (sym c.deref.ensures.value) (few_wait c.self.inside.callers.items c.self.invariant)
