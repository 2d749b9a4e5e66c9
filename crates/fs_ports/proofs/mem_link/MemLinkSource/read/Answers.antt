use Rattle.std.proofs.Common.{◌-◌, drop, arith, refl}
use Rattle.std.proofs.lemmas.List.{length-take}
use Rattle.fs_ports.proofs.Tapes.{reads_piece}
use Rattle.fs_ports.proofs.mem_link.MemLinkSource.read.Goals as goal

pub returns-clause-input : goal.returns-clause-input
returns-clause-input c =
    let len = c.in-To.end - c.self.inside.at in
    let piece = rw c.deref-3.ensures.value at c.copy_front-n.ensures in
    let count = length-take len (drop c.self.inside.at c.self.inside.input.items) in
    rw (← c.self.view_is) (
      omega arith,
      omega (arith, c.copy_front-n.auto.to),
      reads_piece _ _ _ _ len _ _ _ c.reach_of.ensures.kept (omega (arith, piece.count, count)) piece.copied,
      refl,
    )
