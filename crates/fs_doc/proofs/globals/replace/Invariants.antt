use Rattle.std.proofs.Common.{◌≡◌, ◌++◌, length}
use Rattle.fs_doc.specs.Values.{replaced}
use Rattle.fs_doc.proofs.globals.replace.Given as goal

abbrev pub invariant-steps : goal.invariant-steps
invariant-steps l = l.out.items ++ replaced l.globals.pairs l.left ≡ replaced l.globals.pairs l.text

abbrev pub decreases-steps : goal.decreases-steps
decreases-steps l = length l.left
