use Rattle.std.proofs.Common.{◌≡◌, drop}
use Rattle.fs_machine.specs.Originations as spec
use Rattle.fs_machine.proofs.terms.set_all.Given as goal

abbrev pub invariant-loop-name : goal.invariant-loop-name
invariant-loop-name l = spec.set_all (drop l.name-index l.name-items) l.vars ≡ spec.set_all l.name-items spec.no_variables
