use Rattle.std.proofs.Common.{◌≡◌}
use Rattle.fs_machine.specs.Originations.{set_all}
use Rattle.fs_machine.proofs.reloading.set_over.Given as goal

-- with those that are left all come to the same
abbrev pub invariant-loop-name : goal.invariant-loop-name
invariant-loop-name l = set_all l.name-iterator l.all ≡ set_all l.others.pairs l.vars
