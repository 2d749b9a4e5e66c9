use Rattle.std.proofs.Common.{◌≡◌, ◌++◌}
use Rattle.fs_vars.specs.Pairs.{pairs_of}
use Rattle.fs_vars.proofs.table.Table.copy.Given as goal

abbrev pub invariant-loop-name : goal.invariant-loop-name
invariant-loop-name l = l.table ++ pairs_of l.name-iterator ≡ l.fn.self
