use Rattle.fs_vars.proofs.SameLemmas.{AreAlike}
use Rattle.fs_vars.proofs.table.Table.is_same.Given as goal

-- what is left of both is the same exactly where the tables are
abbrev pub invariant-loop-name : goal.invariant-loop-name
invariant-loop-name l = AreAlike l.name-iterator l.others l.fn.self l.fn.other
