use Rattle.std.proofs.Common.{◌≡◌, ◌++◌}
use Rattle.fs_machine.specs.Api.{listed}
use Rattle.fs_machine.proofs.api.list.Given as goal

-- the lines so far, and those of the globals that are left, are all
abbrev pub invariant-loop-name : goal.invariant-loop-name
invariant-loop-name l = l.lines.items ++ listed l.name-iterator ≡ listed l.fn.globals.pairs
