use Rattle.std.proofs.Common.{◌≡◌, map}
use Rattle.fs_text.specs.Headers.{taking, with_values, variable_header}
use Rattle.fs_state.specs.Posting.{variable_headers}
use Rattle.fs_machine.proofs.dumping.tell_variables.Given as goal

-- with the variables that are left all are told
abbrev pub invariant-loop-name : goal.invariant-loop-name
invariant-loop-name g l =
    taking g.S.HeaderSink.taken (with_values (map variable_header l.name-iterator)) l.sink
    ≡ taking g.S.HeaderSink.taken (with_values (variable_headers l.vars)) l.fn.sink
