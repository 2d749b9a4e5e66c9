use Rattle.std.proofs.Common.{◌≡◌, ◌++◌, map}
use Rattle.std.specs.List.{concat}
use Rattle.fs_text.specs.Headers.{variable_header}
use Rattle.fs_event.specs.Texts.{line_with_value}
use Rattle.fs_out.proofs.greetings.tell_variables.Given as goal

-- with the lines of the variables that are left all stand there
abbrev pub invariant-loop-name : goal.invariant-loop-name
invariant-loop-name l =
    l.text ++ concat (map line_with_value (map variable_header l.name-iterator))
    ≡ l.fn.text ++ concat (map line_with_value (map variable_header l.vars.pairs))
