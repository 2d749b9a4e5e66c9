use Rattle.fs_out.proofs.LineLemmas.{variable_told}
use Rattle.fs_out.proofs.greetings.tell_variables.Goals as goal

pub loop-name-preserved : goal.loop-name-preserved
loop-name-preserved c =
    variable_told _ c.loop-name.text c.put_variable.new.self c.loop-name.name-iterator c.next.new.self (c.in-Some.name.now, c.in-Some.value.now)
    c.in-Some.ensures.steps (rw c.as_bytes.ensures at c.in_ok-put_variable.ensures) c.loop-name.invariant
