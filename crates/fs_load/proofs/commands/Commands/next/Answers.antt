use Rattle.std.proofs.Common.{arith}
use Rattle.fs_load.specs.Calls.{exit_text}
use Rattle.fs_load.proofs.CallLemmas.{length-call, calls_next, exit_next, nothing_next}
use Rattle.fs_load.proofs.commands.Commands.next.Goals as goal

pub returns-then-self-gt0-clause-some : goal.returns-then-self-gt0-clause-some
returns-then-self-gt0-clause-some c =
    rw (← c.self.view_is, c.call_with.ensures, c.number_behind-self-inside.ensures)
    (length-call _, calls_next c.self.inside.calls _ c.self.inside.number _ (omega (arith, c.if-self-gt0.true)))

pub returns-then-self-clause-some : goal.returns-then-self-clause-some
unfolding exit_text
returns-then-self-clause-some c =
    rw (← c.self.view_is)
    (omega arith, exit_next c.self.inside.calls c.self.inside.number c.self.inside.stays (omega (arith, c.if-self-gt0.false)) c.if-self.true)

pub returns-clause-none : goal.returns-clause-none
returns-clause-none c =
    rw (← c.self.view_is)
    (nothing_next c.self.inside.calls c.self.inside.number c.self.inside.stays (omega (arith, c.if-self-gt0.false)) c.if-self.false)
