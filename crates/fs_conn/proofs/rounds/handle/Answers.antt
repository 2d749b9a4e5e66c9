use Rattle.fs_book.specs.Passes.{seen, mine}
use Rattle.fs_machine.specs.declared.entry.Act.TheVariants.{Command}
use Rattle.fs_conn.proofs.TalkLemmas.{stops_holds, stops_tried, holds_quiet}
use Rattle.fs_conn.proofs.ToldLemmas.{commanded, handles_departed}
use Rattle.fs_conn.proofs.rounds.handle.Goals as goal

pub returns-in_default-clause-handles : goal.returns-in_default-clause-handles
returns-in_default-clause-handles g c = λ from rest h. stops_holds _ _ _ from (seen c.args.pass.now) (mine c.args.pass.now) _ _ _ h

pub returns-in-Ok-Some-clause-handles : goal.returns-in-Ok-Some-clause-handles
returns-in-Ok-Some-clause-handles g c = λ from rest h.
    commanded _ _ _ from (seen c.args.pass.now) (seen c.attempt.new.pass) (mine c.args.pass.now) (mine c.attempt.new.pass) _ _
    c.args.block.now rest c.in-Ok-Some.field-0-0.reply c.requires.block
    (rw (← c.in-Ok.ensures) (rw c.in-Ok-Some.field-0-is at c.in-Ok-Some.ensures.tries)) h

pub returns-in-Err-clause-handles : goal.returns-in-Err-clause-handles
returns-in-Err-clause-handles g c = λ from rest h.
    stops_tried _ _ _ from (seen c.args.pass.now) (seen c.attempt.new.pass) (mine c.args.pass.now) (mine c.attempt.new.pass) _ _ _
    (Command c.args.conn c.in-Ok.command) c.in-Err.stop c.in-Err.ensures.tries h

pub returns-clause-handles : goal.returns-clause-handles
returns-clause-handles g c = λ from rest h.
    handles_departed _ _ _ from _ c.args.block.now rest c.leave.result
    (c.leave.ensures.departed from _
    (holds_quiet _ _ _ from (seen c.args.pass.now) (seen c.attempt.new.pass) (mine c.args.pass.now) (mine c.attempt.new.pass) _ _ _
    (rw c.in-Ok-None.field-0-is at c.in-Ok-None.ensures.tries) h))
