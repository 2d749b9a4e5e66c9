use Rattle.fs_book.specs.Passes.{seen, mine}
use Rattle.fs_machine.specs.declared.entry.Act.TheVariants.{Close}
use Rattle.fs_machine.specs.declared.entry.Closing.TheVariants.{EndOfInput}
use Rattle.fs_conn.proofs.PartingLemmas.{input_parted}
use Rattle.fs_conn.proofs.TalkLemmas.{stops_tried, holds_quiet, input_ended, hangs_closed, hangs_departed}
use Rattle.fs_conn.proofs.closing.hang_up.Goals as goal

pub returns-in-Ok-Some-clause-hangs : goal.returns-in-Ok-Some-clause-hangs
returns-in-Ok-Some-clause-hangs g c = λ from rest h.
    let entered = rw c.in-Ok-Some.field-0-is at c.in-Ok-Some.ensures.tries in
    hangs_closed _ _ _ from (seen c.attempt.new.pass) (seen c.wait_out.new.pass) (mine c.attempt.new.pass) (mine c.wait_out.new.pass)
    _ _ _ _ rest c.args.end c.wait_out.result
    (input_parted _ _ _ (seen c.args.pass.now) (seen c.attempt.new.pass) (mine c.args.pass.now) (mine c.attempt.new.pass)
    c.in-Ok-Some.field-0-0.reply entered)
    c.wait_out.ensures.closes
    (input_ended _ _ _ from (seen c.args.pass.now) (seen c.attempt.new.pass) (mine c.args.pass.now) (mine c.attempt.new.pass) _ _ rest
    c.in-Ok-Some.field-0-0.reply entered h)

pub returns-in-Ok-None-clause-hangs : goal.returns-in-Ok-None-clause-hangs
returns-in-Ok-None-clause-hangs g c = λ from rest h.
    hangs_departed _ _ _ from _ rest c.args.end c.depart.result
    (c.depart.ensures.departs from rest
    (holds_quiet _ _ _ from (seen c.args.pass.now) (seen c.attempt.new.pass) (mine c.args.pass.now) (mine c.attempt.new.pass) _ _ rest
    (rw c.in-Ok-None.field-0-is at c.in-Ok-None.ensures.tries) h))

pub returns-in-Err-clause-hangs : goal.returns-in-Err-clause-hangs
returns-in-Err-clause-hangs g c = λ from rest h.
    stops_tried _ _ _ from (seen c.args.pass.now) (seen c.attempt.new.pass) (mine c.args.pass.now) (mine c.attempt.new.pass) _ _ rest
    (Close c.args.conn EndOfInput) c.in-Err.stop c.in-Err.ensures.tries h
