use Rattle.fs_book.specs.Passes.{seen, mine}
use Rattle.fs_conn.proofs.TalkLemmas.{gave_up_entered, gave_up_refused}
use Rattle.fs_conn.proofs.closing.give_up.Goals as goal

pub returns-in-Ok-clause-stops : goal.returns-in-Ok-clause-stops
returns-in-Ok-clause-stops g c = λ from in1 out1 rest s.
    gave_up_entered _ _ _ from (seen c.args.pass.now) (seen c.enter.new.pass) (mine c.args.pass.now) (mine c.enter.new.pass) in1 out1 rest
    _ c.in-Ok.ensures.ok s

pub returns-in-Err-clause-stops : goal.returns-in-Err-clause-stops
returns-in-Err-clause-stops g c = λ from in1 out1 rest s.
    rw c.unclosed.ensures
    (gave_up_refused _ _ _ from (seen c.args.pass.now) (seen c.enter.new.pass) (mine c.args.pass.now) (mine c.enter.new.pass) in1 out1 rest
    c.in-Err.refusal c.in-Err.ensures.err s)
