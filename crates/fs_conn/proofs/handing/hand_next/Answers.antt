use Rattle.fs_book.specs.Passes.{seen, mine}
use Rattle.fs_conn.proofs.TalkLemmas.{stops_taken, holds_quiet, frame_failed, frame_written}
use Rattle.fs_conn.proofs.handing.hand_next.Goals as goal

pub returns-in-Ok-None-clause-drains : goal.returns-in-Ok-None-clause-drains
returns-in-Ok-None-clause-drains g c = λ from rest h.
    holds_quiet _ _ _ from (seen c.args.pass.now) (seen c.take.new.pass) (mine c.args.pass.now) (mine c.take.new.pass) _ _ rest
    (rw c.in-Ok-None.field-0-is at c.in-Ok-None.ensures.takes) h

pub returns-in-All-clause-drains : goal.returns-in-All-clause-drains
returns-in-All-clause-drains g c = λ from rest h.
    let taken = rw c.in-Ok-Some.field-0-is at c.in-Ok-Some.ensures.takes in
    rw c.send_all.ensures.input
    (frame_written _ _ _ from (seen c.args.pass.now) (seen c.take.new.pass) (mine c.args.pass.now) (mine c.take.new.pass) _
    (g.L.Port.output c.args.link.now) (g.L.Port.output c.send_all.new.sink) rest c.in-Ok-Some.taken.frame taken.0 h
    (rw c.as_bytes.ensures at c.in-All.ensures.output))

pub returns-in-Ok-Some-clause-drains : goal.returns-in-Ok-Some-clause-drains
returns-in-Ok-Some-clause-drains g c = λ from rest h.
    let taken = rw c.in-Ok-Some.field-0-is at c.in-Ok-Some.ensures.takes in
    rw c.send_all.ensures.input
    (frame_failed _ _ _ from (seen c.args.pass.now) (seen c.take.new.pass) (mine c.args.pass.now) (mine c.take.new.pass) _
    (g.L.Port.output c.args.link.now) (g.L.Port.output c.send_all.new.sink) rest c.in-Ok-Some.taken.frame taken.0 h
    (rw c.as_bytes.ensures at c.in-Failed.ensures.output))

pub returns-clause-drains : goal.returns-clause-drains
returns-clause-drains g c = λ from rest h.
    stops_taken _ _ _ from (seen c.args.pass.now) (seen c.take.new.pass) (mine c.args.pass.now) (mine c.take.new.pass) _ _ rest c.in-Err.stop
    c.in-Err.ensures.takes h

pub returns-in-All-clause-stands : goal.returns-in-All-clause-stands
returns-in-All-clause-stands g c = (rw c.in-Ok-Some.field-0-is at c.in-Ok-Some.ensures.takes).1
