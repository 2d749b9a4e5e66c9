use Rattle.fs_book.specs.Passes.{seen, mine, opening_state}
use Rattle.fs_machine.specs.Turned.{configured}
use Rattle.fs_conn.proofs.TalkLemmas.{idle_by, holds_quiet}
use Rattle.fs_conn.proofs.rounds.hand_over.Goals as goal

pub returns-in-Ok-Some-clause-hands : goal.returns-in-Ok-Some-clause-hands
returns-in-Ok-Some-clause-hands g c = λ from rest h. c.in-Ok-Some.ensures.drains from rest h

pub returns-in-Ok-None-clause-hands : goal.returns-in-Ok-None-clause-hands
returns-in-Ok-None-clause-hands g c = λ from rest h.
    let idle = idle_by (g.C.Clock.tells c.args.clock.now) (configured (opening_state c.args.book.now)) c.args.conn (seen c.hand_next.new.pass)
    (seen c.look.new.pass) (mine c.hand_next.new.pass) (mine c.look.new.pass) c.look.ensures.quiet
    c.look.ensures.kept.0 c.look.ensures.run in
    holds_quiet _ _ _ from (seen c.hand_next.new.pass) (seen c.look.new.pass) (mine c.hand_next.new.pass) (mine c.look.new.pass) _ _ rest
    idle (c.in-Ok-None.ensures.drains from rest h)
