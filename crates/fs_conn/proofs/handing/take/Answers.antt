use Rattle.fs_book.specs.Passes.{seen, mine, opening_state}
use Rattle.fs_machine.specs.Turned.{configured}
use Rattle.fs_conn.proofs.TalkLemmas.{is_frame}
use Rattle.fs_conn.proofs.handing.take.Goals as goal

pub unreachable-requires : goal.unreachable-requires
unreachable-requires g c =
    let entered = rw c.in-Ok-Some.field-0-is at c.in-Ok-Some.ensures.tries in
    c.in_default.not-Frame _
    (is_frame (g.C.Clock.tells c.args.clock.now) (configured (opening_state c.args.book.now)) c.args.conn (seen c.args.pass.now)
    (seen c.attempt.new.pass) (mine c.args.pass.now) (mine c.attempt.new.pass) _ entered).1
