use Rattle.fs_book.specs.Passes.{seen, mine, opening_state}
use Rattle.fs_machine.specs.Turned.{configured}
use Rattle.fs_conn.proofs.TalkLemmas.{refused_full}
use Rattle.fs_conn.proofs.handing.attempt.Goals as goal

pub returns-in-Err-JournalFull-clause-tries : goal.returns-in-Err-JournalFull-clause-tries
returns-in-Err-JournalFull-clause-tries g c =
    refused_full (g.C.Clock.tells c.args.clock.now) (configured (opening_state c.args.book.now)) c.args.conn (seen c.args.pass.now)
    (seen c.enter.new.pass) (mine c.args.pass.now) (mine c.enter.new.pass) c.args.act _ _ c.requires.names
    (rw c.in-Err-JournalFull.field-0-is at c.in-Err-JournalFull.ensures.err)
