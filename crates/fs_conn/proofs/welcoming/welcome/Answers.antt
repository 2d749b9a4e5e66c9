use Rattle.fs_book.specs.Passes.{seen, mine, opening_state}
use Rattle.fs_machine.specs.Turned.{configured}
use Rattle.fs_conn.proofs.ArriveLemmas.{came, welcomed}
use Rattle.fs_conn.proofs.welcoming.welcome.Goals as goal

pub unreachable-requires : goal.unreachable-requires
unreachable-requires g c =
    let ok = c.in-Ok.ensures.ok in
    c.in_default.not-Arrived _
    (came (configured (opening_state c.args.book.now)) ok.0 (mine c.args.pass.now) c.now-moment.result c.in-Ok.receipt.answer.reply ok.5.tells.answers).1

pub returns-in-Arrived-clause-welcomed : goal.returns-in-Arrived-clause-welcomed
returns-in-Arrived-clause-welcomed g c =
    let ok = c.in-Ok.ensures.ok in
    welcomed _ (configured (opening_state c.args.book.now)) (seen c.args.pass.now) ok.0 (seen c.submit.new.pass) (mine c.args.pass.now)
    (mine c.submit.new.pass) c.in-Ok.receipt.place c.now-moment.result c.in-Arrived.conn c.in-Ok.receipt.answer.reply c.now-moment.ensures ok.1
    ok.2 ok.3 ok.4 ok.5.tells.answers c.in-Arrived.is
