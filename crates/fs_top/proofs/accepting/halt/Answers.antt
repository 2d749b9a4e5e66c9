use Rattle.std.proofs.Common.{inr}
use Rattle.fs_book.specs.Passes.{seen, mine}
use Rattle.fs_machine.proofs.OfferLemmas.{declined_before}
use Rattle.fs_top.proofs.DoorLemmas.{halted}
use Rattle.fs_top.proofs.accepting.halt.Goals as goal

pub returns-in-Ok-clause-halts : goal.returns-in-Ok-clause-halts
returns-in-Ok-clause-halts g c =
    let ok = c.in-Ok.ensures.ok in
    halted (g.C.Clock.tells c.args.clock.now) _ (seen c.args.pass.now) ok.0 (seen c.submit.new.pass) (mine c.args.pass.now) (mine c.submit.new.pass) c.in-Ok.receipt.place
    c.now-moment.result c.in-Ok.receipt.answer.reply c.now-moment.ensures ok.1 ok.2 ok.3 ok.4 ok.5.tells.answers

pub returns-in-Err-clause-halts : goal.returns-in-Err-clause-halts
returns-in-Err-clause-halts g c = inr (record {
  front = c.in-Err.ensures.later;
  same = c.in-Err.ensures.err.0;
  run = declined_before _ _ _ _ c.in-Err.ensures.err.1;
})
