use Rattle.std.proofs.Common.{◌∙◌}
use Rattle.fs_session.proofs.WorkLemmas.{tries_on}
use Rattle.fs_session.proofs.working.work_once.Goals as goal

pub turns-init : goal.turns-init
turns-init g c = record {
  book = c.take_turn-tried.ensures.book;
  met_kept = c.take_turn-tried.ensures.kept.0;
  parts_kept = c.take_turn-tried.ensures.kept.1;
  tries = c.take_turn-tried.ensures.tries;
}

pub turns-preserved : goal.turns-preserved
turns-preserved g c =
    let stays = rw c.in-None-tried.is at c.turns.invariant.tries in
    let turn = c.take_turn-tried-in-None-tried in record {
      book = turn.ensures.book;
      met_kept = turn.ensures.kept.0 ∙ c.turns.invariant.met_kept;
      parts_kept = turn.ensures.kept.1 ∙ c.turns.invariant.parts_kept;
      tries = tries_on _ _ _ _ _ _ _ stays.front stays.same c.args.actor c.args.now turn.result turn.ensures.tries;
    }

pub returns-in-Some-tried-clause-works : goal.returns-in-Some-tried-clause-works
returns-in-Some-tried-clause-works g c = rw c.in-Some-tried.is at c.turns.invariant.tries
