use Rattle.std.proofs.Common.{sym, ◌∙◌}
use Rattle.fs_session.proofs.WorkLemmas.{fails_for}
use Rattle.fs_session.proofs.working.attempt.Goals as goal

pub returns-in-Ok-clause-tries : goal.returns-in-Ok-clause-tries
returns-in-Ok-clause-tries g c =
    let ok = c.in-Ok.ensures.ok in record {
      before = ok.0;
      front = ok.1;
      act = c.act_of-act.result;
      is = c.act_of-act.ensures.exact;
      sees = ok.2;
      at = ok.3;
      more = ok.4;
      reply = c.in-Ok.receipt.answer.reply;
      answers = ok.5.tells.answers;
    }

pub returns-in-Err-Step-clause-tries : goal.returns-in-Err-Step-clause-tries
returns-in-Err-Step-clause-tries g c =
    let err = rw c.in-Err-Step.field-0-is at c.in-Err-Step.ensures.err in
    fails_for _ _ _ _ _ _ c.in-Err-Step.refusal c.act_of-act.ensures.plain c.in-Err-Step.ensures.later err.0 err.1
    (sym c.is_final.ensures ∙ c.if-is_final.true)
