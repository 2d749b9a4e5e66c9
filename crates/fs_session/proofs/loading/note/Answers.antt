use Rattle.std.proofs.Common.{refl, sym, ◌∙◌}
use Rattle.fs_machine.specs.declared.entry.Act.TheVariants.{Loaded}
use Rattle.fs_session.proofs.LoadLemmas.{fails_load, ceases_load}
use Rattle.fs_session.proofs.loading.note.Goals as goal

pub returns-in-Ok-clause-enters : goal.returns-in-Ok-clause-enters
returns-in-Ok-clause-enters g c =
    let ok = c.in-Ok.ensures.ok in record {
      before = ok.0;
      front = ok.1;
      act = Loaded c.args.job c.args.load.note;
      is = refl;
      sees = ok.2;
      at = ok.3;
      more = ok.4;
      reply = c.in-Ok.receipt.answer.reply;
      answers = ok.5.tells.answers;
    }

pub returns-in-Err-Step-clause-enters : goal.returns-in-Err-Step-clause-enters
returns-in-Err-Step-clause-enters g c =
    let err = rw c.in-Err-Step.field-0-is at c.in-Err-Step.ensures.err in
    fails_load _ _ _ _ _ c.in-Err-Step.ensures.later err.0 c.args.now c.args.job c.args.load.note c.in-Err-Step.refusal err.1
    (sym c.is_final.ensures ∙ c.if-is_final.true)

pub returns-in-Err-Step-2-clause-enters : goal.returns-in-Err-Step-2-clause-enters
returns-in-Err-Step-2-clause-enters g c =
    let err = rw c.in-Err-Step.field-0-is at c.in-Err-Step.ensures.err in
    ceases_load _ _ _ _ _ c.submit.ensures.later err.0 c.args.now c.args.job c.args.load.note _ err.1
    (sym c.is_final.ensures ∙ c.if-is_final.false)
