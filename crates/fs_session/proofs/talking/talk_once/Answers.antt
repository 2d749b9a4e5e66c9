use Rattle.std.proofs.Common.{refl, ap, sym, ◌∙◌}
use Rattle.fs_machine.specs.declared.entry.Act.TheVariants.{Dialed}
use Rattle.fs_machine.proofs.ArrivalLemmas.{dialed_opens}
use Rattle.fs_session.proofs.TalkLemmas.{may_count, ceased, told_talks}
use Rattle.fs_session.proofs.WorkLemmas.{fails_for}
use Rattle.fs_session.proofs.talking.talk_once.Goals as goal

pub returns-in-Ok-clause-talks : goal.returns-in-Ok-clause-talks
returns-in-Ok-clause-talks g c =
    let ok = c.in-Ok.ensures.ok in
    rw c.talked.ensures
    (told_talks _ _ _ _ _ c.args.slot _ _ _ c.args.now c.in-Ok.receipt.place c.in-Ok.receipt.answer c.link_to-link.result
    c.link_to-link.ensures.0 c.link_to-link.ensures.1
    (record {
      before = ok.0;
      front = ok.1;
      act = Dialed c.args.slot c.is_some.result;
      is = ap (Dialed c.args.slot) c.is_some.ensures;
      sees = ok.2;
      at = ok.3;
      more = ok.4;
      reply = c.in-Ok.receipt.answer.reply;
      answers = ok.5.tells.answers;
    }) (dialed_opens _ ok.0 c.args.now c.args.slot c.is_some.result c.in-Ok.receipt.answer.reply ok.5.tells.answers))

pub returns-in-Err-Step-clause-talks : goal.returns-in-Err-Step-clause-talks
returns-in-Err-Step-clause-talks g c =
    let err = rw c.in-Err-Step.field-0-is at c.in-Err-Step.ensures.err in (
      fails_for _ _ _ _ _ _ c.in-Err-Step.refusal refl c.in-Err-Step.ensures.later err.0 err.1
          (sym c.is_final.ensures ∙ c.if-is_final.true),
      may_count _ _ _ c.link_to-link.ensures.1,
    )

pub returns-in-Err-Step-2-clause-talks : goal.returns-in-Err-Step-2-clause-talks
returns-in-Err-Step-2-clause-talks g c =
    let err = rw c.in-Err-Step.field-0-is at c.in-Err-Step.ensures.err in
    let none =
    ceased _ c.args.now c.args.slot c.is_some.result _ err.1.cause (sym c.is_final.ensures ∙ c.if-is_final.false) in (
      record {
        stays = record { front = c.submit.ensures.later; same = err.0; run = err.1.before };
        room = none.0;
        none = none.1;
      },
      may_count _ _ _ c.link_to-link.ensures.1,
    )
