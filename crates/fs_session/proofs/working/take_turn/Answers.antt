use Rattle.std.proofs.Common.{refl, sym, ap, ◌∙◌}
use Rattle.fs_machine.specs.declared.due.DueActor.TheVariants as due
use Rattle.fs_session.specs.declared.actor.Errand.TheVariants as errand
use Rattle.fs_session.specs.Working.{plain}
use Rattle.fs_session.proofs.SeekLemmas.{seeks_names}
use Rattle.fs_session.proofs.WorkLemmas.{due_errand, works_waiting, tries_due}
use Rattle.fs_session.proofs.working.take_turn.Goals as goal

pub talk-requires : goal.talk-requires
talk-requires g c =
    let answer = c.in-Ok.ensures.answer in
    seeks_names _ _ c.args.actor c.args.now c.in-Seeks.text answer.run (sym answer.stands.0 ∙ ap plain c.in-Seeks.is)

pub errand_of-requires : goal.errand_of-requires
errand_of-requires g c =
    let stands = sym c.in-Ok.ensures.answer.stands.0 ∙ ap plain c.in-Due.is in
    due_errand c.args.actor c.args.now _ c.in-Due.due stands

pub returns-in-Routes-clause-tries : goal.returns-in-Routes-clause-tries
returns-in-Routes-clause-tries g c =
    let stands = sym c.in-Ok.ensures.answer.stands.0 ∙ ap plain c.in-Routes.is in
    tries_due _ _ _ _ _ _ _ c.look.ensures.later c.look.ensures.kept.0 c.args.actor (due.Slot c.in-Routes.slot)
    (errand.Slot c.in-Routes.slot) c.args.now c.route.result stands refl c.route.ensures.tries

pub returns-in-Routes-2-clause-tries : goal.returns-in-Routes-2-clause-tries
returns-in-Routes-2-clause-tries g c =
    let stands = sym c.in-Ok.ensures.answer.stands.0 ∙ ap plain c.in-Routes.is in
    tries_due _ _ _ _ _ _ _ c.look.ensures.later c.look.ensures.kept.0 c.args.actor (due.Slot c.in-Routes.slot)
    (errand.Slot c.in-Routes.slot) c.args.now c.attempt.result stands refl c.attempt.ensures.tries

pub returns-in-Ok-errand_of-clause-tries : goal.returns-in-Ok-errand_of-clause-tries
returns-in-Ok-errand_of-clause-tries g c =
    let stands = sym c.in-Ok.ensures.answer.stands.0 ∙ ap plain c.in-Due.is in
    let tried = c.attempt-in-Ok-errand_of in
    tries_due _ _ _ _ _ _ _ c.look.ensures.later c.look.ensures.kept.0 c.args.actor c.in-Due.due
    c.in-Ok-errand_of.errand c.args.now tried.result stands (sym c.errand_of.ensures ∙ c.in-Ok-errand_of.is) tried.ensures.tries

pub returns-in-Err-clause-tries : goal.returns-in-Err-clause-tries
returns-in-Err-clause-tries g c =
    let answer = c.in-Ok.ensures.answer in
    works_waiting _ _ _ _ _ (record { front = c.look.ensures.later; same = c.look.ensures.kept.0; run = answer.run })
    c.args.actor c.args.now c.in-Due.due c.in-Err.worked (sym answer.stands.0 ∙ ap plain c.in-Due.is)
    (sym c.errand_of.ensures ∙ c.in-Err.is)
