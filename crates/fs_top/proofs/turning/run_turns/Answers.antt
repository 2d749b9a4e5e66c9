use Rattle.std.proofs.Common.{Some, refl, ◌∙◌}
use Rattle.fs_book.specs.Passes.{seen, mine, met}
use Rattle.fs_top.proofs.LaneLemmas.{keeps_worked}
use Rattle.fs_top.proofs.ReloadLemmas.{noted_worked}
use Rattle.fs_top.proofs.VainLemmas.{vain_worked}
use Rattle.fs_top.proofs.turning.run_turns.Goals as goal

pub turns-preserved : goal.turns-preserved
turns-preserved g c =
    let old = c.turns.pass in
    let new = c.work_once-worked.new.pass in
    record {
      book = c.work_once-worked.ensures.book;
      parts_kept = c.work_once-worked.ensures.kept.1 ∙ c.turns.invariant.parts_kept;
      keeps =
          keeps_worked g.L.Port.input g.L.Port.output (g.C.Clock.tells c.args.clock.now) ⊥ (Some c.args.actor) _ new.seat.me.0.start
          (seen old) (seen new) (mine old) (mine new) (met old) (met new) _ c.work_once-worked.ensures.book.1 c.work_once-worked.ensures.kept.0
          old.sound.places new.sound.owned c.turns.invariant.keeps c.args.actor c.now.result c.work_once-worked.result c.now.ensures
          c.work_once-worked.ensures.works;
      vain = λ slot.
          vain_worked _ (seen old) (seen new) (mine old) (mine new) (met old) (met new) c.work_once-worked.ensures.kept.0 old.sound.places slot
          c.args.actor c.now.result c.work_once-worked.result c.work_once-worked.ensures.works ∙ c.turns.invariant.vain slot;
      met_kept = c.work_once-worked.ensures.kept.0 ∙ c.turns.invariant.met_kept;
      noted =
          noted_worked _ (seen old) (seen new) (mine old) (mine new) (old.sound.places 0 (mine old) refl) c.args.actor c.now.result
          c.work_once-worked.result c.work_once-worked.ensures.works ∙ c.turns.invariant.noted;
    }

pub returns-in-Some-follow-clause-keeps : goal.returns-in-Some-follow-clause-keeps
returns-in-Some-follow-clause-keeps g c =
    let old = c.turns.pass in
    let new = c.work_once-worked.new.pass in
    keeps_worked g.L.Port.input g.L.Port.output (g.C.Clock.tells c.args.clock.now) ⊥ (Some c.args.actor) _ new.seat.me.0.start (seen old)
    (seen new) (mine old) (mine new) (met old) (met new) _ c.work_once-worked.ensures.book.1 c.work_once-worked.ensures.kept.0
    old.sound.places new.sound.owned c.turns.invariant.keeps c.args.actor c.now.result c.work_once-worked.result c.now.ensures
    c.work_once-worked.ensures.works

pub returns-in-Some-follow-clause-vain : goal.returns-in-Some-follow-clause-vain
returns-in-Some-follow-clause-vain g c =
    let old = c.turns.pass in
    let new = c.work_once-worked.new.pass in λ slot.
    vain_worked _ (seen old) (seen new) (mine old) (mine new) (met old) (met new) c.work_once-worked.ensures.kept.0 old.sound.places slot
    c.args.actor c.now.result c.work_once-worked.result c.work_once-worked.ensures.works ∙ c.turns.invariant.vain slot

pub returns-in-Some-follow-clause-met : goal.returns-in-Some-follow-clause-met
returns-in-Some-follow-clause-met g c = c.work_once-worked.ensures.kept.0 ∙ c.turns.invariant.met_kept

pub returns-in-Some-follow-clause-noted : goal.returns-in-Some-follow-clause-noted
returns-in-Some-follow-clause-noted g c =
    let old = c.turns.pass in
    let new = c.work_once-worked.new.pass in
    noted_worked _ (seen old) (seen new) (mine old) (mine new) (old.sound.places 0 (mine old) refl) c.args.actor c.now.result
    c.work_once-worked.result c.work_once-worked.ensures.works ∙ c.turns.invariant.noted
