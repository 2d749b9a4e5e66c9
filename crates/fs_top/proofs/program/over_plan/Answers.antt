use Rattle.std.proofs.Common.{Some, refl, []}
use Rattle.fs_top.specs.Told.{Check, Hunt, told_asked}
use Rattle.fs_top.proofs.AnswerLaws.{answers_quiet, text_anywhere, used_rests}
use Rattle.fs_top.proofs.RunLaws.{plan_alone, plan_played, plan_loaded}
use Rattle.fs_top.proofs.program.over_plan.Goals as goal

pub returns-in-Check : goal.returns-in-Check
returns-in-Check g c =
    let asked = Check c.in-Check.file.now in
    rw c.in-Check.is
    (plan_alone asked c.args.config _ _ _ _ _ _ refl
    (answers_quiet (told_asked asked c.args.config []) (Some asked) _ _ _ _ _ c.check.ensures.input
    (λ to. text_anywhere _ _ to _ _ _ (rw c.contexts.ensures at c.check.ensures.does)) (used_rests _ _ _ _ _ _ refl)))

pub returns-in-Hunt : goal.returns-in-Hunt
returns-in-Hunt g c =
    let asked = Hunt c.in-Hunt.file.now c.in-Hunt.context.now c.in-Hunt.dest.now in
    rw c.in-Hunt.is
    (plan_alone asked c.args.config _ _ _ _ _ _ refl
    (answers_quiet (told_asked asked c.args.config []) (Some asked) _ _ _ _ _ c.hunt.ensures.input
    (λ to. text_anywhere _ _ to _ _ _ (rw (c.requires.built, c.globals.ensures) at c.hunt.ensures.does)) (used_rests _ _ _ _ _ _ refl)))

pub returns-in-Play : goal.returns-in-Play
returns-in-Play g c = rw c.in-Play.is (plan_played c.args.config c.in-Play.file.now _ _ _ _ _ _ _ c.played.ensures)

pub returns : goal.returns
returns g c =
    rw c.in-Load.is
    (plan_loaded c.args.config c.in-Load.count c.in-Load.start _ _ _ _ _ _ c.load.ensures.input c.load.ensures.does)
