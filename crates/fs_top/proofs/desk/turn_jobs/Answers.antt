use Rattle.std.proofs.Common.{◌∷◌, Some, ◌∙◌, sym}
use Rattle.fs_book.specs.Passes.{seen, mine, met, opening_state}
use Rattle.fs_machine.specs.Turned.{configured}
use Rattle.fs_session.specs.declared.actor.Actor.TheVariants as who
use Rattle.fs_top.specs.Lanes.{Enters}
use Rattle.fs_top.proofs.LaneLemmas.{keeps_same}
use Rattle.fs_top.proofs.desk.turn_jobs.Goals as goal

pub run_turns-requires-clause-keeps : goal.run_turns-requires-clause-keeps
run_turns-requires-clause-keeps g c =
    λ _ _.
    let pass = c.args.desk.now.pass in
    keeps_same g.L.Port.input g.L.Port.output (Enters (g.C.Clock.tells c.args.clock.now) ⊥ (Some who.Jobs)) (configured (opening_state c.args.book.now))
    (seen pass) (mine pass ∷ met pass) _ _ c.new-nobody.ensures.items c.requires.keeps

pub returns-clause-stands : goal.returns-clause-stands
returns-clause-stands g c =
    let pass = c.run_turns.new.pass in record {
      book_is = c.run_turns.ensures.book;
      parts_is = c.run_turns.ensures.parts ∙ c.requires.parts_is;
      keeps =
          keeps_same g.L.Port.input g.L.Port.output (Enters (g.C.Clock.tells c.args.clock.now) ⊥ (Some who.Jobs))
          (configured (opening_state c.args.book.now)) (seen pass) (mine pass ∷ met pass) _ _ (sym c.new-nobody.ensures.items)
          c.run_turns.ensures.keeps;
    }
