use Rattle.std.proofs.Common.{[], Some, refl}
use Rattle.fs_book.specs.Passes.{seen, mine, met, opening_state}
use Rattle.fs_machine.specs.Turned.{configured}
use Rattle.fs_session.specs.declared.actor.Actor.TheVariants as who
use Rattle.fs_top.specs.Lanes.{Enters}
use Rattle.fs_top.proofs.GatherLemmas.{keeps_split}
use Rattle.fs_top.proofs.gathering.make_desk.Goals as goal

pub returns-clause-desk : goal.returns-clause-desk
returns-clause-desk g c =
    let new = c.split.result in
    let split = c.split.ensures in
    record {
      book_is = split.book.1;
      parts_is = split.new.3;
      keeps =
          keeps_split g.L.Port.input g.L.Port.output (Enters (g.C.Clock.tells c.args.clock.now) ⊥ (Some who.Jobs))
          (configured (opening_state c.args.book.now)) (seen c.args.pass.now) (seen new) (mine new) (met new) [] split.new.0
          split.new.1 split.new.2 refl c.requires.run;
    }

pub returns-clause-fresh : goal.returns-clause-fresh
returns-clause-fresh g c = (c.split.ensures.new.1, c.split.ensures.new.2)
