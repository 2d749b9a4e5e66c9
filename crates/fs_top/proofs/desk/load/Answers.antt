use Rattle.std.proofs.Common.{Some, refl, ◌∙◌}
use Rattle.fs_book.specs.Passes.{seen, mine, met, opening_state}
use Rattle.fs_machine.specs.Turned.{configured}
use Rattle.fs_session.specs.declared.actor.Actor.TheVariants as who
use Rattle.fs_top.proofs.LaneLemmas.{keeps_loaded}
use Rattle.fs_top.proofs.ReloadLemmas.{reloads_once}
use Rattle.fs_top.proofs.desk.load.Goals as goal

pub returns-clause-stands : goal.returns-clause-stands
returns-clause-stands g c =
    let old = c.args.desk.now.pass in
    let new = c.load_once-worked.new.pass in
    let loaded = c.load_once-worked.ensures in record {
      book_is = loaded.book;
      parts_is = loaded.kept.1 ∙ c.requires.stands.parts_is;
      keeps =
          keeps_loaded g.L.Port.input g.L.Port.output (g.C.Clock.tells c.args.clock.now) ⊥ (Some who.Jobs) (configured (opening_state c.args.book.now))
          new.seat.me.0.start (seen old) (seen new) (mine old) (mine new) (met old) (met new) _ loaded.book.1 loaded.kept.0 old.sound.places
          new.sound.owned c.requires.stands.keeps refl c.args.job c.now-now.result _ _ c.load_once-worked.result c.now-now.ensures loaded.loads;
    }

pub returns-clause-loads : goal.returns-clause-loads
returns-clause-loads g c = λ first before.
    let old = c.args.desk.now.pass in
    let new = c.load_once-worked.new.pass in
    let loaded = c.load_once-worked.ensures in record {
      reloads =
          reloads_once (configured (opening_state c.args.book.now)) (seen old) (seen new) (mine old) (mine new)
          (old.sound.places 0 (mine old) refl) first _ _ c.args.job c.now-now.result c.load_once-worked.result loaded.loads before.reloads;
      alone = loaded.kept.0 ∙ before.alone;
    }
