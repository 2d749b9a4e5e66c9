use Rattle.std.proofs.Common.{◌≡◌, [], ◌∷◌, ◌++◌, ◌∙◌, List, arith, ap, subst, sym, length}
use Rattle.std.proofs.lemmas.List.{length_push}
use Rattle.std.proofs.lemmas.List.Elements.{All-push}
use Rattle.fs_book.specs.Passes.{opening_state}
use Rattle.fs_machine.specs.declared.entry.Entry.{Entry}
use Rattle.fs_machine.specs.Turned.{configured, IsJournal}
use Rattle.fs_top.specs.declared.lanes.Lane.TheVariants.{Staff}
use Rattle.fs_top.specs.Standing.{Stands, IsPlaced, ArePlaced, HasFailed}
use Rattle.fs_top.proofs.VainLemmas.{each_push}
use Rattle.fs_top.proofs.gathering.add_staff.Goals as goal

pub make_staff-requires-clause-run : goal.make_staff-requires-clause-run
make_staff-requires-clause-run g c =
    λ _ _.
    subst (λ (log : List Entry). IsJournal (configured (opening_state c.args.book.now)) log) (sym c.links.invariant.same.0) c.requires.run

pub links-preserved : goal.links-preserved
links-preserved g c =
    let was = c.links.invariant in
    let made = c.make_staff.ensures in
    let staff = c.in_ok-staff.staff in
    let lanes = c.links.lanes.items in
    let pushed : c.push.new.self.items ≡ lanes ++ Staff staff ∷ [] = c.in_ok-push.ensures.items in
    record {
      book = made.book;
      same = (made.same.0 ∙ was.same.0, made.same.1 ∙ was.same.1, made.same.2 ∙ was.same.2);
      counted = omega (arith, c.in_ok-staff.ensures.parts, was.counted, ap length pushed, length_push lanes (Staff staff));
      more = omega (arith, was.more, ap length pushed, length_push lanes (Staff staff));
      stand =
          rw pushed
          (All-push (Stands g.L.Port.input g.L.Port.output (g.C.Clock.tells c.args.clock.now) c.args.book.now) lanes (Staff staff) was.stand
          c.in_ok-staff.ensures.staff);
      placed = λ slots front placed.
          subst (λ ls. ArePlaced slots ls) (sym pushed)
          (each_push (IsPlaced slots) lanes (Staff staff) (λ k l. was.placed slots front placed k l) (omega (arith, front, was.more)));
      failed = λ from failed.
          rw pushed (All-push (HasFailed g.O.Dialer.dial_faults from) lanes (Staff staff) (was.failed from failed) tt);
    }
