use Rattle.std.proofs.Common.{◌≡◌, ℕ, [], ◌∷◌, ◌++◌, ◌∙◌, List, arith, ap, subst, sym, length}
use Rattle.std.proofs.lemmas.List.{length_push}
use Rattle.std.proofs.lemmas.List.Elements.{All-push}
use Rattle.fs_book.specs.Passes.{opening_state}
use Rattle.fs_machine.specs.declared.entry.Entry.{Entry}
use Rattle.fs_machine.specs.Turned.{configured, IsJournal}
use Rattle.fs_top.specs.declared.lanes.Lane.TheVariants.{Slot}
use Rattle.fs_top.specs.Standing.{SlotStands, Stands, IsPlaced, ArePlaced, HasFailed}
use Rattle.fs_top.proofs.VainLemmas.{each_push}
use Rattle.fs_top.proofs.gathering.make_slots.Goals as goal

pub make_slot-requires-clause-run : goal.make_slot-requires-clause-run
make_slot-requires-clause-run g c =
    λ _ _.
    subst (λ (log : List Entry). IsJournal (configured (opening_state c.args.book.now)) log) (sym c.slots.invariant.same.0) c.requires.run

pub slots-preserved : goal.slots-preserved
slots-preserved g c =
    let was = c.slots.invariant in
    let made = c.make_slot.ensures in
    let lane = c.in_ok-lane.lane in
    let lanes = c.slots.lanes.items in
    let pushed : c.push.new.self.items ≡ lanes ++ Slot lane ∷ [] = c.in_ok-push.ensures.items in
    record {
      book = made.book;
      same = (made.same.0 ∙ was.same.0, made.same.1 ∙ was.same.1, made.same.2 ∙ was.same.2);
      counted = omega (arith, c.in_ok-lane.ensures.parts, was.counted, ap length pushed, length_push lanes (Slot lane));
      order = omega (arith, was.order, ap length pushed, length_push lanes (Slot lane));
      stand =
          rw pushed
          (All-push (Stands g.L.Port.input g.L.Port.output (g.C.Clock.tells c.args.clock.now) c.args.book.now) lanes (Slot lane) was.stand
          (subst (λ (slot : ℕ). SlotStands g.L.Port.input g.L.Port.output (g.C.Clock.tells c.args.clock.now) c.args.book.now slot lane)
          (sym c.in_ok-lane.ensures.lane.0) c.in_ok-lane.ensures.lane));
      placed =
          subst (λ ls. ArePlaced c.args.slots ls) (sym pushed)
          (each_push (IsPlaced c.args.slots) lanes (Slot lane) (λ k l. was.placed k l)
          (omega (arith, was.order, c.slots-test.true), (omega (arith, was.order, c.in_ok-lane.ensures.lane.0))));
      failed =
          rw pushed
          (All-push (HasFailed g.O.Dialer.dial_faults (g.O.Dialer.dial_faults c.args.dialer.now)) lanes (Slot lane) was.failed
          c.in_ok-lane.ensures.failed);
    }
