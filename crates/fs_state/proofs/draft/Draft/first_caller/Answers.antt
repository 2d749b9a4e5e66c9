use Rattle.std.proofs.Common.{◌≡◌, ◌+◌, ◌-◌, Option, arith, sym, ap, ◌∙◌}
use Rattle.std.specs.Prelude.{option_map}
use Rattle.fs_chan.specs.declared.turn.Turn.{Turn}
use Rattle.fs_seats.specs.Seats.{held_in}
use Rattle.fs_state.specs.Drafts.{drafted}
use Rattle.fs_state.specs.Queues.{turn_at, sooner_of, slot_of}
use Rattle.fs_state.proofs.QueueLemmas.{first_from, first_step, first_nowhere}
use Rattle.fs_state.proofs.draft.Draft.first_caller.Goals as goal

pub slots-init : goal.slots-init
slots-init c = record {
  within = c.filled_slots-slot.ensures.within;
  first = sym (first_nowhere c.args.name.now (drafted c.args.self.now).channels c.filled_slots-slot.result c.filled_slots-slot.ensures.empty);
}

pub slots-preserved : goal.slots-preserved
slots-preserved c =
    let name = c.args.name.now in
    let chans = (drafted c.args.self.now).channels in
    let n = c.slots.slot - 1 in
    let one : n + 1 ≡ c.slots.slot = omega (arith, c.slots-test.true) in record {
      within = omega (arith, c.slots.invariant.within);
      first =
          c.sooner-first.ensures
          ∙ ap (λ (turn : Option Turn). sooner_of n turn c.slots.first) (c.turn_in.ensures ∙ ap (turn_at name) c.chan.ensures)
          ∙ ap (sooner_of n (turn_at name (held_in chans n))) (c.slots.invariant.first ∙ ap (first_from name chans) (sym one))
          ∙ sym (first_step name chans n (omega (arith, c.slots.invariant.within, c.slots-test.true)));
    }

pub returns-in-Some : goal.returns-in-Some
returns-in-Some c =
    let first = first_from c.args.name.now (drafted c.args.self.now).channels in
    let none_left : c.slots.slot ≡ 0 = omega (arith, c.slots-test.false) in
    ap (option_map slot_of) (sym c.in-Some.is ∙ c.slots.invariant.first ∙ ap first none_left)

pub returns-in-None : goal.returns-in-None
returns-in-None c =
    let first = first_from c.args.name.now (drafted c.args.self.now).channels in
    let none_left : c.slots.slot ≡ 0 = omega (arith, c.slots-test.false) in
    ap (option_map slot_of) (sym c.in-None.is ∙ c.slots.invariant.first ∙ ap first none_left)
