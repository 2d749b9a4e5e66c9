use Rattle.std.proofs.Common.{◌≤◌, ◌∙◌, length, arith}
use Rattle.fs_state.specs.Drafts.{after}
use Rattle.fs_machine.proofs.TouchLemmas.{counted_next, all_counted}
use Rattle.fs_machine.proofs.touches.Touches.note_all.Goals as goal

pub loop-slot-preserved : goal.loop-slot-preserved
loop-slot-preserved c =
    let core = c.args.core.now.switch in
    let old = c.args.self.now in
    let new = c.loop-slot.self in
    let here = c.note_slot.ensures in record {
      all = here.all ∙ c.loop-slot.invariant.all;
      done =
          counted_next core (after core c.args.delta.now) c.loop-slot.slot old new c.note_slot.new.self c.loop-slot.invariant.done
          c.loop-slot.invariant.left here.here here.others;
      left = λ slot past.
          here.others slot (λ same. omega (arith, past, same)) ∙ c.loop-slot.invariant.left slot (omega (arith, past));
    }

pub returns-clause-counted : goal.returns-clause-counted
returns-clause-counted c =
    let past : length c.args.core.now.switch.channels ≤ c.loop-slot.slot = omega (arith, c.slots-slot-end.ensures, c.loop-slot-test.false) in
    all_counted c.args.core.now.switch c.args.delta.now c.loop-slot.slot c.args.self.now c.loop-slot.self past c.loop-slot.invariant.done
    c.loop-slot.invariant.left
