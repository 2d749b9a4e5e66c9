use Rattle.std.proofs.Common.{◌<◌, ◌≤◌, ◌∙◌, refl, sym, length, arith}
use Rattle.fs_state.specs.Drafts.{after}
use Rattle.fs_machine.proofs.TouchLemmas.{none_noted, write_passed, write_noted, write_past, all_noted}
use Rattle.fs_machine.proofs.touches.Touches.note_written.Goals as goal
use Rattle.fs_machine.proofs.touches.Touches.note_written.Goals.{in-Some+then-seat-from, in-Some+else-seat-from, in_default}

pub loop-write-init : goal.loop-write-init
loop-write-init c = record {
  all = refl;
  noted = none_noted c.args.core.now.switch c.args.delta.now c.args.self.now c.requires.globals;
}

pub loop-write-preserved : goal.loop-write-preserved
loop-write-preserved c =
    let core = c.args.core.now.switch in
    let delta = c.args.delta.now in
    let ws = delta.channels in
    let old = c.args.self.now in
    let so_far = c.loop-write.invariant in
    let within : c.loop-write.write < length ws = omega (arith, c.len-write-end.ensures, c.loop-write-test.true) in
    elim c.match-last_of.branch [
      | in-Some+then-seat-from w ↦ rw w.self-is (record {
        all = w.note_slot.ensures.all ∙ so_far.all;
        noted =
            write_noted core (after core delta) ws c.loop-write.write w.in-Some.seat old c.loop-write.self w.note_slot.new.self within
            (sym c.last_of.ensures ∙ w.in-Some.is) so_far.noted w.note_slot.ensures.here w.note_slot.ensures.others;
      })
      | in-Some+else-seat-from w ↦ rw w.self-is (record {
        all = so_far.all;
        noted =
            let past : length core.channels ≤ w.in-Some.seat =
            omega (arith, c.slots-slots.ensures, w.from.ensures, w.if-seat-from.false) in
            write_past core delta ws c.loop-write.write w.in-Some.seat old c.loop-write.self within
            (sym c.last_of.ensures ∙ w.in-Some.is) so_far.noted past;
      })
      | in_default w ↦ rw w.self-is (record {
        all = so_far.all;
        noted =
            write_passed core (after core delta) ws c.loop-write.write old c.loop-write.self within
            (sym c.last_of.ensures ∙ w.in_default.is) so_far.noted;
      })
    ]

pub returns-clause-counted : goal.returns-clause-counted
returns-clause-counted c =
    let ws = c.args.delta.now.channels in
    let past : length ws ≤ c.loop-write.write = omega (arith, c.len-write-end.ensures, c.loop-write-test.false) in
    all_noted c.args.core.now.switch (after c.args.core.now.switch c.args.delta.now) ws c.loop-write.write c.args.self.now c.loop-write.self past
    c.loop-write.invariant.noted
