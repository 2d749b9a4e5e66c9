use Rattle.std.proofs.Common.{ℕ, ◌∙◌, subst}
use Rattle.fs_top.specs.Standing.{SlotStands}
use Rattle.fs_top.proofs.StandLemmas.{failed_as}
use Rattle.fs_top.proofs.dialing.work_slot.Goals as goal

pub talks-preserved-in-Talk : goal.talks-preserved-in-Talk
talks-preserved-in-Talk g c =
    let turns = c.run_lane_turns.ensures in
    record {
      stands =
          subst (λ (slot : ℕ). SlotStands g.L.Port.input g.L.Port.output (g.C.Clock.tells c.args.clock.now) c.args.book.now slot c.talk.new.lane)
          (turns.stands.0 ∙ c.talks.invariant.stands.0) c.talk.ensures.stands;
      failed = λ from before.
          c.talk.ensures.failed from
          (failed_as g.O.Dialer.dial_faults from c.talks.lane c.run_lane_turns.new.lane turns.stands.0 turns.dialer turns.vain
          (c.talks.invariant.failed from before));
    }

pub talks-preserved : goal.talks-preserved
talks-preserved g c =
    let turns = c.run_lane_turns.ensures in
    record {
      stands =
          subst
          (λ (slot : ℕ). SlotStands g.L.Port.input g.L.Port.output (g.C.Clock.tells c.args.clock.now) c.args.book.now slot
          c.run_lane_turns.new.lane) c.talks.invariant.stands.0 turns.stands;
      failed = λ from before.
          failed_as g.O.Dialer.dial_faults from c.talks.lane c.run_lane_turns.new.lane turns.stands.0 turns.dialer turns.vain
          (c.talks.invariant.failed from before);
    }

pub returns-in-Over-clause-failed : goal.returns-in-Over-clause-failed
returns-in-Over-clause-failed g c = λ from before.
    let turns = c.run_lane_turns.ensures in
    failed_as g.O.Dialer.dial_faults from c.talks.lane c.run_lane_turns.new.lane turns.stands.0 turns.dialer turns.vain
    (c.talks.invariant.failed from before)
