use Rattle.fs_top.proofs.StandLemmas.{slot_told}
use Rattle.fs_top.proofs.dialing.run_slot.Goals as goal

pub work_slot-requires-clause-stands : goal.work_slot-requires-clause-stands
work_slot-requires-clause-stands g c =
    λ _ _.
    slot_told g.L.Port.input g.L.Port.output (g.C.Clock.tells c.args.clock.now) (g.C.Clock.tells c.of_sleeper-clock.result) c.args.book.now
    c.args.lane.now.slot 2 c.args.lane.now (λ moment told. (c.of_sleeper-clock.ensures moment).1 told) c.requires

pub returns-clause-stands : goal.returns-clause-stands
returns-clause-stands g c =
    slot_told g.L.Port.input g.L.Port.output (g.C.Clock.tells c.of_sleeper-clock.result) (g.C.Clock.tells c.args.clock.now) c.args.book.now
    c.args.lane.now.slot 2 c.work_slot.new.lane (λ moment told. (c.of_sleeper-clock.ensures moment).0 told) c.work_slot.ensures.stands
