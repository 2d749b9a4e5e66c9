use Rattle.fs_top.proofs.StandLemmas.{desk_told}
use Rattle.fs_top.proofs.desk.work_beside.Goals as goal

pub work_jobs-requires-clause-stands : goal.work_jobs-requires-clause-stands
work_jobs-requires-clause-stands g c =
    λ _ _.
    desk_told g.L.Port.input g.L.Port.output (g.C.Clock.tells c.args.clock.now) (g.C.Clock.tells c.of_sleeper-clock.result) c.args.book.now _
    (λ moment told. (c.of_sleeper-clock.ensures moment).1 told) c.requires

pub returns-clause-stands : goal.returns-clause-stands
returns-clause-stands g c =
    desk_told g.L.Port.input g.L.Port.output (g.C.Clock.tells c.of_sleeper-clock.result) (g.C.Clock.tells c.args.clock.now) c.args.book.now _
    (λ moment told. (c.of_sleeper-clock.ensures moment).0 told) c.work_jobs.ensures.stands
