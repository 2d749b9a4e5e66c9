use Rattle.fs_top.proofs.StandLemmas.{staff_told}
use Rattle.fs_top.proofs.lanes.run_staff.Goals as goal

pub serve_staff-requires-clause-stands : goal.serve_staff-requires-clause-stands
serve_staff-requires-clause-stands g c =
    λ _ _.
    staff_told g.L.Port.input g.L.Port.output (g.C.Clock.tells c.args.clock.now) (g.C.Clock.tells c.of_sleeper-clock.result) c.args.book.now _
    (λ moment told. (c.of_sleeper-clock.ensures moment).1 told) c.requires

pub returns : goal.returns
returns g c =
    staff_told g.L.Port.input g.L.Port.output (g.C.Clock.tells c.of_sleeper-clock.result) (g.C.Clock.tells c.args.clock.now) c.args.book.now _
    (λ moment told. (c.of_sleeper-clock.ensures moment).0 told) c.serve_staff.ensures
