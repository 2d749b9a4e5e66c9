use Rattle.fs_top.proofs.StandLemmas.{talks_told}
use Rattle.fs_top.proofs.dialing.serve_beside.Goals as goal

pub returns-clause-talks : goal.returns-clause-talks
returns-clause-talks g c =
    talks_told (g.C.Clock.tells c.of_sleeper-talks.result) (g.C.Clock.tells c.args.clock.now) _ _ _ _ _
    (λ moment told. (c.of_sleeper-talks.ensures moment).0 told)
    (rw (c.belong_to.ensures.input, c.belong_to.ensures.output) at c.converse_beside-end.ensures.talks)
