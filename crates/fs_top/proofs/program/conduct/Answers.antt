use Rattle.fs_top.proofs.RunLaws.{runs_usage}
use Rattle.fs_top.proofs.program.conduct.Goals as goal

pub returns-in-Some : goal.returns-in-Some
returns-in-Some g c = rw (← c.in-Some.ensures) c.over_asked.ensures

pub returns-in-None : goal.returns-in-None
returns-in-None g c = rw (← c.in-None.ensures) (runs_usage _ _ _)
