use Rattle.fs_conn.specs.Play.{noted}
use Rattle.fs_top.proofs.AnswerLaws.{plays_anew, plays_nothing}
use Rattle.fs_top.proofs.program.played.Goals as goal

pub returns-in-Ok : goal.returns-in-Ok
returns-in-Ok g c =
    plays_anew c.args.config (noted c.play.new.machine.journal) _ _ _ _ _ _ c.play.result c.play.new.machine.journal
    (rw c.in-Ok.ensures.config at c.play.ensures.plays) c.play.ensures.loads

pub returns-in-Err : goal.returns-in-Err
returns-in-Err g c = plays_nothing c.args.config _ _ _
