use Rattle.fs_top.proofs.AnswerLaws.{loads_none}
use Rattle.fs_top.proofs.program.load.Goals as goal

pub returns-in-Ok-clause-does : goal.returns-in-Ok-clause-does
returns-in-Ok-clause-does g c = rw (c.in-Ok.ensures.config) at c.load_on.ensures.does

pub returns-in-Err-clause-does : goal.returns-in-Err-clause-does
returns-in-Err-clause-does g c = loads_none c.args.config _ _ _
