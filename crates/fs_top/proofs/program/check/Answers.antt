use Rattle.fs_top.proofs.AnswerLaws.{print_none}
use Rattle.fs_top.proofs.program.check.Goals as goal

pub returns-in-Ok-clause-does : goal.returns-in-Ok-clause-does
returns-in-Ok-clause-does g c = rw c.in-Ok.ensures at c.print.ensures.does

pub returns-in-Err-clause-does : goal.returns-in-Err-clause-does
returns-in-Err-clause-does g c = print_none _ _ _
