use Rattle.fs_top.proofs.AnswerLaws.{print_all, print_failed}
use Rattle.fs_top.proofs.program.print.Goals as goal

pub returns-in-All-clause-does : goal.returns-in-All-clause-does
returns-in-All-clause-does g c = print_all _ _ _ _ (rw c.as_bytes.ensures at c.in-All.ensures.output)

pub returns-in-Failed-clause-does : goal.returns-in-Failed-clause-does
returns-in-Failed-clause-does g c = print_failed _ _ _ _ (rw c.as_bytes.ensures at c.in-Failed.ensures.output)
