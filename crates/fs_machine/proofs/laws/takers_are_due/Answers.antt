use Rattle.fs_machine.proofs.DueLaws.{takers_due}
use Rattle.fs_machine.proofs.laws.takers_are_due.Goals as goal

pub returns : goal.returns
returns c = takers_due
