use Rattle.fs_machine.proofs.StillMoves.{stays_stopping, stays_empty}
use Rattle.fs_machine.proofs.laws.stays_stopped.Goals as goal

pub returns-clause-stopping : goal.returns-clause-stopping
returns-clause-stopping c = stays_stopping

pub returns-clause-empty : goal.returns-clause-empty
returns-clause-empty c = stays_empty
