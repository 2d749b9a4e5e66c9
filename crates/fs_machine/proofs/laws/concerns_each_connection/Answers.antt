use Rattle.fs_machine.proofs.ConcernLemmas.{concerns}
use Rattle.fs_machine.proofs.laws.concerns_each_connection.Goals as goal

pub returns : goal.returns
returns c = concerns
