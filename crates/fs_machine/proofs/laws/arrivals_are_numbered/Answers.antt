use Rattle.fs_machine.proofs.ArrivalLemmas.{arrived_opens}
use Rattle.fs_machine.proofs.laws.arrivals_are_numbered.Goals as goal

pub returns : goal.returns
returns c = arrived_opens
