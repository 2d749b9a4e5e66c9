use Rattle.fs_machine.proofs.BridgeTotals.{bridges_are_counted}
use Rattle.fs_machine.proofs.laws.bridges_are_counted.Goals as goal

pub returns : goal.returns
returns c = bridges_are_counted
