use Rattle.fs_machine.proofs.BridgeLaws.{events_are_named}
use Rattle.fs_machine.proofs.laws.events_are_named.Goals as goal

pub returns : goal.returns
returns c = events_are_named
