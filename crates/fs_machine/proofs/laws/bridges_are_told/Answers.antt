use Rattle.fs_machine.proofs.BridgeLaws.{bridges_are_told, ends_stand_behind, ends_stand_between}
use Rattle.fs_machine.proofs.laws.bridges_are_told.Goals as goal

pub returns-clause-told : goal.returns-clause-told
returns-clause-told c = bridges_are_told

pub returns-clause-order : goal.returns-clause-order
returns-clause-order c = ends_stand_behind

pub returns-clause-between : goal.returns-clause-between
returns-clause-between c = ends_stand_between
