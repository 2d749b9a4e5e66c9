use Rattle.fs_machine.proofs.LetGoLaws.{ends_are_recorded}
use Rattle.fs_machine.proofs.laws.ends_are_recorded.Goals as goal

pub returns : goal.returns
returns c = ends_are_recorded
