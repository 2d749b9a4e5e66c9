use Rattle.fs_machine.proofs.SoundLaws.{winners_join}
use Rattle.fs_machine.proofs.laws.winners_can_join.Goals as goal

pub returns : goal.returns
returns c = winners_join
