use Rattle.fs_machine.proofs.SoundLemmas.{partners_agree}
use Rattle.fs_machine.proofs.laws.partners_agree.Goals as goal

pub returns : goal.returns
returns c = partners_agree
