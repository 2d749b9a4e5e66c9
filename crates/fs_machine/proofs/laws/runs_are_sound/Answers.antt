use Rattle.fs_machine.proofs.SoundLaws.{sound_run}
use Rattle.fs_machine.proofs.laws.runs_are_sound.Goals as goal

pub returns : goal.returns
returns c = sound_run
