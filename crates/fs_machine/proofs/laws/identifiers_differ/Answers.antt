use Rattle.fs_machine.proofs.SoundLemmas.{identifiers_differ}
use Rattle.fs_machine.proofs.laws.identifiers_differ.Goals as goal

pub returns : goal.returns
returns c = identifiers_differ
