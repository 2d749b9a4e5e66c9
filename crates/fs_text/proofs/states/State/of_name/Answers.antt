use Rattle.std.proofs.Common.{refl}
use Rattle.fs_text.specs.State.{state_row, state_name, state_of_name}
use Rattle.fs_text.proofs.TableLemmas.{found_from_named}
use Rattle.fs_text.proofs.states.State.of_name.Goals as goal

pub returns : goal.returns
unfolding state_row state_of_name
returns c = found_from_named state_name c.named.result _ c.args.name.now c.named.ensures refl
