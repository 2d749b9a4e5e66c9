use Rattle.std.proofs.Common.{refl}
use Rattle.fs_text.specs.Cause.{cause_row, cause_name, cause_of_name}
use Rattle.fs_text.proofs.TableLemmas.{found_from_named}
use Rattle.fs_text.proofs.causes.Cause.of_name.Goals as goal

pub returns : goal.returns
unfolding cause_row cause_of_name
returns c = found_from_named cause_name c.named.result _ c.args.name.now c.named.ensures refl
