use Rattle.std.proofs.Common.{refl}
use Rattle.fs_text.specs.EventName.{event_row, event_name, event_of_name}
use Rattle.fs_text.proofs.TableLemmas.{found_from_named}
use Rattle.fs_text.proofs.event_names.EventName.of_name.Goals as goal

pub returns : goal.returns
unfolding event_row event_of_name
returns c = found_from_named event_name c.named.result _ c.args.name.now c.named.ensures refl
