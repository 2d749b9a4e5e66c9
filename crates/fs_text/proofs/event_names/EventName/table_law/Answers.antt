use Rattle.fs_text.proofs.TheTables.{event_table}
use Rattle.fs_text.proofs.event_names.EventName.table_law.Goals as goal

pub returns : goal.returns
returns c = event_table
