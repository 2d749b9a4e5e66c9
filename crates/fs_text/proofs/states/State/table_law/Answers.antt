use Rattle.fs_text.proofs.TheTables.{state_table}
use Rattle.fs_text.proofs.states.State.table_law.Goals as goal

pub returns : goal.returns
returns c = state_table
