use Rattle.fs_text.proofs.TheTables.{cause_table}
use Rattle.fs_text.proofs.causes.Cause.table_law.Goals as goal

pub returns : goal.returns
returns c = cause_table
