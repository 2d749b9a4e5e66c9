use Rattle.fs_conn.proofs.ToldLemmas.{told_up}
use Rattle.fs_conn.proofs.laws.stays_told.Goals as goal

pub returns : goal.returns
returns c = told_up
