use Rattle.fs_conn.proofs.AgreeLemmas.{played_agrees}
use Rattle.fs_conn.proofs.laws.refuses_only_when_full.Goals as goal

pub returns : goal.returns
returns c = played_agrees
