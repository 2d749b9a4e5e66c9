use Rattle.fs_conn.proofs.LawLemmas.{run_played}
use Rattle.fs_conn.proofs.laws.plays_a_run.Goals as goal

pub returns : goal.returns
returns c = run_played
