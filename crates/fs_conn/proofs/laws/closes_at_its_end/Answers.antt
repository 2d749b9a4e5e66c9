use Rattle.fs_conn.proofs.CloseLemmas.{sent_played}
use Rattle.fs_conn.proofs.laws.closes_at_its_end.Goals as goal

pub returns : goal.returns
returns c = sent_played
