use Rattle.fs_conn.proofs.LawLemmas.{ends_played}
use Rattle.fs_conn.proofs.CauseLemmas.{cause_played}
use Rattle.fs_conn.proofs.laws.ends_for_a_cause.Goals as goal

pub returns-clause-ends : goal.returns-clause-ends
returns-clause-ends c = ends_played

pub returns-clause-cause : goal.returns-clause-cause
returns-clause-cause c = cause_played
