use Rattle.fs_conn.proofs.DrainLemmas.{first_played, all_played}
use Rattle.fs_conn.proofs.laws.hands_out_its_frames.Goals as goal

pub returns-clause-first : goal.returns-clause-first
returns-clause-first c = first_played

pub returns-clause-all : goal.returns-clause-all
returns-clause-all c = all_played
