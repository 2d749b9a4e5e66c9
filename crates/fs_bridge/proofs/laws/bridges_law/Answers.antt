use Rattle.fs_bridge.proofs.RowLemmas.{joined_are_part, ended_is_left}
use Rattle.fs_bridge.proofs.laws.bridges_law.Goals as goal

pub returns : goal.returns
returns c = record { joined = joined_are_part; ended = ended_is_left }
