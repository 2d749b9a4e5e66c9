use Rattle.fs_bridge.proofs.ListedLemmas.{each_is_in_a_round, each_of_a_round_hangs_up, one_round_and_cause}
use Rattle.fs_bridge.proofs.laws.rounds_law.Goals as goal

pub returns : goal.returns
returns c = record { each = each_is_in_a_round; all = each_of_a_round_hangs_up; one = one_round_and_cause }
