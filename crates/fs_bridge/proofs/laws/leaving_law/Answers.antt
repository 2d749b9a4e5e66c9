use Rattle.fs_bridge.proofs.PartLemmas.{nobody_leaves, first_are_named_or_left, left_clear, others_stand, leaving_is_a_hangup}
use Rattle.fs_bridge.proofs.LeaverLemmas.{members_are_of_rounds, of_one_round_and_cause}
use Rattle.fs_bridge.proofs.laws.leaving_law.Goals as goal

pub returns : goal.returns
returns c = record {
  nobody = nobody_leaves;
  first = first_are_named_or_left;
  cause = left_clear;
  others = others_stand;
  hangup = leaving_is_a_hangup;
  members = members_are_of_rounds;
  one = of_one_round_and_cause;
}
