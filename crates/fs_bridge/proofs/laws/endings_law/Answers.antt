use Rattle.fs_bridge.proofs.EndLemmas.{ends_with_a_leg, each_ends_of_the_first, no_bridge_ends_twice}
use Rattle.fs_bridge.proofs.OutliveLemmas.{survivors_are_left}
use Rattle.fs_bridge.proofs.laws.endings_law.Goals as goal

pub returns : goal.returns
returns c = record {
  ends = ends_with_a_leg;
  first = each_ends_of_the_first;
  once = no_bridge_ends_twice;
  survivors = survivors_are_left;
}
