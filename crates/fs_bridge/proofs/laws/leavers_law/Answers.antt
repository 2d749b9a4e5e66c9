use Rattle.fs_bridge.proofs.LeaverLemmas.{others_survive, survivors_stay, leavers_live, leavers_are_in_order}
use Rattle.fs_bridge.proofs.laws.leavers_law.Goals as goal

pub returns : goal.returns
returns c = record {
  survivors = others_survive;
  stay = survivors_stay;
  leavers = leavers_live;
  order = leavers_are_in_order;
}
