use Rattle.fs_bridge.proofs.DragLemmas.{each_is_named_or_dragged}
use Rattle.fs_bridge.proofs.OnceLemmas.{nobody_twice}
use Rattle.fs_bridge.proofs.SettledLemmas.{each_dragged_hangs_up}
use Rattle.fs_bridge.proofs.SurvivorLemmas.{rounds_are_members, no_survivor_hangs_up}
use Rattle.fs_bridge.proofs.laws.closure_law.Goals as goal

pub returns : goal.returns
returns c = record {
  each = each_is_named_or_dragged;
  dragged = each_dragged_hangs_up;
  once = nobody_twice;
  members = rounds_are_members;
  survivors = no_survivor_hangs_up;
}
