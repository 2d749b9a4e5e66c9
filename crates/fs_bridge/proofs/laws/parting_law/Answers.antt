use Rattle.fs_bridge.proofs.PartedLemmas.{parted_are_left, parted_are_in_order, others_end_of_the_first, ends_with_a_leg_or_leaver, none_ends_twice}
use Rattle.fs_bridge.proofs.laws.parting_law.Goals as goal

pub returns : goal.returns
returns c = record {
  parted = parted_are_left;
  order = parted_are_in_order;
  others = others_end_of_the_first;
  ends = ends_with_a_leg_or_leaver;
  once = none_ends_twice;
}
