use Rattle.fs_filter.proofs.SetLemmas.{name_is_added, name_is_taken, subclass_is_added, subclass_is_taken, all_are_taken}
use Rattle.fs_filter.proofs.laws.subscriptions_are_sets.Goals as goal

pub returns : goal.returns
returns c = record {
  name_added = name_is_added;
  name_taken = name_is_taken;
  subclass_added = subclass_is_added;
  subclass_taken = subclass_is_taken;
  all_taken = all_are_taken;
}
