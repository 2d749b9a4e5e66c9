use Rattle.std.proofs.Common.{sym, ◌∙◌}
use Rattle.fs_dial.proofs.Whole.{read_is_spelt, spelt_is_read, same_dial}
use Rattle.fs_dial.proofs.laws.one_dial_string.Goals as goal

pub returns : goal.returns
returns c = record {
  read = read_is_spelt;
  spelt = spelt_is_read;
  one = λ text some other first second. same_dial some other (sym (spelt_is_read text some first) ∙ spelt_is_read text other second);
}
