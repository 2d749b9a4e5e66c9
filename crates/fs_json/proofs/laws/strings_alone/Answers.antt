use Rattle.fs_json.proofs.BackLemmas.{pairs_ascend}
use Rattle.fs_json.proofs.ReadLemmas.{what_is_read, pairs_are_read}
use Rattle.fs_json.proofs.laws.strings_alone.Goals as goal

pub returns : goal.returns
returns c = record {
  exact = λ text pairs. (what_is_read text pairs, λ is. pairs_are_read text pairs is.0 is.1);
  ascend = pairs_ascend;
}
