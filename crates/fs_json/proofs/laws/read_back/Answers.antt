use Rattle.fs_json.proofs.BackLemmas.{json_is_read}
use Rattle.fs_json.proofs.OrderLemmas.{each_once, by_name_is_in_order}
use Rattle.fs_json.proofs.laws.read_back.Goals as goal

pub returns : goal.returns
returns c = record {
  json = json_is_read;
  each_once = each_once;
  ascend = by_name_is_in_order;
}
