use Rattle.fs_fifo.proofs.LawLemmas.{queues_are_ordered, first_is_taken, least_is_taken, entered_is_placed, left_is_gone}
use Rattle.fs_fifo.proofs.LawLemmas.{one_goes, others_stay, nobody_changes_nothing}
use Rattle.fs_fifo.proofs.laws.queues_law.Goals as goal

pub returns : goal.returns
returns c = record {
  order = queues_are_ordered;
  first = first_is_taken;
  least = least_is_taken;
  placed = entered_is_placed;
  gone = left_is_gone;
  alone = one_goes;
  others = others_stay;
  nobody = nobody_changes_nothing;
}
