use Rattle.fs_event.proofs.ReleaseLemmas.{one_is_released, others_are_held, numbers_stay_below}
use Rattle.fs_event.proofs.laws.released_law.Goals as goal

pub returns : goal.returns
returns g c = record { one = one_is_released; others = others_are_held; below = numbers_stay_below }
