use Rattle.fs_state.proofs.QueueOrder.{queue_sound, waits_in_one}
use Rattle.fs_state.proofs.queues.queues_law.Goals as goal

pub returns : goal.returns
returns c = record { sound = queue_sound; one = waits_in_one }
