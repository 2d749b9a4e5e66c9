use Rattle.fs_chan.proofs.WorkLemmas.{is_to_come, has_come, stays_due, next_is_due}
use Rattle.fs_chan.proofs.work.due_law.Goals as goal

pub returns : goal.returns
returns c = record { to_come = is_to_come; has_come = has_come; stays = stays_due; next = next_is_due }
