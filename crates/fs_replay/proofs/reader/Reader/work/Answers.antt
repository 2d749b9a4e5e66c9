use Rattle.std.proofs.Common.{refl}
use Rattle.fs_replay.specs.Reading.{work_at}
use Rattle.fs_replay.proofs.reader.Reader.work.Goals as goal

pub returns-in_err-slot : goal.returns-in_err-slot
unfolding work_at
returns-in_err-slot c = rw (c.from_residual.ensures, c.in_err-slot.ensures) refl

pub returns : goal.returns
unfolding work_at
returns c = rw c.in_ok-slot.ensures c.ended.ensures
