use Rattle.std.proofs.Common.{refl}
use Rattle.fs_replay.specs.Reading.{dialed_at}
use Rattle.fs_replay.proofs.reader.Reader.dialed.Goals as goal

pub returns-in_err-slot : goal.returns-in_err-slot
unfolding dialed_at
returns-in_err-slot c = rw (c.from_residual.ensures, c.in_err-slot.ensures) refl

pub returns-in_err-linked : goal.returns-in_err-linked
unfolding dialed_at
returns-in_err-linked c = rw (c.from_residual-in_err-linked.ensures, c.in_ok-slot.ensures, c.in_err-linked.ensures) refl

pub returns : goal.returns
unfolding dialed_at
returns c = rw (c.in_ok-slot.ensures, c.in_ok-linked.ensures) refl
