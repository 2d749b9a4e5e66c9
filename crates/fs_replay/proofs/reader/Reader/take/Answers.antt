use Rattle.std.proofs.Common.{refl}
use Rattle.fs_replay.specs.Reading.{taken_at}
use Rattle.fs_replay.proofs.reader.Reader.take.Goals as goal

pub returns-in_err-conn : goal.returns-in_err-conn
unfolding taken_at
returns-in_err-conn c = rw (c.from_residual.ensures, c.in_err-conn.ensures) refl

pub returns : goal.returns
unfolding taken_at
returns c = rw c.in_ok-conn.ensures c.ended.ensures
