use Rattle.std.proofs.Common.{refl}
use Rattle.fs_replay.specs.Reading.{close_at}
use Rattle.fs_replay.proofs.reader.Reader.close.Goals as goal

pub returns-in_err-conn : goal.returns-in_err-conn
unfolding close_at
returns-in_err-conn c = rw (c.from_residual.ensures, c.in_err-conn.ensures) refl

pub returns-in_err-how : goal.returns-in_err-how
unfolding close_at
returns-in_err-how c = rw (c.from_residual-in_err-how.ensures, c.in_ok-conn.ensures, c.in_err-how.ensures) refl

pub returns : goal.returns
unfolding close_at
returns c = rw (c.in_ok-conn.ensures, c.in_ok-how.ensures) refl
