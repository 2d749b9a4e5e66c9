use Rattle.std.proofs.Common.{refl}
use Rattle.fs_replay.specs.Reading.{spot_at}
use Rattle.fs_replay.proofs.reader.Reader.spot.Goals as goal

pub returns-in_err-extension : goal.returns-in_err-extension
unfolding spot_at
returns-in_err-extension c = rw (c.from_residual.ensures, c.in_err-extension.ensures) refl

pub returns-in_err-condition : goal.returns-in_err-condition
unfolding spot_at
returns-in_err-condition c = rw (c.from_residual-in_err-condition.ensures, c.in_ok-extension.ensures, c.in_err-condition.ensures) refl

pub returns : goal.returns
unfolding spot_at
returns c = rw (c.in_ok-extension.ensures, c.in_ok-condition.ensures) refl
