use Rattle.std.proofs.Common.{refl}
use Rattle.fs_replay.specs.Reading.{conn_at}
use Rattle.fs_replay.proofs.Mirrors.{below_taken}
use Rattle.fs_replay.proofs.reader.Reader.conn.Goals as goal

pub returns-in_err-field : goal.returns-in_err-field
unfolding conn_at
returns-in_err-field c = rw (c.from_residual.ensures, c.in_err-field.ensures) refl

pub returns : goal.returns
unfolding conn_at
returns c = rw c.in_ok-field.ensures (below_taken c.try_from.result c.in_ok-field.field-0 _ c.field.new.self c.ok.result c.try_from.ensures c.ok.ensures.value)
