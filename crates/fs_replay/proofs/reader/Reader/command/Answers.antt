use Rattle.std.proofs.Common.{refl}
use Rattle.std.proofs.lemmas.Result.{err_from_is_err_and}
use Rattle.fs_replay.specs.Reading.{command_at}
use Rattle.fs_replay.proofs.Mirrors.{block_fails}
use Rattle.fs_replay.proofs.reader.Reader.command.Goals as goal

pub returns-in_default : goal.returns-in_default
unfolding command_at
returns-in_default c = rw c.in_default.ensures refl

pub returns-in_err-block : goal.returns-in_err-block
unfolding command_at
returns-in_err-block c =
    let p = err_from_is_err_and c.from_residual.result c.from_residual.ensures.1 in
    rw (p.1, p.2, c.in-Some.ensures) (block_fails c.in_err-block.field-0.0 _ _ _ _ c.in_err-block.ensures)

pub returns : goal.returns
unfolding command_at
returns c = rw (c.in-Some.ensures, c.in_ok-block.ensures) refl
