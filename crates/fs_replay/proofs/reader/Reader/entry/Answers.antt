use Rattle.std.proofs.Common.{refl}
use Rattle.std.proofs.lemmas.Result.{err_from_is_err_and}
use Rattle.fs_replay.specs.Reading.{entry_at}
use Rattle.fs_replay.proofs.Mirrors.{act_fails}
use Rattle.fs_replay.proofs.reader.Reader.entry.Goals as goal

pub returns-in_default : goal.returns-in_default
unfolding entry_at
returns-in_default c = rw c.in_default.ensures refl

pub returns-in_default-field : goal.returns-in_default-field
unfolding entry_at
returns-in_default-field c = rw (c.in-Some.ensures, c.in_default-field.ensures) refl

pub returns-in_err-act : goal.returns-in_err-act
unfolding entry_at
returns-in_err-act c =
    let p = err_from_is_err_and c.from_residual.result c.from_residual.ensures.1 in
    rw (p.1, p.2, c.in-Some.ensures, c.in-Some-field.ensures) (act_fails c.in_err-act.field-0.0 _ _ _ _ c.in_err-act.ensures)

pub returns : goal.returns
unfolding entry_at
returns c = rw (c.in-Some.ensures, c.in-Some-field.ensures, c.in_ok-act.ensures) refl
