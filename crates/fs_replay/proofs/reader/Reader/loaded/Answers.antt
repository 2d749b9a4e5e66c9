use Rattle.std.proofs.Common.{refl}
use Rattle.std.proofs.lemmas.Result.{err_from_is_err_and}
use Rattle.fs_replay.specs.Reading.{loaded_at}
use Rattle.fs_replay.proofs.Mirrors.{note_fails}
use Rattle.fs_replay.proofs.reader.Reader.loaded.Goals as goal

pub returns-in_default : goal.returns-in_default
unfolding loaded_at
returns-in_default c = rw c.in_default.ensures refl

pub returns-in_err-note : goal.returns-in_err-note
unfolding loaded_at
returns-in_err-note c =
    let p = err_from_is_err_and c.from_residual.result c.from_residual.ensures.1 in
    rw (p.1, p.2, c.in-Some.ensures) (note_fails c.in_err-note.field-0.0 _ _ _ _ c.in_err-note.ensures)

pub returns : goal.returns
unfolding loaded_at
returns c = rw (c.in-Some.ensures, c.in_ok-note.ensures) refl
