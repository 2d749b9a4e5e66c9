use Rattle.std.proofs.Common.{refl, ◌∙◌, ap}
use Rattle.std.proofs.lemmas.Result.{err_from_is_err_and}
use Rattle.fs_replay.specs.Reading.{of_notice}
use Rattle.fs_replay.proofs.Mirrors.{note_absent, note_failed, note_of_text, text_fails}
use Rattle.fs_replay.proofs.reader.Reader.note.Goals as goal

pub returns-then-word : goal.returns-then-word
returns-then-word c = note_absent _ _ c.if-word.ensures.found c.if-word.ensures.left

pub returns-then-word-2 : goal.returns-then-word-2
returns-then-word-2 c = note_failed _ _ _ c.if-word.ensures.found c.if-word.ensures.left c.if-word-2.ensures.found c.if-word-2.ensures.left

pub returns-in_default : goal.returns-in_default
returns-in_default c =
    note_of_text _ _ _ c.if-word.ensures.found c.if-word.ensures.left c.if-word-2.ensures.found c.if-word-2.ensures.left
    ∙ ap of_notice c.in_default.ensures

pub returns-in_err-text : goal.returns-in_err-text
returns-in_err-text c =
    let p = err_from_is_err_and c.from_residual.result c.from_residual.ensures.1 in
    let read = note_of_text _ _ _ c.if-word.ensures.found c.if-word.ensures.left c.if-word-2.ensures.found c.if-word-2.ensures.left in
    rw (p.1, p.2, read, c.in-Some.ensures) (text_fails c.in_err-text.field-0.0 _ _ _ _ c.in_err-text.ensures)

pub returns : goal.returns
returns c =
    let read = note_of_text _ _ _ c.if-word.ensures.found c.if-word.ensures.left c.if-word-2.ensures.found c.if-word-2.ensures.left in
    rw (read, c.in-Some.ensures, c.in_ok-text.ensures, c.of.ensures) refl
