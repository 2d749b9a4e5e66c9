use Rattle.std.proofs.Common.{sym, ◌∙◌, ap}
use Rattle.std.proofs.lemmas.Result.{err_from_is_err_and}
use Rattle.fs_replay.specs.Texts.{first_line}
use Rattle.fs_replay.specs.Reading.{begins}
use Rattle.fs_replay.proofs.Faulty.{first_is_bad, only_memory}
use Rattle.fs_replay.proofs.Lines.{one_journal}
use Rattle.fs_replay.proofs.reading.read_journal.Goals as goal

pub returns-then-not-word : goal.returns-then-not-word
returns-then-not-word c =
    let other = sym (c.if-not-word.ensures.found ∙ ap (begins first_line) c.of-reader.ensures) in
    let bad = first_is_bad c.args.bytes.now other in
    rw c.bad_line.ensures (record { ok = tt; bad = bad; only = λ entries fit is. only_memory _ _ entries bad fit is })

pub returns-in_err-journal : goal.returns-in_err-journal
returns-in_err-journal c =
    let p = err_from_is_err_and c.from_residual.result c.from_residual.ensures.1 in
    let bad = c.in_err-journal.ensures.bad in
    rw (p.1, p.2) (record { ok = tt; bad = bad; only = λ entries fit is. only_memory _ _ entries bad fit is })

pub returns-in_err-read_last : goal.returns-in_err-read_last
returns-in_err-read_last c =
    let p = err_from_is_err_and c.from_residual-in_err-read_last.result c.from_residual-in_err-read_last.ensures.1 in
    let bad = c.in_err-read_last.ensures.bad in
    rw (p.1, p.2) (record { ok = tt; bad = bad; only = λ entries fit is. only_memory _ _ entries bad fit is })

pub returns : goal.returns
returns c =
    let whole = c.in_ok-read_last.ensures.whole in
    record { ok = whole; bad = tt; only = λ entries fit is. one_journal _ entries c.in_ok-journal.ensures.front.fit fit (sym whole ∙ is) }
