use Rattle.std.proofs.Common.{sym}
use Rattle.std.proofs.lemmas.List.{take_rest}
use Rattle.fs_frame.proofs.HeaderLaws.{first_of-none, first_of-empty, first_of-text}
use Rattle.fs_frame.proofs.header.first_text.Goals as goal

pub returns-in_err-line-clause-parts : goal.returns-in_err-line-clause-parts
returns-in_err-line-clause-parts c = rw c.from_residual.ensures (sym (first_of-none c.args.lines.now c.in_err-line.ensures))

pub returns-then-line-eq0-clause-parts : goal.returns-then-line-eq0-clause-parts
returns-then-line-eq0-clause-parts c =
    sym (first_of-empty c.args.lines.now c.in_ok-line.line.text_len c.in_ok-line.line.len c.in_ok-line.ensures c.if-line-eq0.true)

pub returns-clause-parts : goal.returns-clause-parts
returns-clause-parts c =
    rw (take_rest c.args.lines.now c.in_ok-line.line.len)
    (sym (first_of-text c.args.lines.now c.in_ok-line.line.text_len c.in_ok-line.line.len c.in_ok-line.ensures c.if-line-eq0.false))
