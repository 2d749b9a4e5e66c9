use Rattle.std.proofs.Common.{sym, ◌∙◌}
use Rattle.std.proofs.lemmas.Bool.{eqb-true, eqb-false}
use Rattle.fs_frame.proofs.ScanLaws.{no_line, goes_on}
use Rattle.fs_frame.proofs.scan.next_line.Goals as goal

pub returns-then-is_empty : goal.returns-then-is_empty
returns-then-is_empty c =
    no_line c.args.bytes.now c.split_at.result.1.now _ c.line_end.ensures.offset c.split_at.ensures.back
    (eqb-true _ 0 (sym c.is_empty.ensures ∙ c.if-is_empty.true))

pub returns : goal.returns
returns c =
    goes_on c.args.bytes.now c.split_at.result.0.now c.split_at.result.1.now _ _ c.line_end.ensures.offset c.split_at.ensures.front
    c.split_at.ensures.back
    (eqb-false _ 0 (sym c.is_empty.ensures ∙ c.if-is_empty.false)) c.text_len.ensures.text c.text_len.ensures.within
