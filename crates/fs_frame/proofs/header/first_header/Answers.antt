use Rattle.std.proofs.Common.{sym, ◌∙◌, ap}
use Rattle.std.specs.List.{cons_option}
use Rattle.fs_frame.specs.Lines.{lines_of}
use Rattle.fs_frame.specs.Headers.{headers_among}
use Rattle.fs_frame.proofs.HeaderLaws.{headers_among-first}
use Rattle.fs_frame.proofs.header.first_header.Goals as goal

pub returns-in-Some-header_of : goal.returns-in-Some-header_of
returns-in-Some-header_of c =
    sym c.loop-text.invariant
    ∙ headers_among-first c.loop-text.left.now (c.in-Some.text.now, c.in-Some.behind.now) (sym c.in-Some.ensures.parts)
    ∙ ap (λ found. cons_option found (headers_among (lines_of c.in-Some.behind.now))) (sym c.in-Some-header_of.ensures)

pub loop-text-preserved : goal.loop-text-preserved
loop-text-preserved c =
    ap (λ found. cons_option found (headers_among (lines_of c.in-Some.behind.now))) c.in_default-header_of.ensures
    ∙ sym (headers_among-first c.loop-text.left.now (c.in-Some.text.now, c.in-Some.behind.now) (sym c.in-Some.ensures.parts))
    ∙ c.loop-text.invariant
