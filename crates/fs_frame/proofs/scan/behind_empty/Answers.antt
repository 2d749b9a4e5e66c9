use Rattle.std.proofs.Common.{◌∙◌}
use Rattle.std.proofs.lemmas.List.{take_rest}
use Rattle.fs_frame.proofs.CommandLaws.{behind_end-text, behind_end-empty, behind_end-none}
use Rattle.fs_frame.proofs.scan.behind_empty.Goals as goal

pub returns-then-line-eq0 : goal.returns-then-line-eq0
returns-then-line-eq0 c =
    rw (take_rest c.loop-line.left.now c.in-Some.line.len)
    (behind_end-empty c.loop-line.left.now _ _ c.in-Some.ensures c.if-line-eq0.true ∙ c.loop-line.invariant)

pub loop-line-preserved : goal.loop-line-preserved
loop-line-preserved c =
    rw (take_rest c.loop-line.left.now c.in-Some.line.len)
    (behind_end-text c.loop-line.left.now _ _ c.in-Some.ensures c.if-line-eq0.false ∙ c.loop-line.invariant)

pub returns : goal.returns
returns c = behind_end-none c.loop-line.left.now c.in_default.ensures ∙ c.loop-line.invariant
