use Rattle.std.proofs.Common.{sym, ◌∙◌}
use Rattle.fs_frame.proofs.HeaderLaws.{up_to_last-blank, up_to_last-other}
use Rattle.fs_frame.proofs.header.up_to_last.Goals as goal

pub returns-then-not-is_blank : goal.returns-then-not-is_blank
returns-then-not-is_blank c =
    up_to_last-other c.loop-left.left.now (λ _. sym c.is_blank.ensures ∙ c.if-not-is_blank.true) ∙ c.loop-left.invariant

pub loop-left-preserved : goal.loop-left-preserved
loop-left-preserved c =
    up_to_last-blank c.loop-left.left.now c.in-len1-up.len_at_least (sym c.is_blank.ensures ∙ c.if-not-is_blank.false)
    ∙ c.loop-left.invariant
