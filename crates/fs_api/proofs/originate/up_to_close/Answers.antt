use Rattle.std.proofs.Common.{sym, ap, unwrap_or, ◌∙◌}
use Rattle.fs_api.proofs.CloseLemmas.{closes_before, goes_on_before}
use Rattle.fs_api.proofs.originate.up_to_close.Goals as goal

-- src/originate.rt:136:13
pub returns-then-last-eq41 : goal.returns-then-last-eq41
returns-then-last-eq41 c =
    sym (ap (λ found. unwrap_or found c.args.text.now)
    (sym c.loop-left.invariant ∙ closes_before c.loop-left.left.now 0 c.in-len1-up.len_at_least c.if-last-eq41.true))

-- src/originate.rt:134:5
pub loop-left-preserved : goal.loop-left-preserved
loop-left-preserved c =
    sym (goes_on_before c.loop-left.left.now 0 c.in-len1-up.len_at_least c.if-last-eq41.false) ∙ c.loop-left.invariant
