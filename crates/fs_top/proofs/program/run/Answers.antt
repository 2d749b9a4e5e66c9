use Rattle.std.proofs.Common.{sym, ◌∙◌}
use Rattle.fs_top.proofs.RunLaws.{ran}
use Rattle.fs_top.proofs.CauseLaws.{cause_document, cause_unreadable, cause_write, cause_full, cause_away, cause_bad_block}
use Rattle.fs_top.proofs.CompleteLaws.{complete}
use Rattle.fs_top.proofs.program.run.Goals as goal

pub returns-clause-told : goal.returns-clause-told
returns-clause-told g c = ran _ _ _ _ _ _ _ _ _ _ _ _ c.conduct-outcome.ensures c.say.ensures c.status.ensures

pub returns-clause-document : goal.returns-clause-document
returns-clause-document g c = λ three. cause_document _ _ _ _ _ _ _ _ c.conduct-outcome.ensures (sym c.status.ensures ∙ three)

pub returns-clause-unreadable : goal.returns-clause-unreadable
returns-clause-unreadable g c = λ four. cause_unreadable _ _ _ _ _ _ _ _ c.conduct-outcome.ensures (sym c.status.ensures ∙ four)

pub returns-clause-write_fault : goal.returns-clause-write_fault
returns-clause-write_fault g c = λ five. cause_write _ _ _ _ _ _ _ _ c.conduct-outcome.ensures (sym c.status.ensures ∙ five)

pub returns-clause-full : goal.returns-clause-full
returns-clause-full g c = λ eight. cause_full _ _ _ _ _ _ _ _ c.conduct-outcome.ensures (sym c.status.ensures ∙ eight)

pub returns-clause-runaway : goal.returns-clause-runaway
returns-clause-runaway g c = λ nine. cause_away _ _ _ _ _ _ _ _ c.conduct-outcome.ensures (sym c.status.ensures ∙ nine)

pub returns-clause-bad_block : goal.returns-clause-bad_block
returns-clause-bad_block g c = λ ten. cause_bad_block _ _ _ _ _ _ _ _ c.conduct-outcome.ensures (sym c.status.ensures ∙ ten)

pub returns-clause-complete : goal.returns-clause-complete
returns-clause-complete g c =
    λ asked config given rose.
    complete _ _ _ _ _ _ _ _ _ _ (ran _ _ _ _ _ _ _ _ _ _ _ _ c.conduct-outcome.ensures c.say.ensures c.status.ensures) asked
    config given rose
