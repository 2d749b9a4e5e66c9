use Rattle.std.proofs.Common.{refl, sym, ◌∙◌}
use Rattle.fs_session.proofs.WorkLemmas.{fails_for}
use Rattle.fs_session.proofs.working.submit_route.Goals as goal

pub returns-in-Err-Step-clause-tries : goal.returns-in-Err-Step-clause-tries
returns-in-Err-Step-clause-tries g c =
    let err = rw c.in-Err-Step.field-0-is at c.in-Err-Step.ensures.err in
    fails_for _ _ _ _ _ _ c.in-Err-Step.refusal refl c.in-Err-Step.ensures.later err.0 err.1.0
    (sym c.is_final.ensures ∙ c.if-is_final.true)
