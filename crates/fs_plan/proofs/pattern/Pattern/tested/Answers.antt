use Rattle.std.proofs.Common.{◌∙◌, sym, arith}
use Rattle.fs_plan.proofs.MatchLemmas.{missing_told, found_told}
use Rattle.fs_plan.proofs.pattern.Pattern.tested.Goals as goal

pub returns-in-Some-false : goal.returns-in-Some-false
returns-in-Some-false c =
    c.plain-in-Some-false.ensures
    ∙ rw (← c.self.view_is) (missing_told _ _ c.self.inside.regex c.self.inside.lead c.self.invariant.0 c.self.invariant.1
    (λ re is. sym c.in-Some-false.field-0-test ∙ c.in-Some-false.ensures re is))

pub returns-in-Some-true : goal.returns-in-Some-true
returns-in-Some-true c =
    c.plain.ensures
    ∙ rw (← c.self.view_is) (found_told _ _ c.self.inside.regex c.self.inside.lead c.self.invariant.0 c.self.invariant.1
    (omega (arith, c.captures_len.ensures.names)) (λ re is. sym c.in-Some-true.field-0-test ∙ c.in-Some-true.ensures re is))
