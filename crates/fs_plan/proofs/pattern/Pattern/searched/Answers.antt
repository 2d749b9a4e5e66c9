use Rattle.std.proofs.Common.{arith, rules}
use Rattle.fs_plan.proofs.MatchLemmas.{plain_tested, none_tested, some_tested}
use Rattle.fs_plan.proofs.pattern.Pattern.searched.Goals as goal

pub returns-then-captures_len-lt2 : goal.returns-then-captures_len-lt2
returns-then-captures_len-lt2 c =
    rw (← c.self.view_is) (plain_tested _ _ c.self.inside.regex _ c.self.invariant.0 (λ k. search (rules, c.type_inv.value k))
    (omega (arith, c.captures_len.ensures.names)) (rw c.in_ok-matcher.ensures.pattern at c.is_match-holds.ensures.found))

pub returns-in-Some : goal.returns-in-Some
returns-in-Some c =
    let found = c.in-Some.ensures.found in
    rw (← c.self.view_is) (some_tested _ _ c.self.inside.regex c.in-Some.captures _ c.self.invariant.0
    (λ k. search (rules, c.type_inv.value k))
    (omega (arith, c.captures_len.ensures.names)) found.0
    (rw c.in_ok-matcher.ensures.pattern at found.1) found.2 c.in_ok-groups-in-Some.ensures)

pub returns : goal.returns
returns c =
    rw (← c.self.view_is) (none_tested _ _ c.self.inside.regex c.self.invariant.0 (λ k. search (rules, c.type_inv.value k))
    (rw c.in_ok-matcher.ensures.pattern at c.in-None.ensures.found))
