-- The legs of a group, made one after another.
use Rattle.std.proofs.Common.{◌≡◌, ℕ, ◌+◌, ◌<◌, ◌≤◌, List, [], ◌∷◌, ◌++◌, length, drop, get_or, ap, sym, ◌∙◌}
use Rattle.std.proofs.lemmas.List.{at_drop_more, at_drop_all, append_assoc, append-nil}
use Rattle.fs_orig.specs.declared.caller.Caller.{Caller}
use Rattle.fs_orig.specs.declared.leg.OrigLeg.{OrigLeg}
use Rattle.fs_orig.specs.declared.plan.LegPlan.{LegPlan}
use Rattle.fs_state.specs.Switch.{Switch}
use Rattle.fs_machine.specs.Originations.{MadeGroup, ComesTo, leg_made, group_made, with_first}

-- a group behind legs that were made before
abbrev pub behind : List OrigLeg → MadeGroup → MadeGroup
behind legs group = record { state = group.state; legs = legs ++ group.legs }

-- one leg more
pub group_there : (plans : List LegPlan) (seat : ℕ) (default : LegPlan) (legs : List OrigLeg) (leg : OrigLeg) (caller : Caller) (orig : ℕ)
    (s t : Switch) → seat < length plans → ComesTo (leg_made (get_or plans seat default) caller orig s) t leg →
    behind legs (group_made (drop seat plans) caller orig s)
    ≡ behind (legs ++ leg ∷ []) (group_made (drop (seat + 1) plans) caller orig t)
group_there plans seat default legs leg caller orig s t within is =
    at_drop_more (λ left. behind legs (group_made left caller orig s)) plans seat default within
    ∙ ap (λ made. behind legs (with_first made.leg (group_made (drop (seat + 1) plans) caller orig made.state))) is
    ∙ ap (λ all. record { state = rest.state; legs = all }) (sym (append_assoc legs (leg ∷ []) rest.legs))
  where
    rest : MadeGroup
    rest = group_made (drop (seat + 1) plans) caller orig t

pub group_done : (plans : List LegPlan) (seat : ℕ) (legs : List OrigLeg) (caller : Caller) (orig : ℕ) (s : Switch) → length plans ≤ seat →
    behind legs (group_made (drop seat plans) caller orig s) ≡ record { state = s; legs = legs }
group_done plans seat legs caller orig s past =
    at_drop_all (λ left. behind legs (group_made left caller orig s)) plans seat past
    ∙ ap (λ all. record { state = s; legs = all }) (append-nil legs)
