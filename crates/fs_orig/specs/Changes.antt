-- What each change makes of an origination.
use Rattle.std.specs.Prelude.{ℕ, ◌+◌, Bool, false, not, ◌&&◌, if◌then◌else◌, List, [], Option, None, Some, is_none, is_some, slice_get}
use Rattle.std.specs.Prelude.{slice_set}
use Rattle.fs_text.specs.declared.causes.Cause.{Cause}
use Rattle.fs_orig.specs.declared.leg.OrigLeg.{OrigLeg}
use Rattle.fs_orig.specs.declared.orig.Orig.{Orig}
use Rattle.fs_orig.specs.declared.orig.Owner.{Owner}
use Rattle.fs_orig.specs.declared.plan.LegPlan.{LegPlan}
use Rattle.fs_orig.specs.Legs.{lives, any_lives}
use Rattle.fs_orig.specs.Verdicts.{next_group}

-- ---- a leg

-- alive in a slot, and not answered
abbrev pub ringing : ℕ → List ℕ → Option ℕ → OrigLeg
ringing slot uuid deadline = record {
  slot = Some slot;
  uuid = uuid;
  deadline = deadline;
  answered = None;
  died = None;
  cause = None;
}

-- dead as it was made, by the entry at a place
abbrev pub unmade : ℕ → Cause → OrigLeg
unmade place cause = record {
  slot = None;
  uuid = [];
  deadline = None;
  answered = None;
  died = Some place;
  cause = Some cause;
}

-- it lives and has not answered
abbrev pub rings : OrigLeg → Bool
rings leg = lives leg && is_none leg.answered

-- answered at a place, where it rang
abbrev pub with_leg_answer : ℕ → OrigLeg → OrigLeg
with_leg_answer place leg = if rings leg then record leg { answered = Some place } else leg

-- dead since a place, where it lived; what died keeps its place and its cause
abbrev pub with_leg_death : ℕ → Cause → OrigLeg → OrigLeg
with_leg_death place cause leg = if lives leg then record leg { died = Some place; cause = Some cause } else leg

-- ---- one leg of several

-- whether there is such a leg at a position
abbrev pub is_so_at : (OrigLeg → Bool) → Option OrigLeg → Bool
is_so_at test None = false
is_so_at test (Some leg) = test leg

-- the legs with the one at a position changed, if it is there
abbrev pub with_leg : (OrigLeg → OrigLeg) → ℕ → Option OrigLeg → List OrigLeg → List OrigLeg
with_leg change position None legs = legs
with_leg change position (Some leg) legs = slice_set legs position (change leg)

abbrev pub with_changed_leg : (OrigLeg → OrigLeg) → ℕ → List OrigLeg → List OrigLeg
with_changed_leg change position legs = with_leg change position (slice_get legs position) legs

-- ---- an origination

-- at its first group, of which these are the legs
abbrev pub new_orig : Owner → List (List LegPlan) → List OrigLeg → ℕ → Orig
new_orig owner groups legs deadline = record { owner = owner; groups = groups; current = 0; legs = legs; deadline = deadline }

abbrev pub with_answer : ℕ → ℕ → Orig → Orig
with_answer position place o = record o { legs = with_changed_leg (with_leg_answer place) position o.legs }

abbrev pub with_death : ℕ → ℕ → Cause → Orig → Orig
with_death position place cause o = record o { legs = with_changed_leg (with_leg_death place cause) position o.legs }

-- all legs of its group died, and there is another group
abbrev pub may_enter_next : Orig → Bool
may_enter_next o = not (any_lives o.legs) && is_some (next_group o)

-- at the next group, of which these are the legs, where it may go on
abbrev pub at_next_group : List OrigLeg → Orig → Orig
at_next_group legs o = if may_enter_next o then record o { current = o.current + 1; legs = legs } else o
