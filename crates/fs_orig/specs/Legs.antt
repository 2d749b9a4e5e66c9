-- What is read of the legs of an origination.
use Rattle.std.specs.Prelude.{ℕ, Bool, false, if◌then◌else◌, ◌==◌, ◌&&◌, min, max, List, Option, None, Some, is_none}
use Rattle.std.specs.List.{filter_map, list_any, last_or, position, reduce}
use Rattle.std.specs.Option.{option_and_then}
use Rattle.fs_text.specs.declared.causes.Cause.{Cause}
use Rattle.fs_orig.specs.declared.leg.OrigLeg.{OrigLeg}

-- it has not died
abbrev pub lives : OrigLeg → Bool
lives leg = is_none leg.died

-- a number that is there is this one
abbrev pub is_at : ℕ → Option ℕ → Bool
is_at n None = false
is_at n (Some m) = m == n

-- ---- who answered first

-- the place at which it answered, while it lives
abbrev pub answer_of : OrigLeg → Option ℕ
answer_of leg = if lives leg then leg.answered else None

-- the least place at which a living leg answered
abbrev pub first_answer : List OrigLeg → Option ℕ
first_answer legs = reduce min (filter_map answer_of legs)

-- the first position of a living leg that answered at that place
abbrev pub winner : List OrigLeg → Option ℕ
winner legs = option_and_then (λ place. position (λ leg. is_at place (answer_of leg)) legs) (first_answer legs)

-- ---- what the last one died of

-- the greatest place at which a leg died
abbrev pub last_death : List OrigLeg → Option ℕ
last_death legs = reduce max (filter_map (λ leg. leg.died) legs)

-- the cause of a leg that died at a place
abbrev pub cause_at : ℕ → OrigLeg → Option Cause
cause_at place leg = if is_at place leg.died then leg.cause else None

-- the cause of the last leg, in their order, that died at that place
abbrev pub last_cause : List OrigLeg → Option Cause
last_cause legs = option_and_then (λ place. last_or None (filter_map (cause_at place) legs)) (last_death legs)

-- ---- who lives

abbrev pub any_lives : List OrigLeg → Bool
any_lives legs = list_any lives legs

-- a living leg is the channel in this slot
abbrev pub lives_in : ℕ → OrigLeg → Bool
lives_in slot leg = lives leg && is_at slot leg.slot

-- the first position of such a leg
abbrev pub position_in : ℕ → List OrigLeg → Option ℕ
position_in slot legs = position (lives_in slot) legs

-- ---- where they live

-- the slot of a leg, if it lives
abbrev pub living_slot : OrigLeg → Option ℕ
living_slot leg = if lives leg then leg.slot else None

-- the slots of the legs that live
abbrev pub living_slots : List OrigLeg → List ℕ
living_slots legs = filter_map living_slot legs
