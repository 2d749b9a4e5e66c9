-- The slots of the legs that live, looked at one after another.
use Rattle.std.proofs.Common.{◌≡◌, ℕ, ◌+◌, ◌<◌, ◌≤◌, List, [], ◌∷◌, length, drop, get_or, Option, None, Some, refl, ap, ◌∙◌}
use Rattle.std.proofs.lemmas.List.{at_drop_more, at_drop_all}
use Rattle.fs_orig.specs.declared.leg.OrigLeg.{OrigLeg}
use Rattle.fs_orig.specs.Legs.{living_slot, living_slots}

-- a slot in front of others, if there is one
abbrev in_front : Option ℕ → List ℕ → List ℕ
in_front None slots = slots
in_front (Some slot) slots = slot ∷ slots

one_more : (leg : OrigLeg) (legs : List OrigLeg) → living_slots (leg ∷ legs) ≡ in_front (living_slot leg) (living_slots legs)
one_more leg legs = on (living_slot leg)
  where
    on : (slot : Option ℕ) → in_front slot (living_slots legs) ≡ in_front slot (living_slots legs)
    on slot = refl

-- the leg at a place is in a slot, or not
pub living_there : (legs : List OrigLeg) (place : ℕ) (default : OrigLeg) (slot : ℕ) → place < length legs →
    living_slot (get_or legs place default) ≡ Some slot →
    living_slots (drop place legs) ≡ slot ∷ living_slots (drop (place + 1) legs)
living_there legs place default slot within e =
    at_drop_more living_slots legs place default within
    ∙ one_more (get_or legs place default) (drop (place + 1) legs)
    ∙ ap (λ found. in_front found (living_slots (drop (place + 1) legs))) e

pub living_elsewhere : (legs : List OrigLeg) (place : ℕ) (default : OrigLeg) → place < length legs →
    living_slot (get_or legs place default) ≡ None →
    living_slots (drop place legs) ≡ living_slots (drop (place + 1) legs)
living_elsewhere legs place default within e =
    at_drop_more living_slots legs place default within
    ∙ one_more (get_or legs place default) (drop (place + 1) legs)
    ∙ ap (λ found. in_front found (living_slots (drop (place + 1) legs))) e

pub living_done : (legs : List OrigLeg) (place : ℕ) → length legs ≤ place → living_slots (drop place legs) ≡ []
living_done legs place past = at_drop_all living_slots legs place past

-- the slots of those that live, a leg after another
pub ruleset living_rules = (living_there, living_elsewhere, living_done)
