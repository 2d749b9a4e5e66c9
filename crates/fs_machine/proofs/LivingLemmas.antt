-- Which legs of an origination live, by the verdict on it.
use Rattle.std.proofs.Common.{◌≡◌, ℕ, zero, suc, ◌+◌, Bool, true, false, ◌||◌, if◌then◌else◌, List, [], ◌∷◌, ◌++◌, take, drop, Option, None}
use Rattle.std.proofs.Common.{Some, slice_get, nat_le, inl, inr, refl, sym, ap, subst, ◌∙◌, arith, true≢false}
use Rattle.std.specs.List.{cons_option}
use Rattle.std.proofs.lemmas.Option.{none-some, same_Some}
use Rattle.fs_text.specs.declared.causes.Cause.{Cause}
use Rattle.fs_bridge.specs.Hangups.{IsOneOf}
use Rattle.fs_orig.specs.declared.leg.OrigLeg.{OrigLeg}
use Rattle.fs_orig.specs.declared.orig.Orig.{Orig}
use Rattle.fs_orig.specs.declared.plan.LegPlan.{LegPlan}
use Rattle.fs_orig.specs.declared.verdict.Verdict.TheVariants.{Wait, Failed, Expired}
use Rattle.fs_orig.specs.Legs.{lives, any_lives, living_slot, living_slots, last_cause, winner}
use Rattle.fs_orig.specs.Verdicts.{expired_leg, least_deadline, next_group, won_or, leg_expired_or, next_or_failed, verdict_of}
use Rattle.fs_machine.specs.Attempts.{others}

-- ---- who lives

-- it lives in its slot
pub lives_there : (leg : OrigLeg) (slot : ℕ) → lives leg ≡ true → leg.slot ≡ Some slot → living_slot leg ≡ Some slot
lives_there leg slot live is = ap (λ b. if b then leg.slot else None) live ∙ is

behind : (found : Option ℕ) (slot : ℕ) (slots : List ℕ) → IsOneOf slot slots → IsOneOf slot (cons_option found slots)
behind None slot slots is = is
behind (Some other) slot slots is = inr is

here : (found : Option ℕ) (slot : ℕ) (slots : List ℕ) → found ≡ Some slot → IsOneOf slot (cons_option found slots)
here None slot slots is = absurd (none-some slot is)
here (Some other) slot slots is = inl (sym (same_Some other slot is))

-- so its slot is one of the living ones
pub living_there : (legs : List OrigLeg) (position slot : ℕ) (leg : OrigLeg) → slice_get legs position ≡ Some leg →
    living_slot leg ≡ Some slot → IsOneOf slot (living_slots legs)
living_there [] position slot leg is lives = absurd (none-some leg is)
living_there (first ∷ legs) zero slot leg is lives =
    here (living_slot first) slot (living_slots legs) (ap living_slot (same_Some first leg is) ∙ lives)
living_there (first ∷ legs) (suc position) slot leg is lives =
    behind (living_slot first) slot (living_slots legs) (living_there legs position slot leg is lives)

others_more : (position : ℕ) (first : OrigLeg) (legs : List OrigLeg) → others (suc position) (first ∷ legs) ≡ first ∷ others position legs
others_more position first legs =
    let next : suc position + 1 ≡ suc (position + 1) = omega arith in
    ap (λ n. take (suc position) (first ∷ legs) ++ drop n (first ∷ legs)) next

-- also among those without another one
pub others_there : (legs : List OrigLeg) (position other slot : ℕ) (leg : OrigLeg) → slice_get legs other ≡ Some leg →
    living_slot leg ≡ Some slot → (other ≡ position → ⊥) → IsOneOf slot (living_slots (others position legs))
others_there [] position other slot leg is lives apart = absurd (none-some leg is)
others_there (first ∷ legs) zero zero slot leg is lives apart = absurd (apart refl)
others_there (first ∷ legs) zero (suc other) slot leg is lives apart = living_there legs other slot leg is lives
others_there (first ∷ legs) (suc position) zero slot leg is lives apart =
    subst (λ (all : List OrigLeg). IsOneOf slot (living_slots all)) (sym (others_more position first legs))
    (here (living_slot first) slot (living_slots (others position legs)) (ap living_slot (same_Some first leg is) ∙ lives))
others_there (first ∷ legs) (suc position) (suc other) slot leg is lives apart =
    subst (λ (all : List OrigLeg). IsOneOf slot (living_slots all)) (sym (others_more position first legs))
    (behind (living_slot first) slot (living_slots (others position legs))
    (others_there legs position other slot leg is lives (λ same. apart (ap suc same))))

-- where none lives, none does
pub none_lives : (legs : List OrigLeg) (position : ℕ) (leg : OrigLeg) → any_lives legs ≡ false → slice_get legs position ≡ Some leg →
    lives leg ≡ true → ⊥
none_lives [] position leg none is live = none-some leg is
none_lives (first ∷ legs) zero leg none is live =
    let first_lives : lives first ≡ true = ap lives (same_Some first leg is) ∙ live in
    true≢false (sym (ap (λ b. b || any_lives legs) first_lives) ∙ none)
none_lives (first ∷ legs) (suc position) leg none is live = none_lives legs position leg (behind_none (lives first) (any_lives legs) none) is live
  where
    behind_none : (a b : Bool) → (a || b) ≡ false → b ≡ false
    behind_none true b none = absurd (true≢false none)
    behind_none false b none = none

-- ---- verdicts

-- an origination that has failed has no living leg
pub failed_dead : (now : ℕ) (cause : Cause) (o : Orig) → verdict_of now o ≡ Failed cause → any_lives o.legs ≡ false
unfolding verdict_of
failed_dead now cause o is = by (winner o.legs) (nat_le o.deadline now) (expired_leg now o.legs) (any_lives o.legs) (next_group o) is
  where
    by : (won : Option ℕ) (over : Bool) (expired : Option ℕ) (alive : Bool) (next : Option (List LegPlan)) →
        won_or won
        (if over then Expired
        else leg_expired_or expired (if alive then Wait (least_deadline o) else next_or_failed next (last_cause o.legs))) ≡ Failed cause →
        alive ≡ false
    by (Some position) over expired alive next h = absurd (cc)
    by None true expired alive next h = absurd (cc)
    by None false (Some position) alive next h = absurd (cc)
    by None false None true next h = absurd (cc)
    by None false None false next h = refl
