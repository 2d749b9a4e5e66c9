-- The walk through what comes of an origination, whoever tries it.
use Rattle.std.proofs.Common.{◌≡◌, ℕ, Bool, true, false, if◌then◌else◌, List, [], ◌∷◌, slice_get, Option, None, Some, option_map, unwrap_or}
use Rattle.std.proofs.Common.{option_and_then, ◌⊎◌, inl, inr, refl, sym, ap, subst, ◌∙◌}
use Rattle.std.proofs.lemmas.Bool.{cases_eq}
use Rattle.std.proofs.lemmas.Option.{none-some, same_Some}
use Rattle.fs_text.specs.declared.causes.Cause.{Cause}
use Rattle.fs_text.specs.declared.causes.Cause.TheVariants.{NoAnswer, LoseRace}
use Rattle.std.specs.Prelude.{map}
use Rattle.fs_bridge.specs.Closure.{Members}
use Rattle.fs_chan.specs.declared.chan.Chan.{Chan}
use Rattle.fs_chan.specs.Changes.{is_live}
use Rattle.fs_orig.specs.declared.leg.OrigLeg.{OrigLeg}
use Rattle.fs_orig.specs.declared.orig.Orig.{Orig}
use Rattle.fs_orig.specs.declared.plan.LegPlan.{LegPlan}
use Rattle.fs_orig.specs.declared.verdict.Verdict.{Verdict}
use Rattle.fs_orig.specs.declared.verdict.Verdict.TheVariants as verdict
use Rattle.fs_orig.specs.Changes.{may_enter_next}
use Rattle.fs_orig.specs.Legs.{any_lives, living_slot, living_slots}
use Rattle.fs_orig.specs.Verdicts.{next_group, verdict_of}
use Rattle.fs_orig.proofs.VerdictLemmas.{next_may_be_entered, winner_lives}
use Rattle.fs_state.specs.Switch.{Switch, chan_at, orig_of}
use Rattle.fs_state.specs.Moves.{for_slot}
use Rattle.fs_state.specs.Hangups.{lives, lives_at, after_hangups, after_hangup}
use Rattle.fs_machine.specs.declared.attempts.Attempt.{Attempt}
use Rattle.fs_machine.specs.declared.attempts.WonLeg.{WonLeg}
use Rattle.fs_machine.specs.Attempts.{failed_for, won_in, won_leg, won_for, group_for, with_group, others, death_of, after_race_by, after_winning_at}
use Rattle.fs_machine.specs.Attempts.{after_leg_expiry, after_next_group, after_verdict, after_verdict_from, after_verdict_on}
use Rattle.fs_machine.specs.Sound.{HasLeg}
use Rattle.fs_machine.proofs.Kept.{Fact, KeptByCalls, raced, HasWon, IsOver, won_of}
use Rattle.fs_machine.proofs.CameLemmas.{CameFrom, came_self, came_hung}
use Rattle.fs_machine.proofs.CutLemmas.{slots_die}
use Rattle.fs_machine.proofs.LivingLemmas.{lives_there, living_there, others_there, none_lives, failed_dead}

-- ---- what is left of an origination

-- where each leg that lived is dead, it is over
over_by : (before : Switch) (orig : ℕ) (named : Members) →
    ((leg : OrigLeg) (slot : ℕ) → HasLeg before orig leg → leg.slot ≡ Some slot → lives_at (after_hangups named before) slot ≡ false) →
    IsOver before (after_hangups named before) orig
over_by before orig named dead = record {
  from = inr (named, refl);
  named = λ slot c there names.
      let from : CameFrom before slot c = came_hung named before before (came_self before) slot c there in
      (from.was, from.there, from.less.names orig names);
  dead = dead;
}

over_now : (before : Switch) (orig : ℕ) (o : Orig) → orig_of before orig ≡ Some o → any_lives o.legs ≡ false → IsOver before before orig
over_now before orig o there none = record {
  from = inl refl;
  named = λ slot c is names. (c, is, names);
  dead = λ leg slot has is.
      let same : has.orig ≡ o = same_Some has.orig o (sym has.there ∙ there) in
      absurd (none_lives o.legs has.position leg none (ap (λ (x : Orig). slice_get x.legs has.position) (sym same) ∙ has.at) has.lives);
}

over_expired : (before : Switch) (orig : ℕ) (o : Orig) (cause : Cause) → orig_of before orig ≡ Some o →
    IsOver before (after_hangups (map (λ slot. (slot, cause)) (living_slots o.legs)) before) orig
over_expired before orig o cause there =
    over_by before orig (map (λ slot. (slot, cause)) (living_slots o.legs))
    (λ leg slot has is.
    let same : has.orig ≡ o = same_Some has.orig o (sym has.there ∙ there) in
    slots_die cause (living_slots o.legs) before slot
    (living_there o.legs has.position slot leg (ap (λ (x : Orig). slice_get x.legs has.position) (sym same) ∙ has.at)
    (lives_there leg slot has.lives is)))

-- the others lose the race
abbrev pub OthersLose : (before : Switch) (orig : ℕ) (leg : OrigLeg) → HasLeg before orig leg → List ℕ → Type 0
OthersLose before orig leg has slots =
    (other : OrigLeg) (slot : ℕ) (one : HasLeg before orig other) → other.slot ≡ Some slot →
    (one.position ≡ has.position) ⊎ (lives_at (raced slots before) slot ≡ false)

pub others_lose : (before : Switch) (orig : ℕ) (leg : OrigLeg) (has : HasLeg before orig leg) →
    OthersLose before orig leg has (living_slots (others has.position has.orig.legs))
others_lose before orig leg has other slot one is = by (cases_eq one.position has.position)
  where
    same : one.orig ≡ has.orig
    same = same_Some one.orig has.orig (sym one.there ∙ has.there)

    by : (one.position ≡ has.position) ⊎ (one.position ≡ has.position → ⊥) →
        (one.position ≡ has.position)
        ⊎ (lives_at (raced (living_slots (others has.position has.orig.legs)) before) slot ≡ false)
    by (inl here) = inl here
    by (inr apart) =
        inr
        (slots_die LoseRace (living_slots (others has.position has.orig.legs)) before slot
        (others_there has.orig.legs has.position one.position slot other
        (ap (λ (x : Orig). slice_get x.legs one.position) (sym same) ∙ one.at) (lives_there other slot one.lives is) apart))

-- one that died as they lost leaves none
dead_by : (found : Option Chan) (cause : Cause) → death_of found ≡ Some cause → lives found ≡ false
dead_by None cause is = absurd (none-some cause is)
dead_by (Some c) cause is = by (is_live c) is
  where
    by : (test : Bool) → (if test then None else c.cause) ≡ Some cause → test ≡ false
    by true none = absurd (none-some cause none)
    by false died = refl

over_raced : (before : Switch) (orig : ℕ) (leg : OrigLeg) (has : HasLeg before orig leg) (slots : List ℕ) (cause : Cause) →
    OthersLose before orig leg has slots → death_of (chan_at (raced slots before) (unwrap_or leg.slot 0)) ≡ Some cause →
    IsOver before (raced slots before) orig
over_raced before orig leg has slots cause lose dies =
    over_by before orig (map (λ slot. (slot, LoseRace)) slots) (λ other slot one is. by other slot one is (lose other slot one is))
  where
    by : (other : OrigLeg) (slot : ℕ) (one : HasLeg before orig other) → other.slot ≡ Some slot →
        (one.position ≡ has.position) ⊎ (lives_at (raced slots before) slot ≡ false) → lives_at (raced slots before) slot ≡ false
    by other slot one is (inr dead) = dead
    by other slot one is (inl here) =
        let same : one.orig ≡ has.orig = same_Some one.orig has.orig (sym one.there ∙ has.there) in
        let it : other ≡ leg =
        same_Some other leg
        (sym one.at ∙ (ap (λ (x : Orig). slice_get x.legs one.position) same ∙ (ap (slice_get has.orig.legs) here ∙ has.at))) in
        let at : unwrap_or leg.slot 0 ≡ slot =
        ap (λ (found : Option ℕ). unwrap_or found 0) (ap (λ (x : OrigLeg). x.slot) (sym it) ∙ is) in
        ap (lives_at (raced slots before)) (sym at) ∙ dead_by (chan_at (raced slots before) (unwrap_or leg.slot 0)) cause dies

-- ---- the walk

-- whoever tries it can be told that it has failed, behind each hangup, and that it was won
module _ (before : Switch) (P : Fact) (calls : KeptByCalls P) (a : Attempt) (CanBeTold : Switch → Type 0)
    (still : (named : Members) → CanBeTold before → CanBeTold (after_hangups named before))
    (fails : (cause : Cause) (s : Switch) → CanBeTold s → IsOver before s a.orig → P (Some 0) s →
    P (Some 0) (failed_for a.party a.orig cause s))
    (wins : (leg : OrigLeg) (slots : List ℕ) → CanBeTold (raced slots before) → HasWon before a.orig leg slots →
    P (Some 0) (raced slots before) → P (Some 0) (won_for a.party a.orig (won_of leg) (raced slots before)))
    (regroups : (o : Orig) (group : List LegPlan) → orig_of before a.orig ≡ Some o → next_group o ≡ Some group → may_enter_next o ≡ true →
    P (Some 0) before →
    P (Some 0) (with_group a.orig (group_for a.party group a.orig before))) where
  -- a leg that lives wins, or dies as the others lose
  race_kept : (leg : OrigLeg) (slots : List ℕ) → CanBeTold before → (has : HasLeg before a.orig leg) →
      OthersLose before a.orig leg has slots → P None before → P (Some 0) before →
      (died : Option Cause) → death_of (chan_at (raced slots before) (unwrap_or leg.slot 0)) ≡ died →
      P (Some 0) (after_race_by died a (won_of leg) (raced slots before))
  race_kept leg slots can has lose early h None survives =
      wins leg slots (still (map (λ slot. (slot, LoseRace)) slots) can) (record { has = has; survives = survives; others = lose })
      (calls.hung (map (λ slot. (slot, LoseRace)) slots) early h)
  race_kept leg slots can has lose early h (Some cause) dies =
      fails cause (raced slots before) (still (map (λ slot. (slot, LoseRace)) slots) can) (over_raced before a.orig leg has slots cause lose dies)
      (calls.hung (map (λ slot. (slot, LoseRace)) slots) early h)

  -- a leg of which there is no channel brings nothing
  won_kept : (position : ℕ) (o : Orig) (leg : OrigLeg) → P (Some 0) before →
      P (Some 0) (after_winning_at a position o.legs (Some (won_of leg)) before) →
      P (Some 0) (after_winning_at a position o.legs (won_leg leg) before)
  won_kept position o leg h k = by leg.slot refl
    where
      by : (slot : Option ℕ) → leg.slot ≡ slot →
          P (Some 0) (after_winning_at a position o.legs (option_map (won_in leg) slot) before)
      by None none = h
      by (Some slot) is =
          subst (λ (won : WonLeg). P (Some 0) (after_winning_at a position o.legs (Some won) before))
          (ap (λ (at : Option ℕ). won_in leg (unwrap_or at 0)) is) k

  expired_kept : (leg : Option OrigLeg) → P None before → P (Some 0) before → P (Some 0) (after_leg_expiry leg before)
  expired_kept leg early h = by (option_and_then living_slot leg)
    where
      by : (slot : Option ℕ) → P (Some 0) (for_slot (after_hangup NoAnswer) slot before)
      by None = h
      by (Some slot) = calls.hung ((slot, NoAnswer) ∷ []) early h

  regrouped_kept : (o : Orig) → orig_of before a.orig ≡ Some o → may_enter_next o ≡ true → P (Some 0) before →
      P (Some 0) (after_next_group a (next_group o) before)
  regrouped_kept o there enters h = by (next_group o) refl
    where
      by : (next : Option (List LegPlan)) → next_group o ≡ next → P (Some 0) (after_next_group a next before)
      by None is = h
      by (Some group) is = regroups o group there is enters h

  judged_kept : (v : Verdict) (o : Orig) → verdict_of before.moment o ≡ v → orig_of before a.orig ≡ Some o → CanBeTold before →
      P None before → P (Some 0) before → P (Some 0) (after_verdict v a o before)
  judged_kept (verdict.Won position) o is there can early h = by (slice_get o.legs position) refl
    where
      by : (leg : Option OrigLeg) → slice_get o.legs position ≡ leg →
          P (Some 0) (after_winning_at a position o.legs (option_and_then won_leg leg) before)
      by None at = h
      by (Some leg) at =
          let has : HasLeg before a.orig leg =
          record { orig = o; there = there; position = position; at = at; lives = winner_lives before.moment position o leg is at } in
          let slots : List ℕ = living_slots (others position o.legs) in
          won_kept position o leg h
          (race_kept leg slots can has (others_lose before a.orig leg has) early h
          (death_of (chan_at (raced slots before) (unwrap_or leg.slot 0))) refl)
  judged_kept (verdict.LegExpired position) o is there can early h = expired_kept (slice_get o.legs position) early h
  judged_kept verdict.NextGroup o is there can early h = regrouped_kept o there (next_may_be_entered before.moment o is) h
  judged_kept (verdict.Failed cause) o is there can early h =
      fails cause before can (over_now before a.orig o there (failed_dead before.moment cause o is)) h
  judged_kept verdict.Expired o is there can early h =
      fails NoAnswer (after_hangups (map (λ slot. (slot, NoAnswer)) (living_slots o.legs)) before)
      (still (map (λ slot. (slot, NoAnswer)) (living_slots o.legs)) can) (over_expired before a.orig o NoAnswer there)
      (calls.hung (map (λ slot. (slot, NoAnswer)) (living_slots o.legs)) early h)
  judged_kept (verdict.Wait until) o is there can early h = h

  pub verdict_kept : CanBeTold before → P None before → P (Some 0) before → P (Some 0) (after_verdict_on a before)
  verdict_kept can early h = by (orig_of before a.orig) refl
    where
      by : (found : Option Orig) → orig_of before a.orig ≡ found → P (Some 0) (after_verdict_from a found before)
      by None there = h
      by (Some o) there = judged_kept (verdict_of before.moment o) o refl there can early h
