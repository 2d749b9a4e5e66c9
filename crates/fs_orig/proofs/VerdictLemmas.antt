-- What a verdict means, and how it stands at other moments.
use Rattle.std.proofs.Common.{◌≡◌, ℕ, ◌<◌, ◌≤◌, ◌⊎◌, inl, inr, min, max, Bool, true, false, cond, List, [], ◌∷◌, Option, None, Some, IsSome}
use Rattle.std.proofs.Common.{is_some, is_none, not, ◌&&◌, ◌||◌, unwrap_or, slice_get, nat_le, refl, sym, subst, ◌∙◌, ap, arith, leb}
use Rattle.std.proofs.lemmas.Bool.{leb-true, leb-false, le-leb, lt-leb, eqb-true, eq-eqb}
use Rattle.std.specs.List.{filter_map, last_or, position}
use Rattle.std.specs.Option.{option_and_then}
use Rattle.fs_text.specs.declared.causes.Cause.{Cause}
use Rattle.fs_text.specs.declared.causes.Cause.TheVariants.{NormalUnspecified}
use Rattle.fs_orig.specs.declared.leg.OrigLeg.{OrigLeg}
use Rattle.fs_orig.specs.declared.orig.Orig.{Orig}
use Rattle.fs_orig.specs.declared.plan.LegPlan.{LegPlan}
use Rattle.fs_orig.specs.declared.verdict.Verdict.{Verdict}
use Rattle.fs_orig.specs.declared.verdict.Verdict.TheVariants.{Wait, Won, LegExpired, NextGroup, Failed, Expired}
use Rattle.fs_orig.specs.Legs.{is_at, answer_of, first_answer, winner, last_death, cause_at, last_cause, any_lives, lives}
use Rattle.fs_orig.specs.Verdicts.{limit_of, has_come, expired_leg, least_deadline, next_group, won_or, leg_expired_or, next_or_failed}
use Rattle.fs_orig.specs.Verdicts.{unanswered, verdict_of, due_moment_by}
use Rattle.fs_orig.specs.Meaning.{is_timeout, is_wait, answer_at, IsWinner, limit_at, IsFirstToExpire, death_at, death_cause_at}
use Rattle.fs_orig.specs.Meaning.{IsLastToDie, IsWithCauses}
use Rattle.fs_orig.specs.Changes.{may_enter_next}
use Rattle.fs_orig.proofs.Positions.{passes, IsFirst, position_is_first, position_is_none, IsLast, last_is}
use Rattle.fs_orig.proofs.Picks.{IsAtMost, IsAtLeast, IsPicked, min_picks, max_picks, fold_start, fold_each, fold_met, reduce_picks}
use Rattle.fs_orig.proofs.Picks.{reduce_there}

-- ---- tests

passes_given : {X : Type 0} (f : X → Option ℕ) (test : Option ℕ → Bool) → test None ≡ false → (o : Option X) →
    passes (λ x. test (f x)) o ≡ test (option_and_then f o)
passes_given f test none None = sym none
passes_given f test none (Some x) = refl

at_is : (n : ℕ) (v : Option ℕ) → is_at n v ≡ true → v ≡ Some n
at_is n None h = absurd (cc)
at_is n (Some m) h = ap Some (eqb-true m n h)

is_at_same : (n : ℕ) → is_at n (Some n) ≡ true
is_at_same n = eq-eqb n n refl

some_of : {X : Type 0} (o : Option X) → IsSome o → (x : X) × (o ≡ Some x)
some_of None h = absurd (cc)
some_of (Some x) h = (x, refl)

-- ---- how a verdict comes

-- the verdict by all that it depends on
abbrev pub by_parts : Option ℕ → Bool → Option ℕ → Bool → ℕ → Option (List LegPlan) → Option Cause → Verdict
by_parts won over expired alive until next cause =
    won_or won (cond over Expired (leg_expired_or expired (cond alive (Wait until) (next_or_failed next cause))))

record IsWaiting (won : Option ℕ) (over : Bool) (expired : Option ℕ) (alive : Bool) (until moment : ℕ) : Type 0 where
  open_still : won ≡ None
  in_time : over ≡ false
  legs_in_time : expired ≡ None
  living : alive ≡ true
  same : until ≡ moment

is_waiting : (won : Option ℕ) (over : Bool) (expired : Option ℕ) (alive : Bool) (until moment : ℕ) (next : Option (List LegPlan))
    (cause : Option Cause) → by_parts won over expired alive until next cause ≡ Wait moment → IsWaiting won over expired alive until moment
is_waiting (Some p) over expired alive until moment next cause h = absurd (cc)
is_waiting None true expired alive until moment next cause h = absurd (cc)
is_waiting None false (Some p) alive until moment next cause h = absurd (cc)
is_waiting None false None true until moment next cause h =
    record { open_still = refl; in_time = refl; legs_in_time = refl; living = refl; same = cc }
is_waiting None false None false until moment (Some group) cause h = absurd (cc)
is_waiting None false None false until moment None cause h = absurd (cc)

has_won : (won : Option ℕ) (over : Bool) (expired : Option ℕ) (alive : Bool) (until p : ℕ) (next : Option (List LegPlan))
    (cause : Option Cause) → by_parts won over expired alive until next cause ≡ Won p → won ≡ Some p
has_won (Some q) over expired alive until p next cause h = cc
has_won None true expired alive until p next cause h = absurd (cc)
has_won None false (Some q) alive until p next cause h = absurd (cc)
has_won None false None true until p next cause h = absurd (cc)
has_won None false None false until p (Some group) cause h = absurd (cc)
has_won None false None false until p None cause h = absurd (cc)

is_over : (won : Option ℕ) (over : Bool) (expired : Option ℕ) (alive : Bool) (until : ℕ) (next : Option (List LegPlan))
    (cause : Option Cause) → by_parts won over expired alive until next cause ≡ Expired → (won ≡ None) × (over ≡ true)
is_over (Some q) over expired alive until next cause h = absurd (cc)
is_over None true expired alive until next cause h = (refl, refl)
is_over None false (Some q) alive until next cause h = absurd (cc)
is_over None false None true until next cause h = absurd (cc)
is_over None false None false until (Some group) cause h = absurd (cc)
is_over None false None false until None cause h = absurd (cc)

leg_has_expired : (won : Option ℕ) (over : Bool) (expired : Option ℕ) (alive : Bool) (until p : ℕ) (next : Option (List LegPlan))
    (cause : Option Cause) → by_parts won over expired alive until next cause ≡ LegExpired p → expired ≡ Some p
leg_has_expired (Some q) over expired alive until p next cause h = absurd (cc)
leg_has_expired None true expired alive until p next cause h = absurd (cc)
leg_has_expired None false (Some q) alive until p next cause h = cc
leg_has_expired None false None true until p next cause h = absurd (cc)
leg_has_expired None false None false until p (Some group) cause h = absurd (cc)
leg_has_expired None false None false until p None cause h = absurd (cc)

enters_next : (won : Option ℕ) (over : Bool) (expired : Option ℕ) (alive : Bool) (until : ℕ) (next : Option (List LegPlan))
    (cause : Option Cause) → by_parts won over expired alive until next cause ≡ NextGroup → (alive ≡ false) × (is_some next ≡ true)
enters_next (Some q) over expired alive until next cause h = absurd (cc)
enters_next None true expired alive until next cause h = absurd (cc)
enters_next None false (Some q) alive until next cause h = absurd (cc)
enters_next None false None true until next cause h = absurd (cc)
enters_next None false None false until (Some group) cause h = (refl, refl)
enters_next None false None false until None cause h = absurd (cc)

has_failed : (won : Option ℕ) (over : Bool) (expired : Option ℕ) (alive : Bool) (until : ℕ) (next : Option (List LegPlan))
    (cause : Option Cause) (told : Cause) → by_parts won over expired alive until next cause ≡ Failed told →
    (alive ≡ false) × (unwrap_or cause NormalUnspecified ≡ told)
has_failed (Some q) over expired alive until next cause told h = absurd (cc)
has_failed None true expired alive until next cause told h = absurd (cc)
has_failed None false (Some q) alive until next cause told h = absurd (cc)
has_failed None false None true until next cause told h = absurd (cc)
has_failed None false None false until (Some group) cause told h = absurd (cc)
has_failed None false None false until None cause told h = (refl, cc)

-- it goes on waiting, where all that it waits by is so
goes_on_waiting : (won : Option ℕ) (over : Bool) (expired : Option ℕ) (alive : Bool) (until moment : ℕ) (next : Option (List LegPlan))
    (cause : Option Cause) → IsWaiting won over expired alive until moment → by_parts won over expired alive until next cause ≡ Wait moment
goes_on_waiting won over expired alive until moment next cause w =
    rw (w.open_still, w.in_time, w.legs_in_time, w.living, w.same) refl

expires_if : (won : Option ℕ) (over : Bool) (expired : Option ℕ) (alive : Bool) (until : ℕ) (next : Option (List LegPlan))
    (cause : Option Cause) → won ≡ None → (over ≡ false → expired ≡ None → ⊥) →
    is_timeout (by_parts won over expired alive until next cause) ≡ true
expires_if (Some p) over expired alive until next cause none never = absurd (cc)
expires_if None true expired alive until next cause none never = refl
expires_if None false (Some p) alive until next cause none never = refl
expires_if None false None alive until next cause none never = absurd (never refl refl)

over_is : (won : Option ℕ) (over : Bool) (expired : Option ℕ) (alive : Bool) (until : ℕ) (next : Option (List LegPlan))
    (cause : Option Cause) → won ≡ None → over ≡ true → by_parts won over expired alive until next cause ≡ Expired
over_is won over expired alive until next cause none past = rw (none, past) refl

-- ---- until when

late_at : (now k : ℕ) (legs : List OrigLeg) →
    passes (λ leg. has_come now (limit_of leg)) (slice_get legs k) ≡ has_come now (limit_at legs k)
late_at now k legs = passes_given limit_of (has_come now) refl (slice_get legs k)

-- the deadline and those of all living legs are still to come
record IsToCome (now : ℕ) (o : Orig) : Type 0 where
  in_time : now < o.deadline
  legs_in_time : expired_leg now o.legs ≡ None

to_come_least : (now : ℕ) (o : Orig) → IsToCome now o → now < least_deadline o
to_come_least now o ahead =
    elim (fold_met min IsAtMost min_picks limit_of o.legs o.deadline) [
      | inl same ↦ omega (arith, same, ahead.in_time)
      | inr met ↦
          let late : has_come now (limit_at o.legs met.0) ≡ false = sym (late_at now met.0 o.legs)
          ∙ position_is_none (λ leg. has_come now (limit_of leg)) o.legs met.0 ahead.legs_in_time in
          let P : Option ℕ → Type 0 = λ v. has_come now v ≡ false in
          leb-false (least_deadline o) now (subst P met.1 late)
    ]

limit_late : (now : ℕ) (v : Option ℕ) → has_come now v ≡ true → (y : ℕ) × ((v ≡ Some y) × (y ≤ now))
limit_late now None h = absurd (cc)
limit_late now (Some y) h = (y, (refl, leb-true y now h))

least_to_come : (now : ℕ) (o : Orig) → now < least_deadline o → IsToCome now o
least_to_come now o before =
    record {
      in_time =
          omega (arith, fold_start min IsAtMost min_picks limit_of o.legs o.deadline);
      legs_in_time = by_found (expired_leg now o.legs) refl;
    }
  where
    by_found : (found : Option ℕ) → expired_leg now o.legs ≡ found → found ≡ None
    by_found None is = refl
    by_found (Some q) is =
        let late : (y : ℕ) × ((limit_at o.legs q ≡ Some y) × (y ≤ now)) =
        limit_late now (limit_at o.legs q)
        (sym (late_at now q o.legs) ∙ (position_is_first (λ leg. has_come now (limit_of leg)) o.legs q is).here) in
        absurd (omega (arith, before, late.1.1, fold_each min IsAtMost min_picks limit_of o.legs o.deadline q late.0 late.1.0))

waiting_of : (now until : ℕ) (o : Orig) → verdict_of now o ≡ Wait until →
    IsWaiting (winner o.legs) (nat_le o.deadline now) (expired_leg now o.legs) (any_lives o.legs) (least_deadline o) until
unfolding verdict_of
waiting_of now until o h =
    is_waiting (winner o.legs) (nat_le o.deadline now) (expired_leg now o.legs) (any_lives o.legs) (least_deadline o) until (next_group o)
    (last_cause o.legs) h

-- the moment until which to wait is still to come
pub is_to_come : (now until : ℕ) (o : Orig) → verdict_of now o ≡ Wait until → now < until
is_to_come now until o h =
    let w : IsWaiting (winner o.legs) (nat_le o.deadline now) (expired_leg now o.legs) (any_lives o.legs) (least_deadline o) until =
    waiting_of now until o h in
    let before : now < least_deadline o =
    to_come_least now o (record { in_time = leb-false o.deadline now w.in_time; legs_in_time = w.legs_in_time }) in
    subst (λ (u : ℕ). now < u) w.same before

-- until then the verdict stays
pub stays_waiting : (now later until : ℕ) (o : Orig) → verdict_of now o ≡ Wait until → later < until → verdict_of later o ≡ Wait until
unfolding verdict_of
stays_waiting now later until o h before =
    let w : IsWaiting (winner o.legs) (nat_le o.deadline now) (expired_leg now o.legs) (any_lives o.legs) (least_deadline o) until =
    waiting_of now until o h in
    let ahead : IsToCome later o = least_to_come later o (subst (λ (u : ℕ). later < u) (sym w.same) before) in
    goes_on_waiting (winner o.legs) (nat_le o.deadline later) (expired_leg later o.legs) (any_lives o.legs) (least_deadline o) until
    (next_group o) (last_cause o.legs) (record {
      open_still = w.open_still;
      in_time = lt-leb o.deadline later ahead.in_time;
      legs_in_time = ahead.legs_in_time;
      living = w.living;
      same = w.same;
    })

-- once it has come, there is a timeout
pub then_expires : (now later until : ℕ) (o : Orig) → verdict_of now o ≡ Wait until → until ≤ later → is_timeout (verdict_of later o) ≡ true
unfolding verdict_of
then_expires now later until o h past =
    let w : IsWaiting (winner o.legs) (nat_le o.deadline now) (expired_leg now o.legs) (any_lives o.legs) (least_deadline o) until =
    waiting_of now until o h in
    expires_if (winner o.legs) (nat_le o.deadline later) (expired_leg later o.legs) (any_lives o.legs) (least_deadline o) (next_group o)
    (last_cause o.legs) w.open_still (never w.same)
  where
    never : least_deadline o ≡ until → nat_le o.deadline later ≡ false → expired_leg later o.legs ≡ None → ⊥
    never same in_time none =
        let before : later < least_deadline o =
        to_come_least later o (record { in_time = leb-false o.deadline later in_time; legs_in_time = none }) in
        omega (arith, before, same, past)

-- what is to be done is to be done later too
pub stays_decided : (now later : ℕ) (o : Orig) → is_wait (verdict_of now o) ≡ false → now ≤ later → is_wait (verdict_of later o) ≡ false
stays_decided now later o h more = by_verdict (verdict_of later o) refl
  where
    by_verdict : (v : Verdict) → verdict_of later o ≡ v → is_wait v ≡ false
    by_verdict (Wait until) is =
        let same : verdict_of now o ≡ Wait until = stays_waiting later now until o is (omega (arith, more, is_to_come later until o is)) in
        let P : Verdict → Type 0 = λ v. is_wait v ≡ false in
        absurd (let bad : true ≡ false = subst P same h in cc)
    by_verdict _ is = refl

-- what is over stays so
pub stays_over : (now later : ℕ) (o : Orig) → verdict_of now o ≡ Expired → now ≤ later → verdict_of later o ≡ Expired
unfolding verdict_of
stays_over now later o h more =
    let w : (winner o.legs ≡ None) × (nat_le o.deadline now ≡ true) =
    is_over (winner o.legs) (nat_le o.deadline now) (expired_leg now o.legs) (any_lives o.legs) (least_deadline o) (next_group o)
    (last_cause o.legs) h in
    over_is (winner o.legs) (nat_le o.deadline later) (expired_leg later o.legs) (any_lives o.legs) (least_deadline o) (next_group o)
    (last_cause o.legs) w.0 (le-leb o.deadline later (omega (arith, more, leb-true o.deadline now w.1)))

-- the next group is tried only where that may be done
pub next_may_be_entered : (now : ℕ) (o : Orig) → verdict_of now o ≡ NextGroup → may_enter_next o ≡ true
unfolding verdict_of
next_may_be_entered now o h =
    let w : (any_lives o.legs ≡ false) × (is_some (next_group o) ≡ true) =
    enters_next (winner o.legs) (nat_le o.deadline now) (expired_leg now o.legs) (any_lives o.legs) (least_deadline o) (next_group o)
    (last_cause o.legs) h in
    both (any_lives o.legs) (is_some (next_group o)) w.0 w.1
  where
    both : (a b : Bool) → a ≡ false → b ≡ true → (not a && b) ≡ true
    both true b none there = absurd (cc)
    both false b none there = there

-- ---- which leg expired

expires_first : (now p : ℕ) (legs : List OrigLeg) → expired_leg now legs ≡ Some p → IsFirstToExpire now legs p
expires_first now p legs h = record { limit = late.0; reached = late.1.0; late = late.1.1; first = λ other k is lt. in_time other k is lt }
  where
    found : IsFirst (λ leg. has_come now (limit_of leg)) legs p
    found = position_is_first (λ leg. has_come now (limit_of leg)) legs p h

    late : (y : ℕ) × ((limit_at legs p ≡ Some y) × (y ≤ now))
    late = limit_late now (limit_at legs p) (sym (late_at now p legs) ∙ found.here)

    in_time : (other k : ℕ) → limit_at legs k ≡ Some other → k < p → now < other
    in_time other k is lt =
        let P : Option ℕ → Type 0 = λ v. has_come now v ≡ false in
        leb-false other now (subst P is (sym (late_at now k legs) ∙ found.before k lt))

-- a leg that is told to have had its time has had it first
pub leg_expired_is : (now p : ℕ) (o : Orig) → verdict_of now o ≡ LegExpired p → IsFirstToExpire now o.legs p
unfolding verdict_of
leg_expired_is now p o h =
    expires_first now p o.legs
    (leg_has_expired (winner o.legs) (nat_le o.deadline now) (expired_leg now o.legs) (any_lives o.legs) (least_deadline o) p (next_group o)
    (last_cause o.legs) h)

-- ---- who won

answered_there : (place k : ℕ) (legs : List OrigLeg) →
    passes (λ leg. is_at place (answer_of leg)) (slice_get legs k) ≡ is_at place (answer_at legs k)
answered_there place k legs = passes_given answer_of (is_at place) refl (slice_get legs k)

winner_first : (legs : List OrigLeg) (place p : ℕ) → first_answer legs ≡ Some place →
    position (λ leg. is_at place (answer_of leg)) legs ≡ Some p → IsWinner legs p
winner_first legs place p least found = record {
  place = place;
  answered = at_is place (answer_at legs p) (sym (answered_there place p legs) ∙ first.here);
  first = λ other k is. in_order other k is;
}
  where
    first : IsFirst (λ leg. is_at place (answer_of leg)) legs p
    first = position_is_first (λ leg. is_at place (answer_of leg)) legs p found

    picked : IsPicked IsAtMost answer_of legs place
    picked = reduce_picks min IsAtMost min_picks answer_of legs place least

    not_before : (k : ℕ) → k < p → answer_at legs k ≡ Some place → ⊥
    not_before k lt is =
        let none : is_at place (answer_at legs k) ≡ false = sym (answered_there place k legs) ∙ first.before k lt in
        let P : Option ℕ → Type 0 = λ v. is_at place v ≡ false in
        let bad : true ≡ false = sym (is_at_same place) ∙ subst P is none in
        absurd (cc)

    in_order : (other k : ℕ) → answer_at legs k ≡ Some other → (place < other) ⊎ ((place ≡ other) × (p ≤ k))
    in_order other k is = by_test (leb other place) refl (leb p k) refl
      where
        by_test : (b : Bool) → leb other place ≡ b → (c : Bool) → leb p k ≡ c → (place < other) ⊎ ((place ≡ other) × (p ≤ k))
        by_test false more c order = inl (leb-false other place more)
        by_test true less true order = inr (omega (arith, leb-true other place less, picked.each k other is), leb-true p k order)
        by_test true less false order =
            let same : other ≡ place = omega (arith, leb-true other place less, picked.each k other is) in
            absurd (not_before k (leb-false p k order) (is ∙ ap Some same))

-- what is told to have won has won
pub winner_is : (legs : List OrigLeg) (p : ℕ) → winner legs ≡ Some p → IsWinner legs p
winner_is legs p h = by_first (first_answer legs) refl h
  where
    by_first : (v : Option ℕ) → first_answer legs ≡ v →
        option_and_then (λ place. position (λ leg. is_at place (answer_of leg)) legs) v ≡ Some p → IsWinner legs p
    by_first None is e = absurd (cc)
    by_first (Some place) is e = winner_first legs place p is e

-- two winners are one
one_winner : (legs : List OrigLeg) (p q : ℕ) → IsWinner legs p → IsWinner legs q → p ≡ q
one_winner legs p q a b =
    elim (a.first b.place q b.answered) [
      | inl less ↦ elim (b.first a.place p a.answered) [
        | inl more ↦ absurd (omega (arith, less, more))
        | inr same ↦ absurd (omega (arith, less, same.0))
      ]
      | inr first ↦ elim (b.first a.place p a.answered) [
        | inl more ↦ absurd (omega (arith, more, first.0))
        | inr second ↦ omega (arith, first.1, second.1)
      ]
    ]

-- what has won is told to
pub is_winner : (legs : List OrigLeg) (p : ℕ) → IsWinner legs p → winner legs ≡ Some p
is_winner legs p won = by_told (winner legs) refl
  where
    least : (m : ℕ) × (first_answer legs ≡ Some m)
    least = reduce_there min answer_of legs p won.place won.answered

    picked : IsPicked IsAtMost answer_of legs least.0
    picked = reduce_picks min IsAtMost min_picks answer_of legs least.0 least.1

    never : winner legs ≡ None → ⊥
    never none =
        let P : Option ℕ → Type 0 = λ v. option_and_then (λ place. position (λ leg. is_at place (answer_of leg)) legs) v ≡ None in
        let nowhere : is_at least.0 (answer_at legs picked.at) ≡ false = sym (answered_there least.0 picked.at legs)
        ∙ position_is_none (λ leg. is_at least.0 (answer_of leg)) legs picked.at (subst P least.1 none) in
        let Q : Option ℕ → Type 0 = λ v. is_at least.0 v ≡ false in
        let bad : true ≡ false = sym (is_at_same least.0) ∙ subst Q picked.met nowhere in
        absurd (cc)

    by_told : (v : Option ℕ) → winner legs ≡ v → v ≡ Some p
    by_told None is = absurd (never is)
    by_told (Some q) is = ap Some (one_winner legs q p (winner_is legs q is) won)

pub won_is : (now p : ℕ) (o : Orig) → verdict_of now o ≡ Won p → IsWinner o.legs p
unfolding verdict_of
won_is now p o h =
    winner_is o.legs p
    (has_won (winner o.legs) (nat_le o.deadline now) (expired_leg now o.legs) (any_lives o.legs) (least_deadline o) p (next_group o)
    (last_cause o.legs) h)

pub is_won : (now p : ℕ) (o : Orig) → IsWinner o.legs p → verdict_of now o ≡ Won p
unfolding verdict_of
is_won now p o won =
    let P : Option ℕ → Type 0 = λ v. won_or v (unanswered now o) ≡ Won p in
    subst P (sym (is_winner o.legs p won)) refl

-- ---- what the last one died of

cause_given : (place : ℕ) (o : Option OrigLeg) → option_and_then (λ leg. leg.died) o ≡ Some place →
    option_and_then (cause_at place) o ≡ option_and_then (λ leg. leg.cause) o
cause_given place None h = refl
cause_given place (Some leg) h =
    let P : Option ℕ → Type 0 = λ v. cond (is_at place v) leg.cause None ≡ leg.cause in
    subst P (sym h) (rw (is_at_same place) refl)

cause_told : (place : ℕ) (cause : Cause) (o : Option OrigLeg) → option_and_then (cause_at place) o ≡ Some cause →
    (option_and_then (λ leg. leg.died) o ≡ Some place) × (option_and_then (λ leg. leg.cause) o ≡ Some cause)
cause_told place cause None h = absurd (cc)
cause_told place cause (Some leg) h = by_test (is_at place leg.died) refl h
  where
    by_test : (b : Bool) → is_at place leg.died ≡ b → cond b leg.cause None ≡ Some cause →
        (leg.died ≡ Some place) × (leg.cause ≡ Some cause)
    by_test true is e = (at_is place leg.died is, e)
    by_test false is e = absurd (cc)

last_of_all : (legs : List OrigLeg) (cause : Cause) (place : ℕ) → IsPicked IsAtLeast (λ leg. leg.died) legs place → IsWithCauses legs →
    IsLast (cause_at place) legs cause → IsLastToDie legs cause
last_of_all legs cause place picked causes last =
    let told : (death_at legs last.at ≡ Some place) × (death_cause_at legs last.at ≡ Some cause) =
    cause_told place cause (slice_get legs last.at) last.here in
    record { position = last.at; place = place; died = told.0; last = λ other k is. in_order other k is; told = told.1 }
  where
    not_behind : (k : ℕ) → last.at < k → death_at legs k ≡ Some place → ⊥
    not_behind k lt is =
        let some : (c : Cause) × (death_cause_at legs k ≡ Some c) =
        some_of _ (causes.causes k (subst (λ (v : Option ℕ). IsSome v) (sym is) refl)) in
        let none : None ≡ Some some.0 = sym (last.behind k lt) ∙ cause_given place (slice_get legs k) is ∙ some.1 in
        absurd (cc)

    in_order : (other k : ℕ) → death_at legs k ≡ Some other → (other < place) ⊎ ((other ≡ place) × (k ≤ last.at))
    in_order other k is = by_test (leb place other) refl (leb k last.at) refl
      where
        by_test : (b : Bool) → leb place other ≡ b → (c : Bool) → leb k last.at ≡ c → (other < place) ⊎ ((other ≡ place) × (k ≤ last.at))
        by_test false less c order = inl (leb-false place other less)
        by_test true more true order = inr (omega (arith, leb-true place other more, picked.each k other is), leb-true k last.at order)
        by_test true more false order =
            let same : other ≡ place = omega (arith, leb-true place other more, picked.each k other is) in
            absurd (not_behind k (leb-false k last.at order) (is ∙ ap Some same))

first_died : (legs : List OrigLeg) → any_lives legs ≡ false → IsSome (slice_get legs 0) → (place : ℕ) × (death_at legs 0 ≡ Some place)
first_died [] none there = absurd (cc)
first_died (leg ∷ legs) none there = by_death leg.died refl (any_lives legs) none
  where
    by_death : (v : Option ℕ) → leg.died ≡ v → (b : Bool) → (is_none v || b) ≡ false → (place : ℕ) × (v ≡ Some place)
    by_death None is b e = absurd (cc)
    by_death (Some place) is b e = (place, refl)

last_to_die : (legs : List OrigLeg) (cause : Cause) → any_lives legs ≡ false → IsWithCauses legs →
    unwrap_or (last_cause legs) NormalUnspecified ≡ cause → IsLastToDie legs cause
last_to_die legs cause none causes told =
    subst (λ (c : Cause). IsLastToDie legs c) same (last_of_all legs found.0 place.0 picked causes found.1.1)
  where
    died : (place : ℕ) × (death_at legs 0 ≡ Some place)
    died = first_died legs none causes.leg

    place : (m : ℕ) × (last_death legs ≡ Some m)
    place = reduce_there max (λ leg. leg.died) legs 0 died.0 died.1

    picked : IsPicked IsAtLeast (λ leg. leg.died) legs place.0
    picked = reduce_picks max IsAtLeast max_picks (λ leg. leg.died) legs place.0 place.1

    cause_there : (c : Cause) × (death_cause_at legs picked.at ≡ Some c)
    cause_there = some_of _ (causes.causes picked.at (subst (λ (v : Option ℕ). IsSome v) (sym picked.met) refl))

    found : (c : Cause) × ((last_or None (filter_map (cause_at place.0) legs) ≡ Some c) × IsLast (cause_at place.0) legs c)
    found = last_is (cause_at place.0) legs picked.at cause_there.0
        (cause_given place.0 (slice_get legs picked.at) picked.met ∙ cause_there.1)

    same : found.0 ≡ cause
    same =
        let P : Option ℕ →
        Type 0 = λ v. unwrap_or (option_and_then (λ m. last_or None (filter_map (cause_at m) legs)) v) NormalUnspecified ≡ cause in
        let here : unwrap_or (last_or None (filter_map (cause_at place.0) legs)) NormalUnspecified ≡ cause = subst P place.1 told in
        let Q : Option Cause → Type 0 = λ c. unwrap_or c NormalUnspecified ≡ cause in
        subst Q found.1.0 here

-- a failed origination is told the cause of the leg that died last
pub failed_is : (now : ℕ) (cause : Cause) (o : Orig) → verdict_of now o ≡ Failed cause → IsWithCauses o.legs → IsLastToDie o.legs cause
unfolding verdict_of
failed_is now cause o h causes =
    let w : (any_lives o.legs ≡ false) × (unwrap_or (last_cause o.legs) NormalUnspecified ≡ cause) =
    has_failed (winner o.legs) (nat_le o.deadline now) (expired_leg now o.legs) (any_lives o.legs) (least_deadline o) (next_group o)
    (last_cause o.legs) cause h in
    last_to_die o.legs cause w.0 causes w.1

-- ---- what a verdict brings

-- a verdict that is to wait no more is due at once
pub timeout_due : (now : ℕ) (v : Verdict) → is_timeout v ≡ true → due_moment_by now v ≡ now
timeout_due now (Wait until) is = absurd (cc)
timeout_due now (Won position) is = refl
timeout_due now (LegExpired position) is = refl
timeout_due now NextGroup is = refl
timeout_due now (Failed cause) is = refl
timeout_due now Expired is = refl

-- the leg lives that has won
pub winner_lives : (now position : ℕ) (o : Orig) (leg : OrigLeg) → verdict_of now o ≡ Won position → slice_get o.legs position ≡ Some leg →
    lives leg ≡ true
winner_lives now position o leg is there =
    answers (lives leg) refl (sym (ap (option_and_then answer_of) there) ∙ (won_is now position o is).answered)
  where
    answers : (test : Bool) → lives leg ≡ test → cond test leg.answered None ≡ Some (won_is now position o is).place → lives leg ≡ true
    answers true is answered = is
    answers false is answered = absurd (cc)
