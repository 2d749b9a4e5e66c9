-- What holds of every verdict, and of every change of a leg.
use Rattle.std.specs.Prelude.{◌≡◌, ◌≢◌, ◌<◌, ◌≤◌, ◌↔◌, ℕ, List, true, false, is_some, slice_get}
use Rattle.fs_text.specs.declared.causes.Cause.{Cause}
use Rattle.fs_orig.specs.declared.leg.OrigLeg.{OrigLeg}
use Rattle.fs_orig.specs.declared.orig.Orig.{Orig}
use Rattle.fs_orig.specs.declared.verdict.Verdict.TheVariants.{Wait, Won, LegExpired, NextGroup, Failed, Expired}
use Rattle.fs_orig.specs.Changes.{with_leg_answer, with_changed_leg, with_leg_death, may_enter_next}
use Rattle.fs_orig.specs.Meaning.{IsWinner, IsFirstToExpire, IsWithCauses, IsLastToDie, death_at, is_timeout, is_wait}
use Rattle.fs_orig.specs.Verdicts.{verdict_of}

-- ---- verdicts

-- a leg has won exactly where it was answered first
abbrev pub FirstAnswerWins : Type 0
FirstAnswerWins = (now position : ℕ) (o : Orig) → (verdict_of now o ≡ Won position) ↔ IsWinner o.legs position

-- a leg that has had its time is the first one that has
abbrev pub FirstLegExpires : Type 0
FirstLegExpires = (now position : ℕ) (o : Orig) → verdict_of now o ≡ LegExpired position → IsFirstToExpire now o.legs position

-- the next group is tried only where that may be done
abbrev pub NextMayBeEntered : Type 0
NextMayBeEntered = (now : ℕ) (o : Orig) → verdict_of now o ≡ NextGroup → may_enter_next o ≡ true

-- a failed origination is told the cause of the leg that died last
abbrev pub LastDeathIsTold : Type 0
LastDeathIsTold = (now : ℕ) (cause : Cause) (o : Orig) → verdict_of now o ≡ Failed cause → IsWithCauses o.legs → IsLastToDie o.legs cause

-- the moment until which to wait is still to come
abbrev pub WaitIsToCome : Type 0
WaitIsToCome = (now until : ℕ) (o : Orig) → verdict_of now o ≡ Wait until → now < until

-- until then the verdict stays
abbrev pub WaitStays : Type 0
WaitStays = (now later until : ℕ) (o : Orig) → verdict_of now o ≡ Wait until → later < until → verdict_of later o ≡ Wait until

-- once it has come, the origination or a leg has had its time
abbrev pub WaitEndsInTimeout : Type 0
WaitEndsInTimeout =
    (now later until : ℕ) (o : Orig) → verdict_of now o ≡ Wait until → until ≤ later → is_timeout (verdict_of later o) ≡ true

-- where there is something to do there is later too
abbrev pub WorkStays : Type 0
WorkStays = (now later : ℕ) (o : Orig) → is_wait (verdict_of now o) ≡ false → now ≤ later → is_wait (verdict_of later o) ≡ false

-- an origination that is over stays so
abbrev pub ExpiredStays : Type 0
ExpiredStays = (now later : ℕ) (o : Orig) → verdict_of now o ≡ Expired → now ≤ later → verdict_of later o ≡ Expired

-- ---- changes of a leg

-- a leg that died is not answered
abbrev pub DeadIsNotAnswered : Type 0
DeadIsNotAnswered =
    (place position k : ℕ) (legs : List OrigLeg) →
    is_some (death_at legs k) ≡ true → slice_get (with_changed_leg (with_leg_answer place) position legs) k ≡ slice_get legs k

-- it does not die again
abbrev pub DeadDiesOnce : Type 0
DeadDiesOnce =
    (place position k : ℕ) (cause : Cause) (legs : List OrigLeg) →
    is_some (death_at legs k) ≡ true → slice_get (with_changed_leg (with_leg_death place cause) position legs) k ≡ slice_get legs k

-- legs at other positions stay as they are
abbrev pub OthersStay : Type 0
OthersStay =
    (change : OrigLeg → OrigLeg) (position k : ℕ) (legs : List OrigLeg) →
    k ≢ position → slice_get (with_changed_leg change position legs) k ≡ slice_get legs k
