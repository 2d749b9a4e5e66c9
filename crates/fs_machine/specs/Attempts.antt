-- Originations that jobs and channels try: how they begin, and what comes of them.
use Rattle.std.specs.Prelude.{ℕ, ◌+◌, Bool, if◌then◌else◌, List, [], ◌++◌, take, drop, Option, None, Some, option_map, unwrap_or, slice_get}
use Rattle.std.specs.Option.{option_and_then}
use Rattle.fs_text.specs.declared.causes.Cause.{Cause}
use Rattle.fs_text.specs.declared.causes.Cause.TheVariants.{NoAnswer, LoseRace}
use Rattle.fs_chan.specs.declared.chan.Chan.{Chan}
use Rattle.fs_chan.specs.Bridging.{awaited_by}
use Rattle.fs_chan.specs.Changes.{is_live}
use Rattle.fs_chan.specs.Moments.{moment_after}
use Rattle.fs_orig.specs.declared.caller.Caller.{Caller}
use Rattle.fs_orig.specs.declared.leg.OrigLeg.{OrigLeg}
use Rattle.fs_orig.specs.declared.plan.LegPlan.{LegPlan}
use Rattle.fs_orig.specs.declared.orig.Orig.{Orig}
use Rattle.fs_orig.specs.declared.orig.Owner.{Owner}
use Rattle.fs_orig.specs.declared.orig.Owner.TheVariants as owner
use Rattle.fs_orig.specs.declared.verdict.Verdict.{Verdict}
use Rattle.fs_orig.specs.declared.verdict.Verdict.TheVariants as verdict
use Rattle.fs_orig.specs.declared.winner.Winner.{Winner}
use Rattle.fs_orig.specs.Legs.{is_at, living_slot, living_slots}
use Rattle.fs_orig.specs.Changes.{new_orig, at_next_group}
use Rattle.fs_orig.specs.Verdicts.{next_group, verdict_of}
use Rattle.fs_state.specs.declared.job.JobWork.TheVariants.{Originate}
use Rattle.fs_state.specs.Switch.{Switch, next_orig_number, chan_at, orig_of, with_new_orig, without_orig}
use Rattle.fs_state.specs.Hangups.{after_hangup, after_hangups_for}
use Rattle.fs_state.specs.Moves.{orig_changed, for_slot}
use Rattle.fs_machine.specs.Texts.{failed_text, made_text}
use Rattle.fs_machine.specs.declared.attempts.Attempt.{Attempt}
use Rattle.fs_machine.specs.declared.attempts.Party.{Party}
use Rattle.fs_machine.specs.declared.attempts.Party.TheVariants as party
use Rattle.fs_machine.specs.declared.attempts.WonLeg.{WonLeg}
use Rattle.fs_machine.specs.Bridging.{after_bridge_failure, after_bridge_win, group_dialed}
use Rattle.fs_machine.specs.Originations.{seconds, MadeGroup, group_made, after_winning}
use Rattle.fs_machine.specs.declared.owing.Giver.{Giver}
use Rattle.fs_machine.specs.Owing.{job_number, after_job_begin, after_job_end}

-- the group that is tried first
abbrev pub first_group : List (List LegPlan) → List LegPlan
first_group groups = unwrap_or (slice_get groups 0) []

-- the origination of the next number, which is its owner's: these legs of its first group are tried, until a deadline
abbrev pub orig_begun : Owner → List (List LegPlan) → List OrigLeg → ℕ → Switch → Switch
orig_begun by groups legs timeout s = with_new_orig (new_orig by groups legs (moment_after s.moment (seconds timeout))) s

-- the legs of the first group were made for the origination of a number: it is tried by a job
abbrev pub tried_by_job : Giver → List (List LegPlan) → Winner → Caller → ℕ → ℕ → MadeGroup → Switch
tried_by_job by groups winner caller timeout orig made =
    after_job_begin by (Originate orig winner caller)
    (orig_begun (owner.Job (job_number by made.state)) groups made.legs timeout made.state)

-- an origination begins; without a timeout it has a minute
abbrev pub originate_begun : Giver → List (List LegPlan) → Winner → Caller → Option ℕ → Switch → Switch
originate_begun by groups winner caller timeout s =
    tried_by_job by groups winner caller (unwrap_or timeout 60) (next_orig_number s)
    (group_made (first_group groups) caller (next_orig_number s) s)

-- ---- who tries it

-- the channel in a slot still waits for the verdict on an origination
abbrev pub awaits : ℕ → ℕ → Switch → Bool
awaits slot orig s = is_at orig (option_and_then awaited_by (chan_at s slot))

-- it has failed: the job has ended with a reply, or the channel in the slot has failed to bridge, if it still waits
abbrev pub failed_for : Party → ℕ → Cause → Switch → Switch
failed_for (party.Job job who winner caller) orig cause s = after_job_end job who (failed_text cause) (without_orig orig s)
failed_for (party.Slot slot) orig cause s = if awaits slot orig s then after_bridge_failure cause slot (without_orig orig s) else s

-- a leg, as the channel in a slot
abbrev pub won_in : OrigLeg → ℕ → WonLeg
won_in leg slot = record { slot = slot; uuid = leg.uuid }

-- a leg that has won, if there is a channel of it
abbrev pub won_leg : OrigLeg → Option WonLeg
won_leg leg = option_map (won_in leg) leg.slot

-- a leg has won: it does what the job asks, which has ended with a reply, or it is joined to the channel that still waits
abbrev pub won_for : Party → ℕ → WonLeg → Switch → Switch
won_for (party.Job job who winner caller) orig leg s =
    after_job_end job who (made_text leg.uuid) (without_orig orig (after_winning winner leg.slot s))
won_for (party.Slot slot) orig leg s =
    if awaits slot orig s then after_bridge_win slot leg.slot (without_orig orig s) else s

-- the legs of a group, made for a job's caller, or as the channel in the slot hands on its variables and its caller id
abbrev pub group_for : Party → List LegPlan → ℕ → Switch → MadeGroup
group_for (party.Job job who winner caller) plans orig s = group_made plans caller orig s
group_for (party.Slot slot) plans orig s = group_dialed (chan_at s slot) plans orig s

-- ---- what comes of it

-- it has failed
abbrev pub after_failure : Attempt → Cause → Switch → Switch
after_failure a cause s = failed_for a.party a.orig cause s

-- it comes to its deadline: its legs in these slots are hung up
abbrev pub after_deadline : Attempt → List ℕ → Switch → Switch
after_deadline a slots s = after_failure a NoAnswer (after_hangups_for NoAnswer slots s)

-- the legs without the one at a position
abbrev pub others : ℕ → List OrigLeg → List OrigLeg
others position legs = take position legs ++ drop (position + 1) legs

-- what the channel in a slot died of, if it is there and not alive
abbrev pub death_of : Option Chan → Option Cause
death_of None = None
death_of (Some c) = if is_live c then None else c.cause

-- the others were hung up: the leg has won, unless it died of that
abbrev pub after_race_by : Option Cause → Attempt → WonLeg → Switch → Switch
after_race_by None a leg s = won_for a.party a.orig leg s
after_race_by (Some cause) a leg s = after_failure a cause s

-- a leg has won, unless its channel died of the hangup of the others
abbrev pub after_race : Attempt → WonLeg → Switch → Switch
after_race a leg s = after_race_by (death_of (chan_at s leg.slot)) a leg s

-- the living legs without the one at a position lose the race
abbrev pub after_losses : ℕ → List OrigLeg → Switch → Switch
after_losses position legs s = after_hangups_for LoseRace (living_slots (others position legs)) s

-- the leg at a position was answered first: the others lose the race
abbrev pub after_winning_at : Attempt → ℕ → List OrigLeg → Option WonLeg → Switch → Switch
after_winning_at a position legs None s = s
after_winning_at a position legs (Some leg) s = after_race a leg (after_losses position legs s)

-- a leg has had its time
abbrev pub after_leg_expiry : Option OrigLeg → Switch → Switch
after_leg_expiry leg s = for_slot (after_hangup NoAnswer) (option_and_then living_slot leg) s

-- the legs of the next group were made, and are tried
abbrev pub with_group : ℕ → MadeGroup → Switch
with_group number made = orig_changed (at_next_group made.legs) number made.state

-- the next group is tried, if there is one
abbrev pub after_next_group : Attempt → Option (List LegPlan) → Switch → Switch
after_next_group a None s = s
after_next_group a (Some plans) s = with_group a.orig (group_for a.party plans a.orig s)

-- what comes of an origination by the verdict on it
abbrev pub after_verdict : Verdict → Attempt → Orig → Switch → Switch
after_verdict (verdict.Won position) a o s = after_winning_at a position o.legs (option_and_then won_leg (slice_get o.legs position)) s
after_verdict (verdict.LegExpired position) a o s = after_leg_expiry (slice_get o.legs position) s
after_verdict verdict.NextGroup a o s = after_next_group a (next_group o) s
after_verdict (verdict.Failed cause) a o s = after_failure a cause s
after_verdict verdict.Expired a o s = after_deadline a (living_slots o.legs) s
after_verdict (verdict.Wait until) a o s = s

-- what comes of an origination by the verdict at this moment, if it is there
abbrev pub after_verdict_from : Attempt → Option Orig → Switch → Switch
after_verdict_from a None s = s
after_verdict_from a (Some o) s = after_verdict (verdict_of s.moment o) a o s

-- what comes of what is tried, by the verdict at this moment
abbrev pub after_verdict_on : Attempt → Switch → Switch
after_verdict_on a s = after_verdict_from a (orig_of s a.orig) s
