-- Each act leaves each origination a leg, and each of its legs that died a cause.
use Rattle.std.proofs.Common.{◌≡◌, ℕ, zero, suc, ◌+◌, Bool, true, false, if◌then◌else◌, List, [], ◌∷◌, length, slice_get, Option, None, Some}
use Rattle.std.proofs.Common.{IsSome, option_and_then, unwrap_or, ◌⊎◌, inl, inr, refl, sym, ap, subst, ◌∙◌}
use Rattle.std.specs.List.{slice_set}
use Rattle.std.proofs.lemmas.Bool.{cases_eq}
use Rattle.fs_text.specs.Texts.{Text}
use Rattle.fs_text.specs.declared.causes.Cause.{Cause}
use Rattle.fs_text.specs.declared.causes.Cause.TheVariants.{NormalTemporaryFailure, SwitchCongestion}
use Rattle.fs_vars.specs.Variables.{Variables}
use Rattle.fs_chan.specs.declared.chan.Chan.{Chan}
use Rattle.fs_chan.specs.Changes.{at_rest}
use Rattle.fs_chan.specs.Moments.{moment_after}
use Rattle.fs_orig.specs.declared.caller.Caller.{Caller}
use Rattle.fs_orig.specs.declared.endpoint.Endpoint.{Endpoint}
use Rattle.fs_orig.specs.declared.endpoint.Endpoint.TheVariants.{Loopback, Dead}
use Rattle.fs_orig.specs.declared.leg.OrigLeg.{OrigLeg}
use Rattle.fs_orig.specs.declared.orig.Orig.{Orig}
use Rattle.fs_orig.specs.declared.orig.Owner.TheVariants as owner
use Rattle.fs_orig.specs.declared.plan.LegPlan.{LegPlan}
use Rattle.fs_orig.specs.declared.winner.Winner.{Winner}
use Rattle.fs_orig.specs.Legs.{lives, position_in}
use Rattle.fs_orig.specs.Changes.{rings, with_leg_answer, with_leg_death, with_leg, with_changed_leg, with_answer, new_orig, may_enter_next}
use Rattle.fs_orig.specs.Changes.{at_next_group}
use Rattle.fs_orig.specs.Endpoints.{endpoint_of}
use Rattle.fs_orig.specs.Meaning.{IsWithCauses}
use Rattle.fs_seats.specs.declared.numbered.Numbered.{Numbered}
use Rattle.fs_seats.specs.Seats.{no_seats, held_in, least_free}
use Rattle.fs_seats.proofs.HeldLemmas.{nothing_held}
use Rattle.fs_seats.specs.Rows.{seat_of, row_of}
use Rattle.fs_seats.proofs.RowLemmas.{each_put_at}
use Rattle.fs_state.specs.declared.conn.Conn.{Conn}
use Rattle.fs_state.specs.declared.conn.Parting.TheVariants as parting
use Rattle.fs_state.specs.declared.job.Asker.{Asker}
use Rattle.fs_state.specs.declared.job.Asker.TheVariants as asker
use Rattle.fs_state.specs.declared.job.JobWork.{JobWork}
use Rattle.fs_state.specs.declared.job.JobWork.TheVariants.{Originate}
use Rattle.fs_state.specs.Switch.{Switch, chan_at, orig_of, next_orig_number, with_new_job, without_job}
use Rattle.fs_state.specs.Switch.{without_orig, with_bridge}
use Rattle.fs_state.specs.Moves.{orig_changed_from, orig_changed, leg_changed_at, leg_changed, after_move, orig_given_up}
use Rattle.fs_state.proofs.LegTables.{Origs, row_there, set_here, set_there}
use Rattle.fs_machine.specs.declared.call.Call.{Call}
use Rattle.fs_machine.specs.Texts.{made_text, failed_text}
use Rattle.fs_machine.specs.Connections.{conn_changed, admitted, parted, owed_since, not_owed, with_subs_changed}
use Rattle.fs_machine.specs.Originations.{set_all, no_variables, own_uuid, call_with, is_misnamed, seconds, made_dead, is_congested}
use Rattle.fs_machine.specs.Originations.{made_in, free_pair, loopback_made, made_with, made_of, leg_made, MadeGroup, group_made, won_by}
use Rattle.fs_machine.specs.Originations.{after_winning, leg_end}
use Rattle.fs_machine.specs.Attempts.{first_group, orig_begun, originate_begun, with_group}
use Rattle.fs_machine.specs.declared.owing.Giver.{Giver}
use Rattle.fs_machine.specs.declared.owing.Giver.TheVariants as giver
use Rattle.fs_machine.specs.Owing.{job_number, after_job_begin, background_begun, after_job_end}
use Rattle.fs_machine.proofs.Kept.{Fact, KeptByBirths, raced, AreGroups, KeptByMoves, KeptByTouches, KeptByApi, KeptByJobs, KeptByDials}
use Rattle.fs_machine.proofs.Kept.{ArePlans}
use Rattle.fs_machine.proofs.Walk.{group_made_kept, behind_filled, disposed_kept}
use Rattle.fs_machine.proofs.FrontLemmas.{conn_unread}
use Rattle.std.specs.Option.{option_and_then}
use Rattle.fs_text.specs.Cause.{cause_name}
use Rattle.fs_bridge.specs.declared.row.BridgeKind.{BridgeKind}
use Rattle.fs_bridge.specs.declared.row.BridgeKind.TheVariants.{Dial}
use Rattle.fs_bridge.specs.Closure.{Members}
use Rattle.fs_chan.specs.Bridging.{exported_pairs, awaiting, awaited_by, bridged, in_media, at_leisure}
use Rattle.fs_orig.specs.declared.orig.Owner.{Owner}
use Rattle.fs_orig.specs.Plans.{all_behind}
use Rattle.fs_state.specs.Hangups.{after_hangups}
use Rattle.fs_state.specs.Leaving.{after_bridges_left}
use Rattle.fs_state.specs.Bridging.{peer_of, with_peer_from, with_peer, joined_as}
use Rattle.fs_machine.specs.Bridging.{caller_of, group_dialed, goes_on, after_going_on, bridge_failed_from, after_bridge_failure, disposed}
use Rattle.fs_machine.specs.Bridging.{after_bridge_win}
use Rattle.fs_machine.specs.Dialing.{tried_by_slot}
use Rattle.fs_machine.specs.Joining.{after_leaving, after_departures}
use Rattle.fs_machine.proofs.LeaveLemmas.{departed_kept}
use Rattle.fs_machine.proofs.NameLemmas.{leg_by}
use Rattle.fs_machine.proofs.StayLemmas.{moved_there, changed_there}
use Rattle.fs_machine.proofs.HangLemmas.{dies, given_up_kept, hangups_kept, bridges_left_kept}
use Rattle.fs_machine.proofs.WonLemmas.{bridge_won_kept}

-- it has a cause, if it died
abbrev pub HasCause : Option OrigLeg → Type 0
HasCause None = Unit {0}
HasCause (Some leg) = IsSome leg.died → IsSome leg.cause

-- an origination has a leg, each leg that died has a cause, and each group has a leg
pub record IsTold (o : Orig) : Type 0 where
  pub leg : IsSome (slice_get o.legs 0)
  pub causes : (k : ℕ) → HasCause (slice_get o.legs k)
  pub filled : (k : ℕ) (group : List LegPlan) → slice_get o.groups k ≡ Some group → IsSome (slice_get group 0)

abbrev pub ToldIn : Option (Numbered Orig) → Type 0
ToldIn None = Unit {0}
ToldIn (Some row) = IsTold row.held

abbrev pub AllTold : Origs → Type 0
AllTold origs = (seat : ℕ) → ToldIn (held_in origs seat)

abbrev pub Told : Fact
Told b s = AllTold s.origs

-- one that is there
pub told_there : (origs : Origs) (number : ℕ) (o : Orig) → row_of origs number ≡ Some o → AllTold origs → IsTold o
told_there origs number o is h =
    let row = row_there origs number o is in
    subst ToldIn row.2 (h row.0)

-- as the definition has it
pub with_causes : (o : Orig) → IsTold o → IsWithCauses o.legs
with_causes o h = record { leg = h.leg; causes = λ k. by (slice_get o.legs k) (h.causes k) }
  where
    by : (leg : Option OrigLeg) → HasCause leg → IsSome (option_and_then (λ l. l.died) leg) → IsSome (option_and_then (λ l. l.cause) leg)
    by None has died = died
    by (Some leg) has died = has died

-- ---- an origination is changed

changed_told : (change : Orig → Orig) → ((o : Orig) → IsTold o → IsTold (change o)) → (number : ℕ) (s : Switch) → AllTold s.origs →
    AllTold (orig_changed change number s).origs
changed_told change keeps number s h = by (orig_of s number) refl
  where
    by : (found : Option Orig) → orig_of s number ≡ found → AllTold (orig_changed_from change number found s).origs
    by None is = h
    by (Some o) is =
        each_put_at ToldIn s.origs (Some (record { number = number; held = change o })) (seat_of s.origs number) h
        (keeps o (told_there s.origs number o is h))

-- a change of a leg
abbrev KeepsCause : (OrigLeg → OrigLeg) → Type 0
KeepsCause change = (leg : OrigLeg) → HasCause (Some leg) → HasCause (Some (change leg))

answer_keeps : (seat : ℕ) → KeepsCause (with_leg_answer seat)
answer_keeps seat leg has = by (rings leg)
  where
    by : (test : Bool) → HasCause (Some (if test then record leg { answered = Some seat } else leg))
    by true = has
    by false = has

death_keeps : (seat : ℕ) (cause : Cause) → KeepsCause (with_leg_death seat cause)
death_keeps seat cause leg has = by (lives leg)
  where
    by : (test : Bool) → HasCause (Some (if test then record leg { died = Some seat; cause = Some cause } else leg))
    by true = λ died. refl
    by false = has

set_some : (legs : List OrigLeg) (first : ℕ) (new : OrigLeg) → IsSome (slice_get legs 0) → IsSome (slice_get (slice_set legs first new) 0)
set_some [] first new some = some
set_some (leg ∷ more) zero new some = refl
set_some (leg ∷ more) (suc first) new some = refl

leg_told : (change : OrigLeg → OrigLeg) → KeepsCause change → (first : ℕ) (o : Orig) → IsTold o →
    IsTold (record o { legs = with_changed_leg change first o.legs })
leg_told change keeps first o h = by (slice_get o.legs first) refl
  where
    at : (leg : OrigLeg) → slice_get o.legs first ≡ Some leg → (k : ℕ) → (k ≡ first) ⊎ (k ≡ first → ⊥) →
        HasCause (slice_get (slice_set o.legs first (change leg)) k)
    at leg is k (inl same) =
        subst HasCause (sym (ap (slice_get (slice_set o.legs first (change leg))) same ∙ set_here o.legs first leg (change leg) is))
        (keeps leg (subst HasCause is (h.causes first)))
    at leg is k (inr other) = subst HasCause (sym (set_there o.legs first k (change leg) other)) (h.causes k)

    by : (found : Option OrigLeg) → slice_get o.legs first ≡ found → IsTold (record o { legs = with_leg change first found o.legs })
    by None is = record { leg = h.leg; causes = h.causes; filled = h.filled }
    by (Some leg) is = record {
      leg = set_some o.legs first (change leg) h.leg;
      causes = λ k. at leg is k (cases_eq k first);
      filled = h.filled;
    }

touched_told : (change : OrigLeg → OrigLeg) → KeepsCause change → (slot : ℕ) (o : Orig) → IsTold o →
    IsTold (leg_changed (λ p x. record x { legs = with_changed_leg change p x.legs }) slot o)
touched_told change keeps slot o h = by (position_in slot o.legs)
  where
    by : (found : Option ℕ) → IsTold (leg_changed_at (λ p x. record x { legs = with_changed_leg change p x.legs }) found o)
    by None = h
    by (Some first) = leg_told change keeps first o h

answers_told : (seat slot number : ℕ) (s : Switch) → AllTold s.origs →
    AllTold (orig_changed (leg_changed (λ position. with_answer position seat) slot) number s).origs
answers_told seat slot number s h =
    changed_told (leg_changed (λ position. with_answer position seat) slot)
    (touched_told (with_leg_answer seat) (answer_keeps seat) slot) number s h

dies_told : (cause : Cause) (seat slot number : ℕ) (s : Switch) → AllTold s.origs →
    AllTold (orig_changed (dies cause seat slot) number s).origs
dies_told cause seat slot number s h =
    changed_told (dies cause seat slot) (touched_told (with_leg_death seat cause) (death_keeps seat cause) slot) number s h

without_told : (number : ℕ) (s : Switch) → AllTold s.origs → AllTold (without_orig number s).origs
without_told number s h = each_put_at ToldIn s.origs None (seat_of s.origs number) h tt

-- ---- what channels do

touches_told : KeptByTouches Told
touches_told = record {
  told = λ event plain h. h;
  globals = λ globals h. h;
  changed = λ slot old new there stays h. h;
  answers = λ seat slot number {s = s} h. answers_told seat slot number s h;
}

moved_told : (change : Chan → Chan) (slot : ℕ) (s : Switch) → AllTold s.origs → AllTold (after_move change slot s).origs
moved_told change slot s h = moved_there (λ (t : Switch). AllTold t.origs) (λ event t k. k) change slot s (λ c is. h) h

hung_told : (named : Members) (s : Switch) → AllTold s.origs → AllTold (after_hangups named s).origs
hung_told named s h =
    hangups_kept named s (λ (t : Switch). AllTold t.origs) (λ event t k. k) (λ slot old new t is falls k. k) (λ number t k. k) dies_told
    without_told h

bridges_left_told : (slots : List ℕ) (s : Switch) → AllTold s.origs → AllTold (after_bridges_left slots s).origs
bridges_left_told slots s h =
    bridges_left_kept slots s (λ (t : Switch). AllTold t.origs) (λ event t k. k) (λ slot old new t is falls k. k) (λ number t k. k) dies_told
    without_told h

peer_told : (slot other : ℕ) (s : Switch) → AllTold s.origs → AllTold (with_peer slot other s).origs
peer_told slot other s h = by (chan_at s other)
  where
    by : (found : Option Chan) → AllTold (with_peer_from slot other found s).origs
    by None = h
    by (Some c) = changed_there (λ (t : Switch). AllTold t.origs) (bridged (peer_of other c)) slot s (λ d is. h) h

joined_told : (kind : BridgeKind) (caller answerer : ℕ) (s : Switch) → AllTold s.origs → AllTold (joined_as kind caller answerer s).origs
joined_told kind caller answerer s h =
    let t : Switch = with_bridge caller answerer kind s in
    peer_told answerer caller (with_peer caller answerer t) (peer_told caller answerer t h)

left_told : (slot : ℕ) (s : Switch) → AllTold s.origs → AllTold (after_leaving slot s).origs
left_told slot s h =
    let awaited : Option ℕ = option_and_then awaited_by (chan_at s slot) in
    let given_up : AllTold (orig_given_up slot awaited s).origs =
    given_up_kept (λ (t : Switch). AllTold t.origs) without_told slot awaited s h in
    changed_there (λ (t : Switch). AllTold t.origs) at_leisure slot (orig_given_up slot awaited s) (λ c is. given_up) given_up

departed_told : (slots : List ℕ) (s : Switch) → AllTold s.origs → AllTold (after_departures slots s).origs
departed_told slots s h =
    departed_kept (λ (t : Switch). AllTold t.origs) (λ event t k. k) left_told hung_told bridges_left_told slots s h

-- ---- what comes of a bridge that is dialed

failed_told : (cause : Cause) (slot : ℕ) (s : Switch) → AllTold s.origs → AllTold (after_bridge_failure cause slot s).origs
unfolding after_bridge_failure
failed_told cause slot s h = by (chan_at s slot)
  where
    t : Switch
    t = disposed (cause_name cause) slot s

    told : AllTold t.origs
    told = disposed_kept Told touches_told (cause_name cause) slot {b = None} {s = s} h

    on : (onward : Bool) → AllTold (after_going_on onward cause slot t).origs
    on true = moved_told at_rest slot t told
    on false = hung_told ((slot, cause) ∷ []) t told

    by : (found : Option Chan) → AllTold (bridge_failed_from found cause slot s).origs
    by None = h
    by (Some c) = on (goes_on cause c.vars)

bridge_won_told : (slot leg : ℕ) (s : Switch) → AllTold s.origs → AllTold (after_bridge_win slot leg s).origs
bridge_won_told slot leg s h =
    bridge_won_kept (λ (t : Switch). AllTold t.origs) (λ (t : Switch). AllTold t.origs) touches_told slot leg
    (λ u can k. moved_told in_media leg (joined_as Dial slot leg u) (joined_told Dial slot leg u k)) (λ u cannot k. k) s h

-- ---- legs are made

made_has_cause : (plan : LegPlan) (caller : Caller) (orig : ℕ) (s : Switch) → HasCause (Some (leg_made plan caller orig s).leg)
unfolding leg_made
made_has_cause plan caller orig s = by (endpoint_of plan.endpoint)
  where
    in_slots : (call : Call) (found : Option (ℕ × ℕ)) → HasCause (Some (made_in call orig found s).leg)
    in_slots call None = λ died. refl
    in_slots call (Some (a, b)) = λ died. died

    loopback : (call : Call) (congested : Bool) →
        HasCause (Some (if congested then made_dead SwitchCongestion s else made_in call orig (free_pair s) s).leg)
    loopback call true = λ died. refl
    loopback call false = in_slots call (free_pair s)

    named : (call : Call) (misnamed : Bool) →
        HasCause (Some (if misnamed then made_dead NormalTemporaryFailure s else loopback_made call orig s).leg)
    named call true = λ died. refl
    named call false = loopback call (is_congested s)

    with_them : (exten context : Text) (vars : Option Variables) → HasCause (Some (made_with exten context vars caller orig s).leg)
    with_them exten context None = λ died. refl
    with_them exten context (Some vars) = named (call_with exten context vars caller) (is_misnamed (own_uuid vars) s)

    by : (endpoint : Endpoint) → HasCause (Some (made_of endpoint plan.pairs caller orig s).leg)
    by (Dead cause) = λ died. refl
    by (Loopback exten context) = with_them exten context (set_all plan.pairs no_variables)

group_has_causes : (plans : List LegPlan) (caller : Caller) (orig : ℕ) (s : Switch) (k : ℕ) →
    HasCause (slice_get (group_made plans caller orig s).legs k)
group_has_causes [] caller orig s k = tt
group_has_causes (plan ∷ plans) caller orig s zero = made_has_cause plan caller orig s
group_has_causes (plan ∷ plans) caller orig s (suc k) = group_has_causes plans caller orig (leg_made plan caller orig s).state k

group_has_leg : (plans : List LegPlan) (caller : Caller) (orig : ℕ) (s : Switch) → IsSome (slice_get plans 0) →
    IsSome (slice_get (group_made plans caller orig s).legs 0)
group_has_leg [] caller orig s some = some
group_has_leg (plan ∷ plans) caller orig s some = refl

told_births : KeptByBirths Told
told_births = record {
  spent = λ h. h;
  pair = λ call orig a b {s = s} short named first second h.
      leg_by (λ t. AllTold t.origs) call.uuid call (leg_end orig a b) s h (λ own. h);
}

-- the group that is tried first has a leg
first_filled : (groups : List (List LegPlan)) → AreGroups groups → IsSome (slice_get (first_group groups) 0)
first_filled groups are = by (slice_get groups 0) refl are.some
  where
    by : (found : Option (List LegPlan)) → slice_get groups 0 ≡ found → IsSome found → IsSome (slice_get (unwrap_or found []) 0)
    by None is some = some
    by (Some group) is some = are.filled 0 group is

-- ---- what leaves originations as they are

conn_told : (change : Conn → Conn) (conn : ℕ) (s : Switch) → AllTold s.origs → AllTold (conn_changed change conn s).origs
conn_told change conn s h = subst AllTold (sym (conn_unread (λ (t : Switch). t.origs) (λ conns t. refl) change conn s)) h

owing_told : (by : Giver) (what : JobWork) (s : Switch) → AllTold s.origs → AllTold (after_job_begin by what s).origs
owing_told (giver.Conn conn) what s h =
    conn_told (owed_since s.entries) conn (with_new_job (record { asker = asker.Conn conn; work = what }) s) h
owing_told (giver.Job number job) what s h = h

background_told : (given : Option Text) (command : Text) (s : Switch) → AllTold s.origs → AllTold (background_begun given command s).origs
background_told None command s h = h
background_told (Some uuid) command s h = h

ended_told : (number : ℕ) (who : Asker) (answer : Text) (s : Switch) → AllTold s.origs →
    AllTold (after_job_end number who answer s).origs
ended_told number (asker.Conn conn) answer s h = conn_told not_owed conn (without_job number s) h
ended_told number (asker.Background job) answer s h = h

won_told : (winner : Winner) (slot : ℕ) (s : Switch) → AllTold s.origs → AllTold (after_winning winner slot s).origs
unfolding after_winning
won_told winner slot s h = moved_told (won_by winner) slot s h

-- ---- every move

-- one begins with the legs of its first group
begun_told : (by : Owner) (groups : List (List LegPlan)) (plans : List LegPlan) (caller : Caller) (timeout : ℕ) (s : Switch) →
    AreGroups groups → IsSome (slice_get plans 0) → AllTold s.origs →
    AllTold
    (orig_begun by groups (group_made plans caller (next_orig_number s) s).legs timeout
    (group_made plans caller (next_orig_number s) s).state).origs
begun_told by groups plans caller timeout s are some h =
    let made : MadeGroup = group_made plans caller (next_orig_number s) s in
    let o : Orig = new_orig by groups made.legs (moment_after made.state.moment (seconds timeout)) in
    each_put_at ToldIn made.state.origs (Some (record { number = next_orig_number made.state; held = o })) (least_free made.state.origs 0)
    (group_made_kept Told told_births plans caller (next_orig_number s) {s = s} h)
    (record {
      leg = group_has_leg plans caller (next_orig_number s) s some;
      causes = group_has_causes plans caller (next_orig_number s) s;
      filled = are.filled;
    })

originates_told : (by : Giver) (groups : List (List LegPlan)) (winner : Winner) (caller : Caller) (timeout : Option ℕ) (s : Switch) →
    AreGroups groups → AllTold s.origs → AllTold (originate_begun by groups winner caller timeout s).origs
originates_told by groups winner caller timeout s are h =
    let plans : List LegPlan = first_group groups in
    let made : MadeGroup = group_made plans caller (next_orig_number s) s in
    owing_told by (Originate (next_orig_number s) winner caller)
    (orig_begun (owner.Job (job_number by made.state)) groups made.legs (unwrap_or timeout 60) made.state)
    (begun_told (owner.Job (job_number by made.state)) groups plans caller (unwrap_or timeout 60) s are (first_filled groups are) h)

-- a channel dials them, each with what it exports
dials_told : (slot : ℕ) (c : Chan) (groups : List (List LegPlan)) (timeout : ℕ) (s : Switch) → AreGroups groups → AllTold s.origs →
    AllTold
    (tried_by_slot slot groups timeout (next_orig_number s) (group_dialed (Some c) (first_group groups) (next_orig_number s) s)).origs
dials_told slot c groups timeout s are h =
    let plans : List LegPlan = all_behind (exported_pairs c.vars) (first_group groups) in
    let made : MadeGroup = group_made plans (caller_of c) (next_orig_number s) s in
    moved_told (awaiting (next_orig_number s)) slot (orig_begun (owner.Slot slot) groups made.legs timeout made.state)
    (begun_told (owner.Slot slot) groups plans (caller_of c) timeout s are
    (behind_filled (exported_pairs c.vars) (first_group groups) (first_filled groups are)) h)

regroups_told : (number : ℕ) (o : Orig) (plans : List LegPlan) (caller : Caller) (s : Switch) → orig_of s number ≡ Some o →
    ArePlans o plans → AllTold s.origs → AllTold (with_group number (group_made plans caller number s)).origs
regroups_told number o plans caller s there are h =
    changed_told (at_next_group made.legs) enters number made.state
    (group_made_kept Told told_births plans caller number {s = s} h)
  where
    made : MadeGroup
    made = group_made plans caller number s

    some : IsSome (slice_get plans 0)
    some = are.filled ((told_there s.origs number o there h).filled (o.current + 1) are.group are.next)

    enters : (x : Orig) → IsTold x → IsTold (at_next_group made.legs x)
    enters x told = by (may_enter_next x)
      where
        by : (test : Bool) → IsTold (if test then record x { current = x.current + 1; legs = made.legs } else x)
        by true = record {
          leg = group_has_leg plans caller number s some;
          causes = group_has_causes plans caller number s;
          filled = told.filled;
        }
        by false = told

-- where there is no origination
none_told : (count : ℕ) → AllTold (no_seats {T = Numbered Orig} count)
none_told count seat = subst ToldIn (sym (nothing_held (Numbered Orig) count seat)) tt

told_api : (by : Giver) → KeptByApi by Told
told_api by = record {
  spent = λ h. h;
  draws = λ h. h;
  waits = λ what {s = s} wait may room h. owing_told by what s h;
  originates = λ groups winner caller timeout {s = s} may are short room h. originates_told by groups winner caller timeout s are h;
  leavings = λ h. h;
  ends = λ reply notice {s = s} dead h. none_told (length s.origs);
}

told_jobs : (before : Switch) → KeptByJobs before Told
told_jobs before = record {
  out = λ number job does h. h;
  runs = λ number job. told_api (giver.Job number job);
  woken = λ number who what answer {s = s} wait does h. ended_told number who answer s h;
  failed = λ job who winner caller orig cause {s = s} does over h.
      ended_told job who (failed_text cause) (without_orig orig s) (without_told orig s h);
  wins = λ job who winner caller orig leg slots does won h.
      let t : Switch = after_winning winner (unwrap_or leg.slot 0) (raced slots before) in
      ended_told job who (made_text leg.uuid) (without_orig orig t)
      (without_told orig t (won_told winner (unwrap_or leg.slot 0) (raced slots before) h));
}

told_dials : (before : Switch) → KeptByDials before Told
told_dials before = record {
  spent = λ h. h;
  dials = λ slot c groups timeout {s = s} there works are h. dials_told slot c groups timeout s are h;
  regroups = λ number o plans caller {s = s} there are h. regroups_told number o plans caller s there are h;
  fails = λ slot orig cause {s = s} waits over h. failed_told cause slot (without_orig orig s) (without_told orig s h);
  wins = λ slot orig leg slots waits won h.
      bridge_won_told slot (unwrap_or leg.slot 0) (without_orig orig (raced slots before)) (without_told orig (raced slots before) h);
}

pub told_moves : (before : Switch) → KeptByMoves before Told
told_moves before = record {
  calls = record {
    touches = touches_told;
    hung = λ named {s = s} early h. hung_told named s h;
    joined = λ kind caller answerer c d {s = s} can there other one two first second was h. joined_told kind caller answerer s h;
    departs = λ slots {s = s} early h. departed_told slots s h;
    more = λ h. h;
    gone = λ slot old there dead early h. h;
  };
  jobs = told_jobs before;
  dials = told_dials before;
  commands = λ conn. record {
    api = told_api (giver.Conn conn);
    noticed = λ frame h. h;
    gave = λ frame h. h;
    asked = λ change {s = s} h. conn_told (with_subs_changed change) conn s h;
    admitted = λ {s = s} fresh h. conn_told admitted conn s h;
    parted = λ why {s = s} leaves was h. conn_told (parted why) conn s h;
    backgrounds = λ given command {s = s} room h. background_told given command s h;
  };
  visits = record {
    arrived = λ h. h;
    taken = λ conn h. h;
    holds = λ slot c text there waits room h. h;
    silent = λ conn {s = s} was h. conn_told (parted parting.EndOfInput) conn s h;
    left = λ conn was h. h;
    halted = λ reply notice {s = s} dead h. none_told (length s.origs);
  };
}
