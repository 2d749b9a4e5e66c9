-- What happens to channels and to originations leaves the rest of a switch as it is.
use Rattle.std.proofs.Common.{◌≡◌, ℕ, Bool, true, false, if◌then◌else◌, List, [], ◌∷◌, Option, None, Some, unwrap_or, refl, ap, ◌∙◌}
use Rattle.std.specs.Prelude.{codes}
use Rattle.std.specs.Option.{option_and_then}
use Rattle.fs_text.specs.Cause.{cause_name}
use Rattle.fs_text.specs.declared.causes.Cause.{Cause}
use Rattle.fs_doc.specs.Dialplans.{Context}
use Rattle.fs_doc.specs.declared.settings.Settings.{Settings}
use Rattle.fs_bridge.specs.declared.row.BridgeKind.{BridgeKind}
use Rattle.fs_bridge.specs.declared.row.BridgeKind.TheVariants.{Dial}
use Rattle.fs_bridge.specs.Closure.{Members}
use Rattle.fs_chan.specs.declared.chan.Chan.{Chan}
use Rattle.fs_chan.specs.Bridging.{awaiting, awaited_by, bridged, in_media, at_leisure}
use Rattle.fs_chan.specs.Changes.{at_rest}
use Rattle.fs_orig.specs.declared.caller.Caller.{Caller}
use Rattle.fs_orig.specs.declared.orig.Orig.{Orig}
use Rattle.fs_orig.specs.declared.orig.Owner.TheVariants as owner
use Rattle.fs_orig.specs.declared.plan.LegPlan.{LegPlan}
use Rattle.fs_orig.specs.declared.winner.Winner.{Winner}
use Rattle.fs_orig.specs.Changes.{with_answer, at_next_group}
use Rattle.fs_orig.specs.Plans.{all_behind}
use Rattle.fs_chan.specs.Bridging.{exported_pairs}
use Rattle.fs_seats.specs.declared.numbered.Numbered.{Numbered}
use Rattle.fs_seats.specs.Rows.{row_of}
use Rattle.fs_state.specs.declared.conn.Conn.{Conn}
use Rattle.fs_state.specs.Frames.{Gift}
use Rattle.fs_state.specs.declared.job.Asker.{Asker}
use Rattle.fs_state.specs.declared.job.Job.{Job}
use Rattle.fs_state.specs.declared.job.JobWork.{JobWork}
use Rattle.fs_state.specs.Counts.{Tallies}
use Rattle.fs_state.specs.Outboxes.{Frames}
use Rattle.fs_state.specs.Switch.{Switch, chan_at, with_bridge, orig_of, without_orig, next_orig_number}
use Rattle.fs_state.specs.Moves.{after_move, with_changed_chan, orig_changed_from, orig_changed, leg_changed}
use Rattle.fs_state.specs.Moves.{after_answer, orig_given_up}
use Rattle.fs_state.specs.Hangups.{after_hangups}
use Rattle.fs_state.specs.Leaving.{after_bridges_left}
use Rattle.fs_state.specs.Bridging.{can_join, peer_of, with_peer_from, with_peer, joined_as}
use Rattle.fs_machine.specs.declared.call.Call.{Call}
use Rattle.fs_machine.specs.Originations.{leg_end, pair_made, MadeGroup, group_made, won_by, after_winning}
use Rattle.fs_machine.specs.Attempts.{first_group, orig_begun, with_group}
use Rattle.fs_machine.specs.Bridging.{caller_of, group_dialed, goes_on, after_going_on, bridge_failed_from, after_bridge_failure, disposed}
use Rattle.fs_machine.specs.Bridging.{after_bridge_win}
use Rattle.fs_machine.specs.Dialing.{tried_by_slot}
use Rattle.fs_machine.specs.Joining.{after_leaving, after_departures}
use Rattle.fs_machine.proofs.LeaveLemmas.{departed_kept}
use Rattle.fs_machine.specs.Work.{after_work}
use Rattle.fs_machine.proofs.Kept.{Stage, Fact, KeptByTouches, KeptByCalls, KeptByBirths, DoesJob, KeptByDials, raced}
use Rattle.fs_machine.proofs.NameLemmas.{leg_by}
use Rattle.fs_machine.proofs.StayLemmas.{moved_there, changed_there}
use Rattle.fs_machine.proofs.HangLemmas.{dies, hangups_kept, bridges_left_kept, given_up_kept}
use Rattle.fs_machine.proofs.Walk.{answered_kept, disposed_kept, worked_kept, group_made_kept}

-- what is left of a switch without channels, bridges, originations, globals, news, and the numbers that these draw
pub record Rest : Type 0 where
  pub settings : Settings
  pub contexts : List Context
  pub reloads : ℕ
  pub jobs : List (Option (Numbered Job))
  pub conns : List (Option (Numbered Conn))
  pub outboxes : List Frames
  pub jobs_drawn : ℕ
  pub conns_drawn : ℕ
  pub moment : ℕ
  pub stopping : Option ℕ
  pub entries : ℕ
  pub cost : ℕ
  pub counts : Tallies
  pub replies : List Gift
  pub late : List Gift
  pub notices : List Gift

abbrev pub rest_of : Switch → Rest
rest_of s = record {
  settings = s.settings;
  contexts = s.contexts;
  reloads = s.reloads;
  jobs = s.jobs;
  conns = s.conns;
  outboxes = s.outboxes;
  jobs_drawn = s.drawn.jobs;
  conns_drawn = s.drawn.conns;
  moment = s.moment;
  stopping = s.stopping;
  entries = s.entries;
  cost = s.cost;
  counts = s.counts;
  replies = s.replies;
  late = s.late;
  notices = s.notices;
}

-- what holds of both holds of the one that a test chooses
pub whichever : {A : Type 0} → (P : A → Type 0) (b : Bool) (x y : A) → P x → P y → P (if b then x else y)
whichever P true x y first second = first
whichever P false x y first second = second

abbrev SameRest : Switch → Fact
SameRest s b t = rest_of t ≡ rest_of s

-- ---- single moves

pub orig_changed_rest : (change : Orig → Orig) (number : ℕ) (s : Switch) → rest_of (orig_changed change number s) ≡ rest_of s
orig_changed_rest change number s = by (orig_of s number)
  where
    by : (orig : Option Orig) → rest_of (orig_changed_from change number orig s) ≡ rest_of s
    by None = refl
    by (Some o) = refl

pub moved_rest : (change : Chan → Chan) (slot : ℕ) (s : Switch) → rest_of (after_move change slot s) ≡ rest_of s
moved_rest change slot s = moved_there (λ (t : Switch). rest_of t ≡ rest_of s) (λ event t h. h) change slot s (λ c is. refl) refl

changed_rest : (change : Chan → Chan) (slot : ℕ) (s : Switch) → rest_of (with_changed_chan change slot s) ≡ rest_of s
changed_rest change slot s = changed_there (λ (t : Switch). rest_of t ≡ rest_of s) change slot s (λ c is. refl) refl

pub hung_rest : (named : Members) (s : Switch) → rest_of (after_hangups named s) ≡ rest_of s
hung_rest named s =
    hangups_kept named s (λ (t : Switch). rest_of t ≡ rest_of s) (λ event t h. h) (λ slot old new t is falls h. h) (λ number t h. h)
    (λ cause seat leg number t h. orig_changed_rest (dies cause seat leg) number t ∙ h) (λ number t h. h) refl

bridges_left_rest : (slots : List ℕ) (s : Switch) → rest_of (after_bridges_left slots s) ≡ rest_of s
bridges_left_rest slots s =
    bridges_left_kept slots s (λ (t : Switch). rest_of t ≡ rest_of s) (λ event t h. h) (λ slot old new t is falls h. h) (λ number t h. h)
    (λ cause seat leg number t h. orig_changed_rest (dies cause seat leg) number t ∙ h) (λ number t h. h) refl

given_up_rest : (slot : ℕ) (awaited : Option ℕ) (s : Switch) → rest_of (orig_given_up slot awaited s) ≡ rest_of s
given_up_rest slot awaited s = given_up_kept (λ (t : Switch). rest_of t ≡ rest_of s) (λ number t h. h) slot awaited s refl

left_rest : (slot : ℕ) (s : Switch) → rest_of (after_leaving slot s) ≡ rest_of s
left_rest slot s =
    let awaited : Option ℕ = option_and_then awaited_by (chan_at s slot) in
    changed_rest at_leisure slot (orig_given_up slot awaited s) ∙ given_up_rest slot awaited s

peer_rest : (slot other : ℕ) (s : Switch) → rest_of (with_peer slot other s) ≡ rest_of s
peer_rest slot other s = by (chan_at s other)
  where
    by : (found : Option Chan) → rest_of (with_peer_from slot other found s) ≡ rest_of s
    by None = refl
    by (Some c) = changed_rest (bridged (peer_of other c)) slot s

pub joined_rest : (kind : BridgeKind) (caller answerer : ℕ) (s : Switch) → rest_of (joined_as kind caller answerer s) ≡ rest_of s
joined_rest kind caller answerer s =
    let t : Switch = with_bridge caller answerer kind s in
    peer_rest answerer caller (with_peer caller answerer t) ∙ peer_rest caller answerer t

departed_rest : (slots : List ℕ) (s : Switch) → rest_of (after_departures slots s) ≡ rest_of s
departed_rest slots s =
    departed_kept (λ (t : Switch). rest_of t ≡ rest_of s) (λ event t h. h) (λ at t h. left_rest at t ∙ h)
    (λ named t h. hung_rest named t ∙ h) (λ all t h. bridges_left_rest all t ∙ h) slots s refl

-- ---- facts on the rest

-- a fact that holds wherever the rest is the same is kept by what happens to channels
module _ (P : Fact) (same : (b : Stage) (t u : Switch) → P b t → rest_of u ≡ rest_of t → P b u)
    (more : (t : Switch) → P (Some 0) t → P (Some 1) t) where
  touches_by_rest : KeptByTouches P
  touches_by_rest = record {
    told = λ event plain h. same _ _ _ h refl;
    globals = λ globals h. same _ _ _ h refl;
    changed = λ slot old new there stays h. same _ _ _ h refl;
    answers = λ seat slot number {b = b} {s = s} h.
        same b s _ h (orig_changed_rest (leg_changed (λ position. with_answer position seat) slot) number s);
  }

  pub calls_by_rest : KeptByCalls P
  calls_by_rest = record {
    touches = touches_by_rest;
    hung = λ named {s = s} early h. same (Some 0) s _ h (hung_rest named s);
    joined = λ kind caller answerer c d {s = s} can there other one two first second was h.
        same (Some 0) s _ h (joined_rest kind caller answerer s);
    departs = λ slots {s = s} early h. same (Some 0) s _ h (departed_rest slots s);
    more = λ {s = s} h. more s h;
    gone = λ slot old there dead early h. more _ (same _ _ _ h refl);
  }

same_touches : (s : Switch) → KeptByTouches (SameRest s)
same_touches s = touches_by_rest (SameRest s) (λ b t u h e. e ∙ h) (λ t h. h)

answered_rest : (slot : ℕ) (s : Switch) → rest_of (after_answer slot s) ≡ rest_of s
answered_rest slot s = answered_kept (SameRest s) (same_touches s) slot {b = None} {s = s} refl

disposed_rest : (text : List ℕ) (slot : ℕ) (s : Switch) → rest_of (disposed text slot s) ≡ rest_of s
disposed_rest text slot s = disposed_kept (SameRest s) (same_touches s) text slot {b = None} {s = s} refl

pub won_rest : (winner : Winner) (slot : ℕ) (s : Switch) → rest_of (after_winning winner slot s) ≡ rest_of s
unfolding after_winning
won_rest winner slot s = moved_rest (won_by winner) slot s

-- a channel has failed to bridge
failure_rest : (cause : Cause) (slot : ℕ) (s : Switch) → rest_of (after_bridge_failure cause slot s) ≡ rest_of s
unfolding after_bridge_failure
failure_rest cause slot s = by (chan_at s slot)
  where
    t : Switch
    t = disposed (cause_name cause) slot s

    on : (onward : Bool) → rest_of (after_going_on onward cause slot t) ≡ rest_of s
    on true = moved_rest at_rest slot t ∙ disposed_rest (cause_name cause) slot s
    on false = hung_rest ((slot, cause) ∷ []) t ∙ disposed_rest (cause_name cause) slot s

    by : (found : Option Chan) → rest_of (bridge_failed_from found cause slot s) ≡ rest_of s
    by None = refl
    by (Some c) = on (goes_on cause c.vars)

-- a leg is joined to it
bridge_win_rest : (slot leg : ℕ) (s : Switch) → rest_of (after_bridge_win slot leg s) ≡ rest_of s
unfolding after_bridge_win
bridge_win_rest slot leg s =
    let t : Switch = after_answer slot s in
    let u : Switch = disposed (codes "SUCCESS") slot t in
    whichever (λ (v : Switch). rest_of v ≡ rest_of u) (can_join slot leg u) (after_move in_media leg (joined_as Dial slot leg u)) u
    (moved_rest in_media leg (joined_as Dial slot leg u) ∙ joined_rest Dial slot leg u) refl
    ∙ disposed_rest (codes "SUCCESS") slot t
    ∙ answered_rest slot s

-- ---- the legs of a group are made

pair_rest : (call : Call) (orig a b : ℕ) (s : Switch) → rest_of (pair_made call orig a b s) ≡ rest_of s
pair_rest call orig a b s =
    leg_by (λ t. rest_of t ≡ rest_of s) call.uuid call (leg_end orig a b) s refl (λ own. refl)

-- what is left does not tell that a pair was made
pub births_by_rest : (P : Fact) → ((b : Stage) (t u : Switch) → P b t → rest_of u ≡ rest_of t → P b u) →
    ((t : Switch) → P None t → P (Some 0) t) → KeptByBirths P
births_by_rest P same spent = record {
  spent = λ {s = s} h. spent s h;
  pair = λ call orig a b {s = s} short named first second h.
      same (Some 0) s (pair_made call orig a b s) h (pair_rest call orig a b s);
}

pub group_made_rest : (plans : List LegPlan) (caller : Caller) (orig : ℕ) (s : Switch) →
    rest_of (group_made plans caller orig s).state ≡ rest_of s
group_made_rest plans caller orig s =
    group_made_kept (SameRest s) (births_by_rest (SameRest s) (λ b t u h e. e ∙ h) (λ t h. h)) plans caller orig {s = s} refl

-- and an origination comes to them
pub regrouped_rest : (number : ℕ) (plans : List LegPlan) (caller : Caller) (s : Switch) →
    rest_of (with_group number (group_made plans caller number s)) ≡ rest_of s
regrouped_rest number plans caller s =
    let made : MadeGroup = group_made plans caller number s in
    orig_changed_rest (at_next_group made.legs) number made.state ∙ group_made_rest plans caller number s

-- a channel dials them
dialed_rest : (slot : ℕ) (c : Chan) (groups : List (List LegPlan)) (timeout : ℕ) (s : Switch) →
    rest_of (tried_by_slot slot groups timeout (next_orig_number s) (group_dialed (Some c) (first_group groups) (next_orig_number s) s))
    ≡ rest_of s
dialed_rest slot c groups timeout s =
    let plans : List LegPlan = all_behind (exported_pairs c.vars) (first_group groups) in
    let made : MadeGroup = group_made plans (caller_of c) (next_orig_number s) s in
    moved_rest (awaiting (next_orig_number s)) slot (orig_begun (owner.Slot slot) groups made.legs timeout made.state)
    ∙ group_made_rest plans (caller_of c) (next_orig_number s) s

-- what is left does not tell of channels that dial
pub dials_by_rest : (before : Switch) (P : Fact) → ((b : Stage) (t u : Switch) → P b t → rest_of u ≡ rest_of t → P b u) →
    ((t : Switch) → P None t → P (Some 0) t) → KeptByDials before P
dials_by_rest before P same spent = record {
  spent = λ {s = s} h. spent s h;
  dials = λ slot c groups timeout {s = s} there works are h. same (Some 0) s _ (spent s h) (dialed_rest slot c groups timeout s);
  regroups = λ number o plans caller {s = s} there next h. same (Some 0) s _ h (regrouped_rest number plans caller s);
  fails = λ slot orig cause {s = s} waits over h. same (Some 0) s _ h (failure_rest cause slot (without_orig orig s));
  wins = λ slot orig leg slots waits won h.
      same (Some 0) (raced slots before) _ h (bridge_win_rest slot (unwrap_or leg.slot 0) (without_orig orig (raced slots before)));
}

-- ---- all that a channel does by itself

same_rest : (s : Switch) → KeptByCalls (SameRest s)
same_rest s = calls_by_rest (SameRest s) (λ b t u h e. e ∙ h) (λ t h. h)

pub worked_rest : (slot : ℕ) (s : Switch) → rest_of (after_work slot s) ≡ rest_of s
worked_rest slot s =
    worked_kept s (SameRest s) (same_rest s) (dials_by_rest s (SameRest s) (λ b t u h e. e ∙ h) (λ t h. h)) slot refl

-- ---- a job is the one that it was

pub does_same : {s t : Switch} {number : ℕ} {who : Asker} {what : JobWork} → DoesJob s number who what → rest_of t ≡ rest_of s →
    DoesJob t number who what
does_same {s} {t} {number} does same = record { there = ap (λ (r : Rest). row_of r.jobs number) same ∙ does.there }
