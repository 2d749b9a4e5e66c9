-- What happens to connections, jobs and originations leaves channels as they are, and all that channels see.
use Rattle.std.proofs.Common.{◌≡◌, ℕ, Bool, true, false, List, [], ◌∷◌, Option, None, Some, unwrap_or, option_and_then, ◌⊎◌}
use Rattle.std.proofs.Common.{inl, inr, refl, sym, ap, ◌∙◌}
use Rattle.std.proofs.lemmas.Bool.{cases_eq}
use Rattle.std.proofs.lemmas.Option.{same_Some}
use Rattle.fs_text.specs.Texts.{Text}
use Rattle.fs_vars.specs.Variables.{Variables}
use Rattle.fs_doc.specs.Dialplans.{Context}
use Rattle.fs_doc.specs.declared.settings.Settings.{Settings}
use Rattle.fs_text.specs.Cause.{cause_name}
use Rattle.fs_text.specs.declared.causes.Cause.{Cause}
use Rattle.fs_text.specs.declared.event_names.EventName.TheVariants.{ChannelExecuteComplete}
use Rattle.fs_bridge.specs.declared.row.BridgeKind.{BridgeKind}
use Rattle.fs_bridge.specs.declared.row.BridgeKind.TheVariants.{Dial}
use Rattle.fs_bridge.specs.Bridges.{BridgeRows, next_row, joined}
use Rattle.fs_bridge.specs.Closure.{Members}
use Rattle.fs_chan.specs.declared.chan.Chan.{Chan}
use Rattle.fs_chan.specs.Bridging.{awaiting, awaited_by, bridged, in_media, at_leisure, exported_pairs}
use Rattle.fs_chan.specs.Changes.{is_live, at_rest}
use Rattle.fs_chan.specs.Controlling.{held_by, dial_of}
use Rattle.fs_chan.specs.declared.peer.Peer.{Peer}
use Rattle.fs_orig.specs.declared.caller.Caller.{Caller}
use Rattle.fs_orig.specs.declared.leg.OrigLeg.{OrigLeg}
use Rattle.fs_orig.specs.declared.plan.LegPlan.{LegPlan}
use Rattle.fs_orig.specs.declared.orig.Orig.{Orig}
use Rattle.fs_orig.specs.declared.winner.Winner.{Winner}
use Rattle.fs_orig.specs.declared.orig.Owner.TheVariants as owner
use Rattle.fs_orig.specs.Changes.{with_answer, at_next_group}
use Rattle.fs_orig.specs.Plans.{all_behind}
use Rattle.fs_seats.specs.Seats.{held_in, with_held}
use Rattle.fs_seats.proofs.HeldLemmas.{held_here, held_there, held_within}
use Rattle.fs_seats.specs.declared.numbered.Numbered.{Numbered}
use Rattle.fs_seats.specs.Rows.{with_row}
use Rattle.fs_state.specs.declared.conn.Conn.{Conn}
use Rattle.fs_state.specs.declared.conn.Parting.TheVariants as parting
use Rattle.fs_state.specs.declared.event.Event.{Event}
use Rattle.fs_state.specs.declared.event.QueueAction.TheVariants.{Abort}
use Rattle.fs_state.specs.declared.job.Asker.{Asker}
use Rattle.fs_state.specs.declared.job.Asker.TheVariants as asker
use Rattle.fs_state.specs.declared.job.JobWork.{JobWork}
use Rattle.fs_state.specs.declared.job.JobWork.TheVariants.{Originate}
use Rattle.fs_state.specs.Counts.{Tallies}
use Rattle.fs_state.specs.Ending.{ended}
use Rattle.fs_state.specs.Switch.{Switch, chan_at, with_chan, with_bridge, conn_of, with_new_conn, orig_of, next_orig_number}
use Rattle.fs_state.specs.Switch.{with_new_job, without_job, without_orig, with_event}
use Rattle.fs_state.specs.Switch.{with_next_identifier}
use Rattle.fs_state.specs.Moves.{plain_event, application_event, running_at, with_changed_chan, after_move, orig_changed_from, orig_changed}
use Rattle.fs_state.specs.Moves.{leg_changed, is_owner, given_up_by, orig_given_up}
use Rattle.fs_state.specs.Queues.{queue_event}
use Rattle.fs_state.specs.Hangups.{lives, lives_at, after_hangups}
use Rattle.fs_state.specs.Leaving.{after_bridges_left}
use Rattle.fs_state.specs.Bridging.{can_join, bridge_event, peer_of, with_peer_from, with_peer, joined_as}
use Rattle.fs_machine.specs.Controlling.{coming_number, controller, after_leavings}
use Rattle.fs_machine.specs.Texts.{made_text, failed_text}
use Rattle.fs_machine.specs.Connections.{conn_changed_from, conn_changed, admitted, parted, owed_since, not_owed, with_subs_changed}
use Rattle.fs_machine.specs.Originations.{MadeGroup, group_made, after_winning}
use Rattle.fs_machine.specs.Attempts.{first_group, orig_begun, tried_by_job, originate_begun, with_group}
use Rattle.fs_machine.specs.declared.owing.Giver.{Giver}
use Rattle.fs_machine.specs.declared.owing.Giver.TheVariants as giver
use Rattle.fs_machine.specs.Owing.{job_number, after_job_begin, background_begun, job_event, after_job_end}
use Rattle.fs_machine.specs.Bridging.{caller_of, group_dialed, goes_on, after_going_on, bridge_failed_from, after_bridge_failure, disposed}
use Rattle.fs_machine.specs.Bridging.{after_bridge_win}
use Rattle.fs_machine.specs.Dialing.{tried_by_slot}
use Rattle.fs_machine.specs.Joining.{after_leaving, after_departures}
use Rattle.fs_machine.proofs.Kept.{Stage, Fact, TellsNoBridge, Links, Remains, Keeps, KeepsHold, KeptByTouches, KeptByCalls, KeptByBirths}
use Rattle.fs_machine.proofs.Kept.{KeptByDials, raced, DoesJob, HasWon, KeptByApi, KeptByMoves}
use Rattle.fs_machine.proofs.StayLemmas.{application_plain, moved_plain, changed_there, rest_holder, held_keeps}
use Rattle.fs_machine.proofs.LeaveLemmas.{departed_by}
use Rattle.fs_machine.proofs.Walk.{disposed_kept, group_made_kept}
use Rattle.fs_machine.proofs.RestLemmas.{whichever}
use Rattle.fs_machine.proofs.CanLemmas.{answerer_lives}
use Rattle.fs_machine.proofs.WonLemmas.{bridge_won_kept}

-- what is left of a switch without connections, jobs, originations and what they are given
pub record Front : Type 0 where
  pub settings : Settings
  pub contexts : List Context
  pub reloads : ℕ
  pub globals : Variables
  pub channels : List (Option Chan)
  pub bridges : BridgeRows
  pub identifiers : ℕ
  pub moment : ℕ
  pub entries : ℕ
  pub cost : ℕ
  pub counts : Tallies
  pub news : List Event

abbrev pub front_of : Switch → Front
front_of s = record {
  settings = s.settings;
  contexts = s.contexts;
  reloads = s.reloads;
  globals = s.globals;
  channels = s.channels;
  bridges = s.bridges;
  identifiers = s.drawn.identifiers;
  moment = s.moment;
  entries = s.entries;
  cost = s.cost;
  counts = s.counts;
  news = s.news;
}

pub orig_changed_front : (change : Orig → Orig) (number : ℕ) (s : Switch) → front_of (orig_changed change number s) ≡ front_of s
orig_changed_front change number s = by (orig_of s number)
  where
    by : (found : Option Orig) → front_of (orig_changed_from change number found s) ≡ front_of s
    by None = refl
    by (Some o) = refl

pub orig_changed_conns : (change : Orig → Orig) (number : ℕ) (s : Switch) → (orig_changed change number s).conns ≡ s.conns
orig_changed_conns change number s = by (orig_of s number)
  where
    by : (found : Option Orig) → (orig_changed_from change number found s).conns ≡ s.conns
    by None = refl
    by (Some o) = refl

-- what reads no connections does not tell a change of one
pub conn_unread : {A : Type 0} → (read : Switch → A) →
    ((conns : List (Option (Numbered Conn))) (t : Switch) → read (record t { conns = conns }) ≡ read t) →
    (change : Conn → Conn) (conn : ℕ) (s : Switch) → read (conn_changed change conn s) ≡ read s
conn_unread read same change conn s = by (conn_of s conn)
  where
    by : (found : Option Conn) → read (conn_changed_from change conn found s) ≡ read s
    by None = refl
    by (Some c) = same (with_row s.conns conn (change c)) s

conn_changed_front : (change : Conn → Conn) (conn : ℕ) (s : Switch) → front_of (conn_changed change conn s) ≡ front_of s
conn_changed_front change conn s = conn_unread front_of (λ conns t. refl) change conn s

begun_front : (by : Giver) (work : JobWork) (s : Switch) → front_of (after_job_begin by work s) ≡ front_of s
begun_front (giver.Conn conn) work s =
    conn_changed_front (owed_since s.entries) conn (with_new_job (record { asker = asker.Conn conn; work = work }) s)
begun_front (giver.Job number job) work s = refl

pub given_up_front : (slot : ℕ) (awaited : Option ℕ) (s : Switch) → front_of (orig_given_up slot awaited s) ≡ front_of s
given_up_front slot None s = refl
given_up_front slot (Some number) s = by (orig_of s number)
  where
    by : (found : Option Orig) → front_of (given_up_by slot number found s) ≡ front_of s
    by None = refl
    by (Some o) = whichever (λ (t : Switch). front_of t ≡ front_of s) (is_owner slot o.owner) (without_orig number s) s refl refl

given_up_conns : (slot : ℕ) (awaited : Option ℕ) (s : Switch) → (orig_given_up slot awaited s).conns ≡ s.conns
given_up_conns slot None s = refl
given_up_conns slot (Some number) s = by (orig_of s number)
  where
    by : (found : Option Orig) → (given_up_by slot number found s).conns ≡ s.conns
    by None = refl
    by (Some o) = whichever (λ (t : Switch). t.conns ≡ s.conns) (is_owner slot o.owner) (without_orig number s) s refl refl

-- ---- facts that read of a channel what a bridge leaves as it is

-- nothing that would be dead comes to media
abbrev pub Lively : Switch → ℕ → Type 0
Lively s slot = (c : Chan) → chan_at s slot ≡ Some c → is_live c ≡ true

-- such a fact has a case for each change that leaves of a channel what a bridge does, and for all that begins and ends bridges
pub record KeptByRemains (P : Fact) : Type 0 where
  pub told : (event : Event) {b : Stage} {s : Switch} → TellsNoBridge event → P b s → P b (with_event event s)
  pub globals : (globals : Variables) {b : Stage} {s : Switch} → P b s → P b (record s { globals = globals })
  pub joins : (kind : BridgeKind) (caller answerer : ℕ) {b : Stage} {s : Switch} → can_join caller answerer s ≡ true → P b s →
      P b (joined_as kind caller answerer s)
  pub remains : (slot : ℕ) (old new : Chan) {b : Stage} {s : Switch} → chan_at s slot ≡ Some old → Remains old new →
      KeepsHold old new → P b s → P b (with_chan slot (Some new) s)
  pub hung : (named : Members) {b : Stage} {s : Switch} → P b s → P b (after_hangups named s)
  pub leaves : (slots : List ℕ) {b : Stage} {s : Switch} → P b s → P b (after_bridges_left slots s)
  pub more : {s : Switch} → P (Some 0) s → P (Some 1) s
  pub gone : (slot : ℕ) (old : Chan) {s : Switch} → chan_at s slot ≡ Some old → is_live old ≡ false → P (Some 0) s →
      P (Some 1) (with_chan slot None s)

pub keeps_remains : {b : Stage} (old new : Chan) → Keeps b old new → Remains old new
keeps_remains old new keeps = record {
  uuid = ap (λ (l : Links). l.uuid) keeps.links;
  partner = ap (λ (l : Links). l.partner) keeps.links;
  live = keeps.live;
  short = keeps.short;
}

-- so is one of which a connection takes hold
pub held_remains : (conn : ℕ) (c : Chan) (text : Text) → dial_of c ≡ Some text → Remains c (held_by conn c)
held_remains conn c text waits = keeps_remains c (held_by conn c) (held_keeps {b = None} conn c text waits)

-- one that rests waits for no controller
rests_holder : (c : Chan) → KeepsHold c (at_rest c)
rests_holder c = rest_holder c.socket c.state (inl refl) refl

-- nor what a bridge makes of one
joined_holder : (peer : Peer) (c : Chan) → KeepsHold c (bridged peer c)
joined_holder peer c = record { socket = inl refl; dials = λ h. tt }

-- nor one that is at leisure, which nobody holds
leisure_holder : (c : Chan) → KeepsHold c (at_leisure c)
leisure_holder c = rest_holder None c.state (inr refl) refl

-- a slot stays lively where its channel lives on
lively_put : (s : Switch) (slot seat : ℕ) (old new : Chan) → chan_at s seat ≡ Some old → is_live new ≡ is_live old → Lively s slot →
    Lively (with_chan seat (Some new) s) slot
lively_put s slot seat old new there live h c is = by (cases_eq slot seat)
  where
    by : (slot ≡ seat) ⊎ (slot ≡ seat → ⊥) → is_live c ≡ true
    by (inl same) =
        let here : held_in (with_held s.channels seat (Some new)) slot ≡ Some new =
        ap (held_in (with_held s.channels seat (Some new))) same
        ∙ held_here s.channels seat (Some new) (held_within s.channels seat old there) in
        ap is_live (same_Some c new (sym is ∙ here)) ∙ live ∙ h old (ap (held_in s.channels) same ∙ there)
    by (inr other) = h c (sym (held_there s.channels seat slot (Some new) other) ∙ is)

lively_peer : (slot seat other : ℕ) (s : Switch) → Lively s slot → Lively (with_peer seat other s) slot
lively_peer slot seat other s h = by (chan_at s other)
  where
    by : (found : Option Chan) → Lively (with_peer_from seat other found s) slot
    by None = h
    by (Some d) =
        changed_there (λ (t : Switch). Lively t slot) (bridged (peer_of other d)) seat s
        (λ c there. lively_put s slot seat c (bridged (peer_of other d) c) there refl h) h

lively_join : (kind : BridgeKind) (a b slot : ℕ) (s : Switch) → Lively s slot → Lively (joined_as kind a b s) slot
lively_join kind a b slot s h = lively_peer slot b a (with_peer a b (with_bridge a b kind s))
    (lively_peer slot a b (with_bridge a b kind s) h)

-- a slot is, where its channel lives
lively_now : (s : Switch) (slot : ℕ) → lives_at s slot ≡ true → Lively s slot
lively_now s slot live c is = sym (ap lives is) ∙ live

-- two are joined, where each event is kept, all rows of bridges are, and what remains of channels
module _ (P : Fact) (told : (event : Event) (b : Stage) (s : Switch) → P b s → P b (with_event event s))
    (bridges : (rows : BridgeRows) (b : Stage) (s : Switch) → P b s → P b (record s { bridges = rows }))
    (remains : (slot : ℕ) (old new : Chan) (b : Stage) (s : Switch) → chan_at s slot ≡ Some old → Remains old new →
    KeepsHold old new → P b s → P b (with_chan slot (Some new) s)) where
  peer_remains : (slot other : ℕ) (b : Stage) (s : Switch) → P b s → P b (with_peer slot other s)
  peer_remains slot other b s h = by (chan_at s other)
    where
      by : (found : Option Chan) → P b (with_peer_from slot other found s)
      by None = h
      by (Some d) =
          changed_there (P b) (bridged (peer_of other d)) slot s
          (λ c there. remains slot c (bridged (peer_of other d) c) b s there
          (record { uuid = refl; partner = refl; live = refl; short = λ short. short }) (joined_holder (peer_of other d) c) h) h

  pub joins_by_remains : (kind : BridgeKind) (caller answerer : ℕ) (b : Stage) (s : Switch) → P b s → P b (joined_as kind caller answerer s)
  joins_by_remains kind caller answerer b s h =
      let t : Switch = with_bridge caller answerer kind s in
      let u : Switch = with_peer answerer caller (with_peer caller answerer t) in
      told (bridge_event (next_row caller answerer kind s.bridges)) b u
      (peer_remains answerer caller b (with_peer caller answerer t)
      (peer_remains caller answerer b t (bridges (joined caller answerer kind s.bridges) b s h)))

-- such a fact is kept by what channels do, and by those that dial, if it is where a leg that has won comes into media
module _ (before : Switch) (P : Fact)
    (same : (b : Stage) (t u : Switch) → P b t → front_of u ≡ front_of t → u.conns ≡ t.conns → P b u)
    (kept : KeptByRemains P) (births : KeptByBirths P)
    (media : (slot : ℕ) (u : Switch) → Lively u slot → P (Some 0) u → P (Some 0) (after_move in_media slot u)) where
  touches : KeptByTouches P
  touches = record {
    told = kept.told;
    globals = kept.globals;
    changed = λ slot old new there stays h. kept.remains slot old new there (keeps_remains old new stays.keeps) stays.holder h;
    answers = λ seat slot number {b = b} {s = s} h.
        same b s _ h (orig_changed_front (leg_changed (λ position. with_answer position seat) slot) number s)
        (orig_changed_conns (leg_changed (λ position. with_answer position seat) slot) number s);
  }

  changed_remains : (change : Chan → Chan) (slot : ℕ) (b : Stage) (s : Switch) → ((c : Chan) → Remains c (change c)) →
      ((c : Chan) → KeepsHold c (change c)) → P b s → P b (with_changed_chan change slot s)
  changed_remains change slot b s remains holder h =
      changed_there (P b) change slot s (λ c there. kept.remains slot c (change c) there (remains c) (holder c) h) h

  moved_remains : (change : Chan → Chan) (slot : ℕ) (b : Stage) (s : Switch) →
      ((c : Chan) → chan_at s slot ≡ Some c → Remains c (change c)) → ((c : Chan) → KeepsHold c (change c)) → P b s →
      P b (after_move change slot s)
  moved_remains change slot b s remains holder h =
      moved_plain (P b) (λ name at t plain k. kept.told (plain_event name at) plain k) change slot s
      (λ c there. kept.remains slot c (change c) there (remains c there) (holder c) h) h

  -- ---- bridges

  left_remains : (slot : ℕ) (b : Stage) (s : Switch) → P b s → P b (after_leaving slot s)
  left_remains slot b s h =
      let awaited : Option ℕ = option_and_then awaited_by (chan_at s slot) in
      changed_remains at_leisure slot b (orig_given_up slot awaited s)
      (λ c. record { uuid = refl; partner = refl; live = refl; short = λ short. short }) leisure_holder
      (same b s (orig_given_up slot awaited s) h (given_up_front slot awaited s) (given_up_conns slot awaited s))

  departed_remains : (slots : List ℕ) (b : Stage) (s : Switch) → P b s → P b (after_departures slots s)
  departed_remains slots b s h =
      departed_by (P b) (λ name slot t k. kept.told (queue_event Abort name slot) (refl, tt) k) (λ slot t k. left_remains slot b t k)
      (λ named t k. kept.hung named k) (λ all t k. kept.leaves all k) slots s h

  pub calls_by_remains : KeptByCalls P
  calls_by_remains = record {
    touches = touches;
    hung = λ named early h. kept.hung named h;
    joined = λ kind caller answerer c d can there other one two first second was h. kept.joins kind caller answerer can h;
    departs = λ slots {s = s} early h. departed_remains slots (Some 0) s h;
    more = kept.more;
    gone = λ slot old there dead early h. kept.gone slot old there dead h;
  }

  -- ---- channels that dial

  failed_remains : (cause : Cause) (slot : ℕ) (s : Switch) → P (Some 0) s → P (Some 0) (after_bridge_failure cause slot s)
  unfolding after_bridge_failure
  failed_remains cause slot s h = by (chan_at s slot)
    where
      told : P (Some 0) (disposed (cause_name cause) slot s)
      told = disposed_kept P touches (cause_name cause) slot h

      on : (onward : Bool) → P (Some 0) (after_going_on onward cause slot (disposed (cause_name cause) slot s))
      on true =
          kept.told (application_event ChannelExecuteComplete (running_at slot (disposed (cause_name cause) slot s)) slot)
          (application_plain (running_at slot (disposed (cause_name cause) slot s)) slot)
          (moved_remains at_rest slot (Some 0) (disposed (cause_name cause) slot s)
          (λ c there. record { uuid = refl; partner = refl; live = refl; short = λ short. short }) rests_holder told)
      on false = kept.hung ((slot, cause) ∷ []) told

      by : (found : Option Chan) → P (Some 0) (bridge_failed_from found cause slot s)
      by None = h
      by (Some c) = on (goes_on cause c.vars)

  at_one : KeptByTouches (λ b s. P (Some 0) s)
  at_one = record {
    told = λ event plain h. touches.told event plain h;
    globals = λ globals h. touches.globals globals h;
    changed = λ slot old new there stays h. kept.remains slot old new there (keeps_remains old new stays.keeps) stays.holder h;
    answers = λ seat slot number h. touches.answers seat slot number h;
  }

  won_remains : (slot leg : ℕ) (s : Switch) → P (Some 0) s → P (Some 0) (after_bridge_win slot leg s)
  won_remains slot leg s h =
      bridge_won_kept (P (Some 0)) (P (Some 0)) at_one slot leg
      (λ u can k. media leg (joined_as Dial slot leg u)
      (lively_join Dial slot leg leg u (lively_now u leg (answerer_lives slot leg u can))) (kept.joins Dial slot leg can k))
      (λ u cannot k. k) s h

  dialed_remains : (slot : ℕ) (c : Chan) (groups : List (List LegPlan)) (timeout : ℕ) (s : Switch) → P None s →
      P (Some 0)
      (tried_by_slot slot groups timeout (next_orig_number s) (group_dialed (Some c) (first_group groups) (next_orig_number s) s))
  dialed_remains slot c groups timeout s h =
      let number : ℕ = next_orig_number s in
      let plans : List LegPlan = all_behind (exported_pairs c.vars) (first_group groups) in
      let made : MadeGroup = group_made plans (caller_of c) number s in
      let begun : Switch = orig_begun (owner.Slot slot) groups made.legs timeout made.state in
      moved_remains (awaiting number) slot (Some 0) begun
      (λ d there. record { uuid = refl; partner = refl; live = refl; short = λ short. short })
      (λ d. record { socket = inl refl; dials = λ k. tt })
      (same (Some 0) made.state begun (group_made_kept P births plans (caller_of c) number {s = s} (births.spent h)) refl refl)

  regroups_same : (number : ℕ) (made : MadeGroup) → P (Some 0) made.state → P (Some 0) (with_group number made)
  regroups_same number made h =
      same (Some 0) made.state _ h (orig_changed_front (at_next_group made.legs) number made.state)
      (orig_changed_conns (at_next_group made.legs) number made.state)

  pub dials_by_remains : KeptByDials before P
  dials_by_remains = record {
    spent = births.spent;
    dials = λ slot c groups timeout {s = s} there works are h. dialed_remains slot c groups timeout s h;
    regroups = λ number o plans caller {s = s} there next h. regroups_same number (group_made plans caller number s)
        (group_made_kept P births plans caller number {s = s} h);
    fails = λ slot orig cause {s = s} waits over h. failed_remains cause slot (without_orig orig s)
        (same (Some 0) s (without_orig orig s) h refl refl);
    wins = λ slot orig leg slots waits won h.
        won_remains slot (unwrap_or leg.slot 0) (without_orig orig (raced slots before))
        (same (Some 0) (raced slots before) (without_orig orig (raced slots before)) h refl refl);
  }

-- ---- what happens to connections and jobs

-- a fact that reads neither these nor originations is kept by all moves, if what channels do keeps it, a leg that wins, and an identifier
-- that is drawn for no slot
module _ (before : Switch) (P : Fact) (same : (b : Stage) (t u : Switch) → P b t → front_of u ≡ front_of t → P b u)
    (calls : KeptByCalls P) (births : KeptByBirths P) (dials : KeptByDials before P)
    (wins : (job : ℕ) (who : Asker) (winner : Winner) (caller : Caller) (orig : ℕ) (leg : OrigLeg) (slots : List ℕ) →
    DoesJob (raced slots before) job who (Originate orig winner caller) → HasWon before orig leg slots →
    P (Some 0) (raced slots before) → P (Some 0) (after_winning winner (unwrap_or leg.slot 0) (raced slots before)))
    (draws : (s : Switch) → P None s → P (Some 1) (with_next_identifier s))
    (holds : (slot conn : ℕ) (c : Chan) (text : Text) (s : Switch) → chan_at s slot ≡ Some c → dial_of c ≡ Some text → P (Some 0) s →
    P (Some 0) (with_chan slot (Some (held_by conn c)) s)) where
  changed_same : (change : Conn → Conn) (conn n : ℕ) (s : Switch) → P (Some n) s → P (Some n) (conn_changed change conn s)
  changed_same change conn n s h = same (Some n) s _ h (conn_changed_front change conn s)

  -- an answer that is told is an event that tells of no bridge
  ended_same : (number : ℕ) (who : Asker) (answer : Text) (s : Switch) → P (Some 0) s → P (Some 0) (after_job_end number who answer s)
  ended_same number (asker.Conn conn) answer s h = same (Some 0) s _ h (conn_changed_front not_owed conn (without_job number s))
  ended_same number (asker.Background job) answer s h =
      calls.touches.told (job_event job answer) (refl, tt) (same (Some 0) s (without_job number s) h refl)

  over_same : (job : ℕ) (who : Asker) (orig : ℕ) (answer : Text) (s : Switch) → P (Some 0) s →
      P (Some 0) (after_job_end job who answer (without_orig orig s))
  over_same job who orig answer s h = ended_same job who answer (without_orig orig s) (same (Some 0) s _ h refl)

  tried_same : (by : Giver) (groups : List (List LegPlan)) (winner : Winner) (caller : Caller) (timeout orig : ℕ) (made : MadeGroup) →
      P (Some 0) made.state → P (Some 0) (tried_by_job by groups winner caller timeout orig made)
  tried_same by groups winner caller timeout orig made h =
      same (Some 0) made.state _ h (begun_front by (Originate orig winner caller)
      (orig_begun (owner.Job (job_number by made.state)) groups made.legs timeout made.state))

  originates_same : (by : Giver) (groups : List (List LegPlan)) (winner : Winner) (caller : Caller) (timeout : Option ℕ) (s : Switch) →
      P None s → P (Some 0) (originate_begun by groups winner caller timeout s)
  originates_same by groups winner caller timeout s h =
      tried_same by groups winner caller (unwrap_or timeout 60) (next_orig_number s)
      (group_made (first_group groups) caller (next_orig_number s) s)
      (group_made_kept P births (first_group groups) caller (next_orig_number s) {s = s} (births.spent h))

  api_same : (by : Giver) → KeptByApi by P
  api_same by = record {
    spent = births.spent;
    draws = λ {s = s} h. draws s h;
    waits = λ what {s = s} wait may room h. same (Some 0) s _ (births.spent h) (begun_front by what s);
    originates = λ groups winner caller timeout {s = s} may are short room h. originates_same by groups winner caller timeout s h;
    leavings = λ {n = n} {s = s} h. same (Some n) s (after_leavings s) h refl;
    ends = λ reply notice {s = s} dead h. calls.more (same (Some 0) s (ended reply notice s) h refl);
  }

  backgrounds_same : (given : Option Text) (command : Text) (s : Switch) → P None s → P (Some 1) (background_begun given command s)
  backgrounds_same None command s h = same (Some 1) (with_next_identifier s) _ (draws s h) refl
  backgrounds_same (Some uuid) command s h = same (Some 1) s _ (calls.more (births.spent h)) refl

  pub moves_by_front : KeptByMoves before P
  moves_by_front = record {
    calls = calls;
    jobs = record {
      out = λ number job {s = s} does h. same None s (without_job number s) h refl;
      runs = λ number job. api_same (giver.Job number job);
      woken = λ number who what answer {s = s} wait does h. ended_same number who answer s h;
      failed = λ job who winner caller orig cause {s = s} does over h. over_same job who orig (failed_text cause) s h;
      wins = λ job who winner caller orig leg slots does won h.
          over_same job who orig (made_text leg.uuid) (after_winning winner (unwrap_or leg.slot 0) (raced slots before))
          (wins job who winner caller orig leg slots does won h);
    };
    dials = dials;
    commands = λ conn. record {
      api = api_same (giver.Conn conn);
      noticed = λ frame h. same _ _ _ h refl;
      gave = λ frame h. same _ _ _ h refl;
      asked = λ change {n = n} {s = s} h. changed_same (with_subs_changed change) conn n s h;
      admitted = λ {n = n} {s = s} fresh h. changed_same admitted conn n s h;
      parted = λ why {n = n} {s = s} leaves was h. changed_same (parted why) conn n s h;
      backgrounds = λ given command {s = s} room h. backgrounds_same given command s h;
    };
    visits = record {
      arrived = λ h. same _ _ _ (births.spent h) refl;
      taken = λ conn h. same _ _ _ h refl;
      holds = λ slot c text {s = s} there waits room h.
          holds slot (coming_number s) c text (with_new_conn (controller slot c text) s) there waits (same _ _ _ (births.spent h) refl);
      silent = λ conn {s = s} was h. changed_same (parted parting.EndOfInput) conn 0 s h;
      left = λ conn was h. same _ _ _ h refl;
      halted = λ reply notice {s = s} dead h. calls.more (same (Some 0) s (ended reply notice s) h refl);
    };
  }
