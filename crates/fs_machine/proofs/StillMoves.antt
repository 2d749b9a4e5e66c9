-- Once the switch has come to its end nothing goes on in it any more: what the entry leaves that brings the end, and what the entries do
-- behind it.
use Rattle.std.proofs.Common.{◌≡◌, ℕ, zero, suc, ◌++◌, Bool, true, false, List, [], ◌∷◌, length, Option, None, Some, unwrap_or}
use Rattle.std.proofs.Common.{◌⊎◌, inl, inr, nat_lt, not, if◌then◌else◌, is_none, refl, sym, ap, subst, ◌∙◌, true≢false}
use Rattle.std.specs.Prelude.{is_some}
use Rattle.std.specs.Option.{option_and_then}
use Rattle.std.proofs.lemmas.Option.{none-some, same_Some}
use Rattle.fs_text.specs.Texts.{Text}
use Rattle.fs_text.specs.State.{state_row, state_number}
use Rattle.fs_text.specs.declared.states.State.{State}
use Rattle.fs_text.specs.declared.states.State.TheVariants as states
use Rattle.fs_text.specs.declared.event_names.EventName.TheVariants.{ChannelDestroy, ChannelState}
use Rattle.fs_chan.specs.declared.chan.Chan.{Chan}
use Rattle.fs_chan.specs.Changes.{is_live, in_state}
use Rattle.fs_chan.specs.Controlling.{dial_of}
use Rattle.fs_orig.specs.Changes.{with_answer}
use Rattle.fs_orig.specs.declared.caller.Caller.{Caller}
use Rattle.fs_orig.specs.declared.orig.Orig.{Orig}
use Rattle.fs_orig.specs.declared.plan.LegPlan.{LegPlan}
use Rattle.fs_orig.specs.declared.winner.Winner.{Winner}
use Rattle.fs_doc.specs.Reading.{Configuration}
use Rattle.fs_seats.specs.declared.numbered.Numbered.{Numbered}
use Rattle.fs_seats.specs.Seats.{held_in}
use Rattle.fs_seats.specs.Rows.{seat_of}
use Rattle.fs_seats.proofs.HeldLemmas.{nothing_held, held_there}
use Rattle.fs_seats.proofs.RowLemmas.{each_put_at}
use Rattle.fs_seats.proofs.TableLemmas.{IsWrittenOrKept, written_or_kept, kept_without, row_found}
use Rattle.fs_state.specs.declared.conn.Conn.{Conn}
use Rattle.fs_state.specs.declared.conn.Phase.{Phase}
use Rattle.fs_state.specs.declared.conn.Phase.TheVariants as phase
use Rattle.fs_state.specs.declared.conn.Parting.TheVariants as parting
use Rattle.fs_state.specs.declared.event.Event.{Event}
use Rattle.fs_state.specs.declared.job.Asker.{Asker}
use Rattle.fs_state.specs.declared.job.Asker.TheVariants as asker
use Rattle.fs_state.specs.declared.job.Job.{Job}
use Rattle.fs_state.specs.declared.job.JobWork.{JobWork}
use Rattle.fs_state.specs.declared.job.JobWork.TheVariants.{Originate}
use Rattle.fs_state.specs.Switch.{Switch, empty, chan_at, with_chan, conn_of, job_of, job_at, orig_of, with_event, without_conn, without_job}
use Rattle.fs_state.specs.Switch.{without_orig, with_new_job, next_orig_number, with_notice, with_frame_now, at_moment}
use Rattle.fs_state.specs.Bridging.{joined_as}
use Rattle.fs_state.specs.Ending.{released, released_in, ended}
use Rattle.fs_state.specs.Hangups.{lives}
use Rattle.fs_state.specs.Moves.{orig_changed, orig_changed_from, leg_changed, report_event, plain_event, after_report, after_destroy}
use Rattle.fs_machine.specs.declared.entry.Entry.{Entry}
use Rattle.fs_machine.specs.declared.entry.Act.{Act}
use Rattle.fs_machine.specs.declared.entry.Act.TheVariants as act
use Rattle.fs_machine.specs.declared.entry.Closing.{Closing}
use Rattle.fs_machine.specs.declared.entry.Closing.TheVariants as closing
use Rattle.fs_machine.specs.declared.refusal.Refusal.TheVariants as refusal
use Rattle.fs_machine.specs.declared.owing.Giver.{Giver}
use Rattle.fs_machine.specs.declared.owing.Giver.TheVariants as giver
use Rattle.fs_machine.specs.Connections.{phase_of, phase_at, conn_changed, conn_changed_from, admitted, parted, owed_since, not_owed}
use Rattle.fs_machine.specs.Connections.{with_subs_changed}
use Rattle.fs_machine.specs.Owing.{after_job_begin, background_begun, after_job_end}
use Rattle.fs_machine.specs.Originations.{after_winning, group_made}
use Rattle.fs_machine.specs.Attempts.{originate_begun, first_group}
use Rattle.fs_machine.specs.Texts.{made_text, failed_text}
use Rattle.fs_machine.specs.Jobs.{job_done, job_done_from}
use Rattle.fs_machine.specs.Work.{after_work, after_work_from, after_work_in}
use Rattle.fs_machine.specs.Controlling.{dial_at, is_left, conn_behind, after_letting_go, after_leavings}
use Rattle.fs_machine.specs.Loading.{is_loading_in, waits_for_load}
use Rattle.fs_machine.specs.Step.{reads, refusal_of, refused_act, acted, act_done, after_close, step}
use Rattle.fs_machine.specs.Runs.{run_from, IsRunFrom}
use Rattle.fs_machine.specs.Sound.{IsStill}
use Rattle.fs_machine.proofs.Kept.{Stage, Fact, AreDead, raced, KeptByTouches, KeptByCalls, KeptByJobs, KeptByDials, KeptByApi}
use Rattle.fs_machine.proofs.Kept.{KeptByCommands, KeptByMoves}
use Rattle.fs_machine.proofs.StayLemmas.{moved_there, dials_at_work}
use Rattle.fs_machine.proofs.StopLemmas.{released_held}
use Rattle.fs_machine.proofs.ControlLemmas.{behind_held}
use Rattle.fs_machine.proofs.OrderLemmas.{none_refused, not_refused}
use Rattle.fs_machine.proofs.FrontLemmas.{conn_unread}
use Rattle.fs_machine.proofs.RestLemmas.{Rest, rest_of, calls_by_rest, dials_by_rest, group_made_rest, joined_rest, won_rest}
use Rattle.fs_machine.proofs.Walk.{let_go_kept}
use Rattle.fs_machine.proofs.ActWalk.{acted_kept}
use Rattle.fs_machine.proofs.RunLemmas.{run_behind, runs_both}

-- ---- a switch that has come to its end

-- whoever stands there reads no commands
abbrev ReadsNone : Option (Numbered Conn) → Type 0
ReadsNone None = Unit {0}
ReadsNone (Some row) = reads row.held.phase ≡ false

-- it has come to its end, and nothing goes on in it
pub record IsOver (s : Switch) : Type 0 where
  pub stopping : is_some s.stopping ≡ true
  pub channels : (slot : ℕ) (c : Chan) → chan_at s slot ≡ Some c → is_live c ≡ false
  pub jobs : (seat : ℕ) → job_at s seat ≡ None
  pub conns : (seat : ℕ) → ReadsNone (held_in s.conns seat)

-- a connection that is there reads none
its_phase : (s : Switch) → IsOver s → (conn : ℕ) (c : Conn) → conn_of s conn ≡ Some c → reads c.phase ≡ false
its_phase s h conn c is =
    let found = row_found s.conns conn c is in
    subst (λ (x : Conn). reads x.phase ≡ false) found.3 (subst ReadsNone found.2.there (h.conns found.0))

pub reads_none : (s : Switch) → IsOver s → (conn : ℕ) → reads (phase_at s conn) ≡ false
reads_none s h conn = by (conn_of s conn) refl
  where
    by : (found : Option Conn) → conn_of s conn ≡ found → reads (phase_of found) ≡ false
    by None is = refl
    by (Some c) is = its_phase s h conn c is

no_job : (s : Switch) → IsOver s → (number : ℕ) (job : Job) → job_of s number ≡ Some job → ⊥
no_job s h number job is =
    let found = row_found s.jobs number job is in
    none-some found.1 (sym (h.jobs found.0) ∙ found.2.there)

-- as soundness has it
pub is_still : (s : Switch) → IsOver s → IsStill s
is_still s h = record { channels = h.channels; jobs = h.jobs; conns = reads_none s h }

-- ---- the end comes

over_at_end : (reply notice : Text) (s : Switch) → AreDead s → IsOver (ended reply notice s)
over_at_end reply notice s dead = record {
  stopping = refl;
  channels = λ slot c there. sym (ap lives there) ∙ dead slot;
  jobs = λ seat. nothing_held (Numbered Job) (length s.jobs) seat;
  conns = λ seat. subst ReadsNone (sym (released_held s.conns seat)) (by (held_in s.conns seat));
}
  where
    in_phase : (at : Phase) (c : Conn) → c.phase ≡ at → reads (released_in at c).phase ≡ false
    in_phase phase.Fresh c is = refl
    in_phase phase.Ready c is = refl
    in_phase phase.Ending c is = ap reads is
    in_phase phase.Closed c is = ap reads is

    by : (held : Option (Numbered Conn)) → ReadsNone (released held)
    by None = tt
    by (Some row) = in_phase row.held.phase row.held refl

-- ---- single changes

changed_over : (change : Conn → Conn) → ((c : Conn) → reads c.phase ≡ false → reads (change c).phase ≡ false) → (conn : ℕ) (s : Switch) →
    IsOver s → IsOver (conn_changed change conn s)
changed_over change keeps conn s h = by (conn_of s conn) refl
  where
    by : (found : Option Conn) → conn_of s conn ≡ found → IsOver (conn_changed_from change conn found s)
    by None is = h
    by (Some c) is = record {
      stopping = h.stopping;
      channels = h.channels;
      jobs = h.jobs;
      conns = each_put_at ReadsNone s.conns (Some (record { number = conn; held = change c })) (seat_of s.conns conn) h.conns
          (keeps c (its_phase s h conn c is));
    }

put_over : (slot : ℕ) (new : Chan) (s : Switch) → is_live new ≡ false → IsOver s → IsOver (with_chan slot (Some new) s)
put_over slot new s dead h = record {
  stopping = h.stopping;
  channels = λ at c is. by at c (written_or_kept s.channels slot (Some new) at c is);
  jobs = h.jobs;
  conns = h.conns;
}
  where
    by : (at : ℕ) (c : Chan) → IsWrittenOrKept s.channels slot (Some new) at c → is_live c ≡ false
    by at c (inl here) = ap is_live (sym (same_Some new c here.1)) ∙ dead
    by at c (inr kept) = h.channels at c kept.1

orig_over : (change : Orig → Orig) (number : ℕ) (s : Switch) → IsOver s → IsOver (orig_changed change number s)
orig_over change number s h = by (orig_of s number)
  where
    by : (found : Option Orig) → IsOver (orig_changed_from change number found s)
    by None = h
    by (Some o) = record { stopping = h.stopping; channels = h.channels; jobs = h.jobs; conns = h.conns }

-- nobody reads who parts because its channel has left
left_over : (s : Switch) → IsOver s → IsOver (after_leavings s)
left_over s h = record {
  stopping = h.stopping;
  channels = h.channels;
  jobs = h.jobs;
  conns = λ seat. subst ReadsNone (sym (behind_held s s.conns seat)) (by (held_in s.conns seat) (h.conns seat));
}
  where
    of : (row : Numbered Conn) (left : Bool) → ReadsNone (Some row) →
        ReadsNone (Some (if left then record { number = row.number; held = parted parting.ChannelLeft row.held } else row))
    of row true k = refl
    of row false k = k

    by : (held : Option (Numbered Conn)) → ReadsNone held → ReadsNone (conn_behind s held)
    by None k = tt
    by (Some row) k = of row (is_left s row) k

-- ---- an entry in which the end may come

-- Before anything has ended it the switch goes on. Behind that it goes on, or it is over.
abbrev Still : Fact
Still None s = s.stopping ≡ None
Still (Some zero) s = s.stopping ≡ None
Still (Some (suc n)) s = (s.stopping ≡ None) ⊎ IsOver s

-- so it is behind a change that ends nothing
still_by : (b : Stage) (s t : Switch) → t.stopping ≡ s.stopping → (IsOver s → IsOver t) → Still b s → Still b t
still_by None s t same keeps h = same ∙ h
still_by (Some zero) s t same keeps h = same ∙ h
still_by (Some (suc n)) s t same keeps (inl h) = inl (same ∙ h)
still_by (Some (suc n)) s t same keeps (inr h) = inr (keeps h)

same_stopping : (change : Conn → Conn) (conn : ℕ) (s : Switch) → (conn_changed change conn s).stopping ≡ s.stopping
same_stopping change conn s = conn_unread (λ (t : Switch). t.stopping) (λ conns t. refl) change conn s

same_by_rest : (s t : Switch) → rest_of t ≡ rest_of s → t.stopping ≡ s.stopping
same_by_rest s t same = ap (λ (r : Rest). r.stopping) same

conn_still : (b : Stage) (change : Conn → Conn) → ((c : Conn) → reads c.phase ≡ false → reads (change c).phase ≡ false) →
    (conn : ℕ) (s : Switch) → Still b s → Still b (conn_changed change conn s)
conn_still b change keeps conn s h =
    still_by b s (conn_changed change conn s) (same_stopping change conn s) (changed_over change keeps conn s) h

touches_still : KeptByTouches Still
touches_still = record {
  told = λ event {b = b} {s = s} plain h. still_by b s (with_event event s) refl
      (λ over. record { stopping = over.stopping; channels = over.channels; jobs = over.jobs; conns = over.conns }) h;
  globals = λ globals {b = b} {s = s} h. still_by b s (record s { globals = globals }) refl
      (λ over. record { stopping = over.stopping; channels = over.channels; jobs = over.jobs; conns = over.conns }) h;
  changed = λ slot old new {b = b} {s = s} there stays h. still_by b s (with_chan slot (Some new) s) refl
      (λ over. put_over slot new s (stays.keeps.live ∙ over.channels slot old there) over) h;
  answers = λ seat slot number {b = b} {s = s} h.
      let change : Orig → Orig = leg_changed (λ position. with_answer position seat) slot in
      still_by b s (orig_changed change number s) (orig_stopping change number s) (orig_over change number s) h;
}
  where
    orig_stopping : (change : Orig → Orig) (number : ℕ) (s : Switch) → (orig_changed change number s).stopping ≡ s.stopping
    orig_stopping change number s = by (orig_of s number)
      where
        by : (found : Option Orig) → (orig_changed_from change number found s).stopping ≡ s.stopping
        by None = refl
        by (Some o) = refl

-- what channels do ends nothing
abbrev Going : Fact
Going b s = s.stopping ≡ None

calls_go : KeptByCalls Going
calls_go = calls_by_rest Going (λ b t u h same. same_by_rest t u same ∙ h) (λ t h. h)

dials_go : (before : Switch) → KeptByDials before Going
dials_go before = dials_by_rest before Going (λ b t u h same. same_by_rest t u same ∙ h) (λ t h. h)

calls_still : KeptByCalls Still
calls_still = record {
  touches = touches_still;
  hung = λ named {s = s} early h. calls_go.hung named {s = s} early h;
  joined = λ kind caller answerer c d {s = s} can there other one two first second was h.
      same_by_rest s (joined_as kind caller answerer s) (joined_rest kind caller answerer s) ∙ h;
  departs = λ slots {s = s} early h. calls_go.departs slots {s = s} early h;
  more = λ h. inl h;
  gone = λ slot old there dead early h. inl h;
}

dials_still : (before : Switch) → KeptByDials before Still
dials_still before = record {
  spent = λ h. h;
  dials = λ slot c groups timeout {s = s} there works are h. (dials_go before).dials slot c groups timeout {s = s} there works are h;
  regroups = λ number o plans caller {s = s} there are h. (dials_go before).regroups number o plans caller {s = s} there are h;
  fails = λ slot orig cause {s = s} waits over h. (dials_go before).fails slot orig cause {s = s} waits over h;
  wins = λ slot orig leg slots waits won h. (dials_go before).wins slot orig leg slots waits won h;
}

-- ---- jobs and commands

begun_going : (by : Giver) (what : JobWork) (s : Switch) → (after_job_begin by what s).stopping ≡ s.stopping
begun_going (giver.Conn conn) what s =
    same_stopping (owed_since s.entries) conn (with_new_job (record { asker = asker.Conn conn; work = what }) s)
begun_going (giver.Job number job) what s = refl

ended_going : (number : ℕ) (who : Asker) (answer : Text) (s : Switch) → (after_job_end number who answer s).stopping ≡ s.stopping
ended_going number (asker.Conn conn) answer s = same_stopping not_owed conn (without_job number s)
ended_going number (asker.Background job) answer s = refl

background_going : (given : Option Text) (command : Text) (s : Switch) → (background_begun given command s).stopping ≡ s.stopping
background_going None command s = refl
background_going (Some uuid) command s = refl

originated_going : (by : Giver) (groups : List (List LegPlan)) (winner : Winner) (caller : Caller) (timeout : Option ℕ) (s : Switch) →
    (originate_begun by groups winner caller timeout s).stopping ≡ s.stopping
originated_going by groups winner caller timeout s =
    let made = group_made (first_group groups) caller (next_orig_number s) s in
    begun_going by (Originate (next_orig_number s) winner caller) _
    ∙ same_by_rest s made.state (group_made_rest (first_group groups) caller (next_orig_number s) s)

api_still : (by : Giver) → KeptByApi by Still
api_still by = record {
  spent = λ h. h;
  draws = λ h. inl h;
  waits = λ what {s = s} wait may room h. begun_going by what s ∙ h;
  originates = λ groups winner caller timeout {s = s} may are short room h. originated_going by groups winner caller timeout s ∙ h;
  leavings = λ {n = n} {s = s} h. still_by (Some n) s (after_leavings s) refl (left_over s) h;
  ends = λ reply notice {s = s} dead h. inr (over_at_end reply notice s dead);
}

jobs_still : (before : Switch) → KeptByJobs before Still
jobs_still before = record {
  out = λ number job does h. h;
  runs = λ number job. api_still (giver.Job number job);
  woken = λ number who what answer {s = s} wait does h. ended_going number who answer s ∙ h;
  failed = λ job who winner caller orig cause {s = s} does over h. ended_going job who (failed_text cause) (without_orig orig s) ∙ h;
  wins = λ job who winner caller orig leg slots does won h.
      let t : Switch = raced slots before in
      let u : Switch = after_winning winner (unwrap_or leg.slot 0) t in
      ended_going job who (made_text leg.uuid) (without_orig orig u) ∙ same_by_rest t u (won_rest winner (unwrap_or leg.slot 0) t) ∙ h;
}

-- whoever is admitted was fresh, and a switch goes on with such a connection
admitted_still : (n conn : ℕ) (s : Switch) → phase_at s conn ≡ phase.Fresh → Still (Some n) s → Still (Some n) (conn_changed admitted conn s)
admitted_still n conn s fresh h =
    still_by (Some n) s (conn_changed admitted conn s) (same_stopping admitted conn s)
    (λ over. absurd (true≢false (sym (ap reads fresh) ∙ reads_none s over conn))) h

commands_still : (conn : ℕ) → KeptByCommands conn Still
commands_still conn = record {
  api = api_still (giver.Conn conn);
  noticed = λ frame {b = b} {s = s} h. still_by b s (with_notice conn frame s) refl
      (λ over. record { stopping = over.stopping; channels = over.channels; jobs = over.jobs; conns = over.conns }) h;
  gave = λ frame {b = b} {s = s} h. still_by b s (with_frame_now conn frame s) refl
      (λ over. record { stopping = over.stopping; channels = over.channels; jobs = over.jobs; conns = over.conns }) h;
  asked = λ change {n = n} {s = s} h. conn_still (Some n) (with_subs_changed change) (λ c none. none) conn s h;
  admitted = λ {n = n} {s = s} fresh h. admitted_still n conn s fresh h;
  parted = λ why {n = n} {s = s} leaves was h. conn_still (Some n) (parted why) (λ c none. refl) conn s h;
  backgrounds = λ given command {s = s} room h. inl (background_going given command s ∙ h);
}

still_moves : (before : Switch) → KeptByMoves before Still
still_moves before = record {
  calls = calls_still;
  jobs = jobs_still before;
  dials = dials_still before;
  commands = commands_still;
  visits = record {
    arrived = λ h. h;
    taken = λ conn h. h;
    holds = λ slot c text there waits room h. h;
    silent = λ conn {s = s} was h. same_stopping (parted parting.EndOfInput) conn s ∙ h;
    left = λ conn was h. h;
    halted = λ reply notice {s = s} dead h. inr (over_at_end reply notice s dead);
  };
}

-- ---- entries behind the end

-- the end came by the same entry, and no slot is filled that was empty
pub record Remains (s t : Switch) : Type 0 where
  pub over : IsOver t
  pub stopping : t.stopping ≡ s.stopping
  pub empty : (slot : ℕ) → chan_at s slot ≡ None → chan_at t slot ≡ None

itself : (s : Switch) → IsOver s → Remains s s
itself s h = record { over = h; stopping = refl; empty = λ slot none. none }

-- where the channels are the same
remains_by : (s t : Switch) → IsOver t → t.stopping ≡ s.stopping → t.channels ≡ s.channels → Remains s t
remains_by s t over stopping same =
    record { over = over; stopping = stopping; empty = λ slot none. ap (λ channels. held_in channels slot) same ∙ none }

-- a dead channel is put where one is
put_remains : (s t : Switch) (slot : ℕ) (old : Chan) (new : Option Chan) → chan_at t slot ≡ Some old →
    IsOver (with_chan slot new t) → Remains s t → Remains s (with_chan slot new t)
put_remains s t slot old new there over h = record {
  over = over;
  stopping = h.stopping;
  empty = λ at none. held_there t.channels slot at new (λ same. apart at none same) ∙ h.empty at none;
}
  where
    apart : (at : ℕ) → chan_at s at ≡ None → at ≡ slot → ⊥
    apart at none same = none-some old (sym (h.empty at none) ∙ (ap (chan_at t) same ∙ there))

told_remains : (s : Switch) (event : Event) (t : Switch) → Remains s t → Remains s (with_event event t)
told_remains s event t h = record {
  over = record { stopping = h.over.stopping; channels = h.over.channels; jobs = h.over.jobs; conns = h.over.conns };
  stopping = h.stopping;
  empty = h.empty;
}

-- a channel that is gone reports how its call was
report_remains : (slot : ℕ) (s : Switch) → IsOver s → Remains s (after_report slot s)
unfolding state_row
report_remains slot s h =
    moved_there (λ (t : Switch). Remains s t) (λ event t k. told_remains s event t k) (in_state states.CsReporting) slot
    (with_event (report_event slot) s)
    (λ c is. put_remains s (with_event (report_event slot) s) slot c (Some (in_state states.CsReporting c)) is
    (put_over slot (in_state states.CsReporting c) (with_event (report_event slot) s) refl (first.over)) first)
    first
  where
    first : Remains s (with_event (report_event slot) s)
    first = told_remains s (report_event slot) s (itself s h)

-- and leaves its slot
destroy_remains : (slot : ℕ) (c : Chan) (s : Switch) → chan_at s slot ≡ Some c → IsOver s → Remains s (after_destroy slot s)
destroy_remains slot c s there h =
    told_remains s (plain_event ChannelDestroy slot) (with_event (plain_event ChannelState slot) (with_chan slot None s))
    (told_remains s (plain_event ChannelState slot) (with_chan slot None s)
    (put_remains s s slot c None there
    (record {
      stopping = h.stopping;
      channels = λ at d is. h.channels at d (kept_without s.channels slot at d is).1;
      jobs = h.jobs;
      conns = h.conns;
    })
    (itself s h)))

-- a channel works on only where it is dead
work_remains : (slot : ℕ) (s : Switch) → IsOver s → Remains s (after_work slot s)
unfolding after_work state_row
work_remains slot s h = by (chan_at s slot) refl
  where
    in_its : (at : State) (c : Chan) → chan_at s slot ≡ Some c → nat_lt (state_number at) (state_number states.CsHangup) ≡ false →
        Remains s (after_work_in at slot c s)
    in_its states.CsNew c there dead = absurd (true≢false dead)
    in_its states.CsInit c there dead = absurd (true≢false dead)
    in_its states.CsRouting c there dead = absurd (true≢false dead)
    in_its states.CsSoftExecute c there dead = absurd (true≢false dead)
    in_its states.CsExecute c there dead = absurd (true≢false dead)
    in_its states.CsExchangeMedia c there dead = absurd (true≢false dead)
    in_its states.CsPark c there dead = absurd (true≢false dead)
    in_its states.CsConsumeMedia c there dead = absurd (true≢false dead)
    in_its states.CsHangup c there dead = report_remains slot s h
    in_its states.CsReporting c there dead = destroy_remains slot c s there h
    in_its _ c there dead = itself s h

    by : (found : Option Chan) → chan_at s slot ≡ found → Remains s (after_work_from slot found s)
    by None is = itself s h
    by (Some c) is = in_its c.state c is (h.channels slot c is)

gone_remains : (conn : ℕ) (s t : Switch) → Remains s t → Remains s (without_conn conn t)
gone_remains conn s t h = record {
  over = record {
    stopping = h.over.stopping;
    channels = h.over.channels;
    jobs = h.over.jobs;
    conns = each_put_at ReadsNone t.conns None (seat_of t.conns conn) h.over.conns tt;
  };
  stopping = h.stopping;
  empty = h.empty;
}

-- what happens to a channel that others do not see fills no slot
touches_remain : (s : Switch) → KeptByTouches (λ b t. Remains s t)
touches_remain s = record {
  told = λ event {s = t} plain h. told_remains s event t h;
  globals = λ globals {s = t} h. record {
    over = record { stopping = h.over.stopping; channels = h.over.channels; jobs = h.over.jobs; conns = h.over.conns };
    stopping = h.stopping;
    empty = h.empty;
  };
  changed = λ slot old new {s = t} there stays h.
      put_remains s t slot old (Some new) there (put_over slot new t (stays.keeps.live ∙ h.over.channels slot old there) h.over) h;
  answers = λ seat slot number {s = t} h. changed (leg_changed (λ position. with_answer position seat) slot) number t h;
}
  where
    changed : (change : Orig → Orig) (number : ℕ) (t : Switch) → Remains s t → Remains s (orig_changed change number t)
    changed change number t h = by (orig_of t number)
      where
        by : (found : Option Orig) → Remains s (orig_changed_from change number found t)
        by None = h
        by (Some o) = record {
          over = record { stopping = h.over.stopping; channels = h.over.channels; jobs = h.over.jobs; conns = h.over.conns };
          stopping = h.stopping;
          empty = h.empty;
        }

-- so a connection may let its channel go
freed_remains : (conn : ℕ) (s : Switch) → IsOver s → Remains s (after_letting_go conn s)
freed_remains conn s h = let_go_kept (λ b t. Remains s t) (touches_remain s) conn {b = None} {s = s} (itself s h)

close_remains : (how : Closing) (conn : ℕ) (s : Switch) → IsOver s → Remains s (after_close how conn s)
close_remains closing.EndOfInput conn s h =
    let t : Switch = after_letting_go conn s in
    let k : Remains s t = freed_remains conn s h in
    let channels : (conn_changed (parted parting.EndOfInput) conn t).channels ≡ t.channels =
    conn_unread (λ (t : Switch). t.channels) (λ conns t. refl) (parted parting.EndOfInput) conn t in
    record {
      over = changed_over (parted parting.EndOfInput) (λ c none. refl) conn t k.over;
      stopping = same_stopping (parted parting.EndOfInput) conn t ∙ k.stopping;
      empty = λ slot none. ap (λ channels. held_in channels slot) channels ∙ k.empty slot none;
    }
close_remains closing.Sent conn s h = gone_remains conn s (after_letting_go conn s) (freed_remains conn s h)
close_remains closing.Failed conn s h = gone_remains conn s (after_letting_go conn s) (freed_remains conn s h)

-- no channel waits for a controller, for none lives
none_dials : (s : Switch) → IsOver s → (slot : ℕ) → is_none (dial_at s slot) ≡ false → ⊥
none_dials s h slot some = by (chan_at s slot) refl
  where
    its : (c : Chan) → chan_at s slot ≡ Some c → (text : Option Text) → dial_of c ≡ text → ⊥
    its c there None is =
        true≢false (sym (ap is_none (ap (option_and_then dial_of) there ∙ is)) ∙ some)
    its c there (Some text) is = true≢false (sym (dials_at_work c text is).live ∙ h.channels slot c there)

    by : (found : Option Chan) → chan_at s slot ≡ found → ⊥
    by None is = true≢false (sym (ap is_none (ap (option_and_then dial_of) is)) ∙ some)
    by (Some c) is = its c is (dial_of c) refl

-- nor does a job wait for a load
none_waits : (s : Switch) → IsOver s → (number : ℕ) → not (waits_for_load number s) ≡ false → ⊥
none_waits s h number waits = by (job_of s number) refl
  where
    by : (found : Option Job) → job_of s number ≡ found → ⊥
    by None is = true≢false (sym (ap (λ (held : Option Job). not (is_loading_in held)) is) ∙ waits)
    by (Some job) is = no_job s h number job is

-- no job is there, and nobody reads a command, comes, is dialed, or stops the switch once more
alone_remains : (a : Act) (s : Switch) → refused_act a s ≡ None → IsOver s → Remains s (acted a s).state
unfolding job_done
alone_remains act.Arrive s none h = absurd (true≢false (sym h.stopping ∙ (none_refused (is_some s.stopping) refusal.Gone _ none).0))
alone_remains act.Halt s none h = absurd (true≢false (sym h.stopping ∙ (none_refused (is_some s.stopping) refusal.Gone _ none).0))
alone_remains (act.Command conn block) s none h =
    absurd (true≢false (sym (ap not (reads_none s h conn)) ∙ (none_refused (not (reads (phase_at s conn))) refusal.Gone _ none).0))
alone_remains (act.Take conn) s none h =
    remains_by s (acted (act.Take conn) s).state
    (record { stopping = h.stopping; channels = h.channels; jobs = h.jobs; conns = h.conns }) refl refl
alone_remains (act.Close conn how) s none h = close_remains how conn s h
alone_remains (act.Dialed slot linked) s none h =
    absurd (none_dials s h slot (none_refused (is_none (dial_at s slot)) (refusal.NotDue None) _ none).0)
alone_remains (act.Work slot) s none h = work_remains slot s h
alone_remains (act.Job number) s none h = by (job_of s number) refl
  where
    by : (found : Option Job) → job_of s number ≡ found → Remains s (job_done_from number found s)
    by None is = itself s h
    by (Some job) is = absurd (no_job s h number job is)
alone_remains (act.Loaded number note) s none h =
    absurd (none_waits s h number (none_refused (not (waits_for_load number s)) (refusal.NotDue None) _ none).0)

-- nor does anybody read who parts behind it
act_remains : (a : Act) (s : Switch) → refused_act a s ≡ None → IsOver s → Remains s (act_done a s).state
act_remains a s none h =
    let k : Remains s (acted a s).state = alone_remains a s none h in
    record { over = left_over (acted a s).state k.over; stopping = k.stopping; empty = k.empty }

entry_remains : (s : Switch) (entry : Entry) → refusal_of s entry ≡ None → IsOver s → Remains s (step s entry).state
unfolding step
entry_remains s entry none h =
    let now : Switch = at_moment entry.moment s in
    let k : Remains now (act_done entry.act now).state =
    act_remains entry.act now (not_refused s entry none)
    (record { stopping = h.stopping; channels = h.channels; jobs = h.jobs; conns = h.conns }) in
    record {
      over = record { stopping = k.over.stopping; channels = k.over.channels; jobs = k.over.jobs; conns = k.over.conns };
      stopping = k.stopping;
      empty = k.empty;
    }

-- ---- runs

-- it goes on, or is over
abbrev GoesOrIsOver : Switch → Type 0
GoesOrIsOver s = (s.stopping ≡ None) ⊎ IsOver s

step_over : (s : Switch) (entry : Entry) → refusal_of s entry ≡ None → GoesOrIsOver s → GoesOrIsOver (step s entry).state
unfolding step
step_over s entry none (inl going) =
    let now : Switch = at_moment entry.moment s in
    by (acted_kept now Still (still_moves now) entry.act (λ loads config t h. h) going)
  where
    by : GoesOrIsOver (act_done entry.act (at_moment entry.moment s)).state → GoesOrIsOver (step s entry).state
    by (inl goes) = inl goes
    by (inr over) = inr (record { stopping = over.stopping; channels = over.channels; jobs = over.jobs; conns = over.conns })
step_over s entry none (inr over) = inr (entry_remains s entry none over).over

run_over : (s : Switch) (entries : List Entry) → IsRunFrom s entries → GoesOrIsOver s → GoesOrIsOver (run_from s entries)
run_over s [] run h = h
run_over s (entry ∷ entries) run h = run_over (step s entry).state entries run.1 (step_over s entry run.0 h)

-- so a switch is over once it has come to its end
pub stopped_is_over : (config : Configuration) (entries : List Entry) → IsRunFrom (empty config) entries →
    is_some (run_from (empty config) entries).stopping ≡ true → IsOver (run_from (empty config) entries)
stopped_is_over config entries run stops = by (run_over (empty config) entries run (inl refl))
  where
    by : GoesOrIsOver (run_from (empty config) entries) → IsOver (run_from (empty config) entries)
    by (inl goes) = absurd (true≢false (sym stops ∙ ap is_some goes))
    by (inr over) = over

-- and remains so
run_remains : (s : Switch) (more : List Entry) → IsRunFrom s more → IsOver s → Remains s (run_from s more)
run_remains s [] run h = itself s h
run_remains s (entry ∷ more) run h =
    let first : Remains s (step s entry).state = entry_remains s entry run.0 h in
    let rest : Remains (step s entry).state (run_from (step s entry).state more) = run_remains (step s entry).state more run.1 first.over in
    record {
      over = rest.over;
      stopping = rest.stopping ∙ first.stopping;
      empty = λ slot none. rest.empty slot (first.empty slot none);
    }

remains_stopped : (config : Configuration) (entries more : List Entry) → IsRunFrom (empty config) (entries ++ more) →
    is_some (run_from (empty config) entries).stopping ≡ true →
    Remains (run_from (empty config) entries) (run_from (empty config) (entries ++ more))
remains_stopped config entries more run stops =
    let both = runs_both (empty config) entries more run in
    subst (λ (t : Switch). Remains (run_from (empty config) entries) t) (sym (run_behind (empty config) entries more))
    (run_remains (run_from (empty config) entries) more both.1 (stopped_is_over config entries both.0 stops))

pub stays_stopping : (config : Configuration) (entries more : List Entry) → IsRunFrom (empty config) (entries ++ more) →
    is_some (run_from (empty config) entries).stopping ≡ true →
    (run_from (empty config) (entries ++ more)).stopping ≡ (run_from (empty config) entries).stopping
stays_stopping config entries more run stops = (remains_stopped config entries more run stops).stopping

pub stays_empty : (config : Configuration) (entries more : List Entry) (slot : ℕ) → IsRunFrom (empty config) (entries ++ more) →
    is_some (run_from (empty config) entries).stopping ≡ true → chan_at (run_from (empty config) entries) slot ≡ None →
    chan_at (run_from (empty config) (entries ++ more)) slot ≡ None
stays_empty config entries more slot run stops none = (remains_stopped config entries more run stops).empty slot none
