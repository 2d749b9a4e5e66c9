-- A connection parts for the end of the switch only where the switch comes to its end, and a switch in which one reads commands goes on.
use Rattle.std.proofs.Common.{◌≡◌, ℕ, Bool, true, false, if◌then◌else◌, List, [], ◌∷◌, Option, None, Some, option_and_then, unwrap_or}
use Rattle.std.proofs.Common.{refl, sym, ap, subst, ◌∙◌, true≢false}
use Rattle.std.specs.Prelude.{is_some}
use Rattle.std.proofs.lemmas.Option.{none-some}
use Rattle.fs_text.specs.Texts.{Text}
use Rattle.fs_orig.specs.declared.caller.Caller.{Caller}
use Rattle.fs_orig.specs.declared.plan.LegPlan.{LegPlan}
use Rattle.fs_orig.specs.declared.winner.Winner.{Winner}
use Rattle.fs_doc.specs.Reading.{Configuration}
use Rattle.fs_seats.specs.declared.numbered.Numbered.{Numbered}
use Rattle.fs_seats.specs.Seats.{held_in, least_free}
use Rattle.fs_seats.specs.Rows.{seat_of}
use Rattle.fs_seats.proofs.HeldLemmas.{nothing_held}
use Rattle.fs_seats.proofs.RowLemmas.{each_put_at}
use Rattle.fs_seats.proofs.TableLemmas.{row_found}
use Rattle.fs_state.specs.declared.conn.Conn.{Conn}
use Rattle.fs_state.specs.declared.conn.Parting.{Parting}
use Rattle.fs_state.specs.declared.conn.Parting.TheVariants as parting
use Rattle.fs_state.specs.declared.job.Asker.{Asker}
use Rattle.fs_state.specs.declared.job.Asker.TheVariants as asker
use Rattle.fs_state.specs.declared.job.JobWork.{JobWork}
use Rattle.fs_state.specs.declared.job.JobWork.TheVariants.{Originate}
use Rattle.fs_state.specs.Drawn as numbers
use Rattle.fs_state.specs.Ending.{ended}
use Rattle.fs_state.specs.Switch.{Switch, with_new_conn, empty, conn_of, with_new_job, without_job, without_orig, next_orig_number, at_moment}
use Rattle.fs_machine.specs.declared.entry.Entry.{Entry}
use Rattle.fs_machine.specs.declared.owing.Giver.{Giver}
use Rattle.fs_machine.specs.declared.owing.Giver.TheVariants as giver
use Rattle.fs_machine.specs.Controlling.{is_left, conn_behind, controller, after_leavings}
use Rattle.fs_machine.specs.Connections.{phase_at, conn_changed, conn_changed_from, admitted, parted, owed_since, not_owed, with_subs_changed}
use Rattle.fs_machine.specs.Owing.{after_job_begin, background_begun, after_job_end}
use Rattle.fs_machine.specs.Originations.{MadeGroup, after_winning, group_made}
use Rattle.fs_machine.specs.Attempts.{originate_begun, first_group}
use Rattle.fs_machine.specs.Questions.{parting_at}
use Rattle.fs_machine.specs.Texts.{made_text, failed_text}
use Rattle.fs_machine.specs.Step.{reads, new_conn, step}
use Rattle.fs_machine.specs.Runs.{run_from, IsRunFrom}
use Rattle.fs_machine.proofs.Kept.{Fact, LeavesBy, raced, KeptByApi, KeptByMoves}
use Rattle.fs_machine.proofs.ActWalk.{acted_kept}
use Rattle.fs_machine.proofs.ControlLemmas.{behind_held}
use Rattle.fs_machine.proofs.RestLemmas.{Rest, rest_of, calls_by_rest, dials_by_rest, group_made_rest, won_rest}
use Rattle.fs_machine.proofs.StillMoves.{reads_none, stopped_is_over}

-- whoever stands there and has parted for the end of the switch has seen it
abbrev SawEnd : Option ℕ → Option (Numbered Conn) → Type 0
SawEnd stopping None = Unit {0}
SawEnd stopping (Some row) = row.held.parting ≡ Some parting.Stopped → is_some stopping ≡ true

abbrev AllSaw : Switch → Type 0
AllSaw s = (seat : ℕ) → SawEnd s.stopping (held_in s.conns seat)

abbrev Seen : Fact
Seen b s = AllSaw s

-- so it is for the connection of a number
its_end : (s : Switch) → AllSaw s → (conn : ℕ) (c : Conn) → conn_of s conn ≡ Some c → c.parting ≡ Some parting.Stopped →
    is_some s.stopping ≡ true
its_end s h conn c is =
    let found = row_found s.conns conn c is in
    subst (λ (x : Conn). x.parting ≡ Some parting.Stopped → is_some s.stopping ≡ true) found.3
    (subst (SawEnd s.stopping) found.2.there (h found.0))

pub saw_end : (s : Switch) → AllSaw s → (conn : ℕ) → parting_at s conn ≡ Some parting.Stopped → is_some s.stopping ≡ true
saw_end s h conn is = by (conn_of s conn) refl
  where
    by : (found : Option Conn) → conn_of s conn ≡ found → is_some s.stopping ≡ true
    by None none = absurd (none-some parting.Stopped (sym (ap (option_and_then (λ (c : Conn). c.parting)) none) ∙ is))
    by (Some c) there = its_end s h conn c there (sym (ap (option_and_then (λ (c : Conn). c.parting)) there) ∙ is)

-- ---- every move

rest_saw : (s t : Switch) → rest_of t ≡ rest_of s → AllSaw s → AllSaw t
rest_saw s t same h = subst (λ (r : Rest). (seat : ℕ) → SawEnd r.stopping (held_in r.conns seat)) (sym same) h

-- a connection is changed that does not part for this
changed_saw : (change : Conn → Conn) → ((c : Conn) → (change c).parting ≡ Some parting.Stopped → c.parting ≡ Some parting.Stopped) →
    (conn : ℕ) (s : Switch) → AllSaw s → AllSaw (conn_changed change conn s)
changed_saw change keeps conn s h = by (conn_of s conn) refl
  where
    by : (found : Option Conn) → conn_of s conn ≡ found → AllSaw (conn_changed_from change conn found s)
    by None is = h
    by (Some c) is =
        each_put_at (SawEnd s.stopping) s.conns (Some (record { number = conn; held = change c })) (seat_of s.conns conn) h
        (λ stops. its_end s h conn c is (keeps c stops))

parted_saw : (why : Parting) → LeavesBy why → (c : Conn) → (parted why c).parting ≡ Some parting.Stopped → c.parting ≡ Some parting.Stopped
parted_saw parting.Exit leaves c is = absurd (cc)
parted_saw parting.AuthRefused leaves c is = absurd (cc)
parted_saw parting.EndOfInput leaves c is = absurd leaves
parted_saw parting.Stopped leaves c is = absurd leaves
parted_saw parting.ChannelLeft leaves c is = absurd leaves

silent_saw : (c : Conn) → (parted parting.EndOfInput c).parting ≡ Some parting.Stopped → c.parting ≡ Some parting.Stopped
silent_saw c is = absurd (cc)

-- whoever parts because its channel has left does not part for this
left_saw : (s : Switch) → AllSaw s → AllSaw (after_leavings s)
left_saw s h seat = subst (SawEnd s.stopping) (sym (behind_held s s.conns seat)) (by (held_in s.conns seat) (h seat))
  where
    of : (row : Numbered Conn) (left : Bool) → SawEnd s.stopping (Some row) →
        SawEnd s.stopping (Some (if left then record { number = row.number; held = parted parting.ChannelLeft row.held } else row))
    of row true k = λ is. absurd (cc)
    of row false k = k

    by : (held : Option (Numbered Conn)) → SawEnd s.stopping held → SawEnd s.stopping (conn_behind s held)
    by None k = tt
    by (Some row) k = of row (is_left s row) k

begun_saw : (by : Giver) (what : JobWork) (s : Switch) → AllSaw s → AllSaw (after_job_begin by what s)
begun_saw (giver.Conn conn) what s h =
    changed_saw (owed_since s.entries) (λ c is. is) conn (with_new_job (record { asker = asker.Conn conn; work = what }) s) h
begun_saw (giver.Job number job) what s h = h

ended_saw : (number : ℕ) (who : Asker) (answer : Text) (s : Switch) → AllSaw s → AllSaw (after_job_end number who answer s)
ended_saw number (asker.Conn conn) answer s h = changed_saw not_owed (λ c is. is) conn (without_job number s) h
ended_saw number (asker.Background job) answer s h = h

background_saw : (given : Option Text) (command : Text) (s : Switch) → AllSaw s → AllSaw (background_begun given command s)
background_saw None command s h = h
background_saw (Some uuid) command s h = h

originated_saw : (by : Giver) (groups : List (List LegPlan)) (winner : Winner) (caller : Caller) (timeout : Option ℕ) (s : Switch) →
    AllSaw s → AllSaw (originate_begun by groups winner caller timeout s)
originated_saw by groups winner caller timeout s h =
    let made : MadeGroup = group_made (first_group groups) caller (next_orig_number s) s in
    begun_saw by (Originate (next_orig_number s) winner caller) _
    (rest_saw s made.state (group_made_rest (first_group groups) caller (next_orig_number s) s) h)

api_saw : (by : Giver) → KeptByApi by Seen
api_saw by = record {
  spent = λ h. h;
  draws = λ h. h;
  waits = λ what {s = s} wait may room h. begun_saw by what s h;
  originates = λ groups winner caller timeout {s = s} may are short room h. originated_saw by groups winner caller timeout s h;
  leavings = λ {s = s} h. left_saw s h;
  ends = λ reply notice {s = s} dead h seat. stops s.entries (held_in (ended reply notice s).conns seat);
}
  where
    stops : (place : ℕ) (held : Option (Numbered Conn)) → SawEnd (Some place) held
    stops place None = tt
    stops place (Some row) = λ is. refl

-- one comes that has not parted
come_saw : (new : Conn) (s : Switch) → new.parting ≡ None → AllSaw s → AllSaw (with_new_conn new s)
come_saw new s none h =
    each_put_at (SawEnd s.stopping) s.conns (Some (record { number = (numbers.with_conn s.drawn).conns; held = new }))
    (least_free s.conns 0) h (λ is. absurd (none-some parting.Stopped (sym none ∙ is)))

seen_moves : (before : Switch) → KeptByMoves before Seen
seen_moves before = record {
  calls = calls_by_rest Seen (λ b t u h same. rest_saw t u same h) (λ t h. h);
  jobs = record {
    out = λ number job does h. h;
    runs = λ number job. api_saw (giver.Job number job);
    woken = λ number who what answer {s = s} wait does h. ended_saw number who answer s h;
    failed = λ job who winner caller orig cause {s = s} does over h. ended_saw job who (failed_text cause) (without_orig orig s) h;
    wins = λ job who winner caller orig leg slots does won h.
        let t : Switch = raced slots before in
        let u : Switch = after_winning winner (unwrap_or leg.slot 0) t in
        ended_saw job who (made_text leg.uuid) (without_orig orig u) (rest_saw t u (won_rest winner (unwrap_or leg.slot 0) t) h);
  };
  dials = dials_by_rest before Seen (λ b t u h same. rest_saw t u same h) (λ t h. h);
  commands = λ conn. record {
    api = api_saw (giver.Conn conn);
    noticed = λ frame h. h;
    gave = λ frame h. h;
    asked = λ change {s = s} h. changed_saw (with_subs_changed change) (λ c is. is) conn s h;
    admitted = λ {s = s} fresh h. changed_saw admitted (λ c is. is) conn s h;
    parted = λ why {s = s} leaves was h. changed_saw (parted why) (parted_saw why leaves) conn s h;
    backgrounds = λ given command {s = s} room h. background_saw given command s h;
  };
  visits = record {
    arrived = λ {s = s} h. come_saw new_conn s refl h;
    taken = λ conn h. h;
    holds = λ slot c text {s = s} there waits room h. come_saw (controller slot c text) s refl h;
    silent = λ conn {s = s} was h. changed_saw (parted parting.EndOfInput) silent_saw conn s h;
    left = λ conn {s = s} was h. each_put_at (SawEnd s.stopping) s.conns None (seat_of s.conns conn) h tt;
    halted = (api_saw (giver.Conn 0)).ends;
  };
}

-- ---- runs

step_saw : (s : Switch) (entry : Entry) → AllSaw s → AllSaw (step s entry).state
unfolding step
step_saw s entry h =
    acted_kept (at_moment entry.moment s) Seen (seen_moves (at_moment entry.moment s)) entry.act (λ loads config t k. k) h

run_saw : (s : Switch) (entries : List Entry) → AllSaw s → AllSaw (run_from s entries)
run_saw s [] h = h
run_saw s (entry ∷ entries) h = run_saw (step s entry).state entries (step_saw s entry h)

-- a connection has parted for the end of the switch only where the switch has come to it
pub parts_at_end : (config : Configuration) (entries : List Entry) (conn : ℕ) →
    parting_at (run_from (empty config) entries) conn ≡ Some parting.Stopped → is_some (run_from (empty config) entries).stopping ≡ true
parts_at_end config entries conn is =
    saw_end (run_from (empty config) entries)
    (run_saw (empty config) entries (λ seat. subst (SawEnd None) (sym (nothing_held (Numbered Conn) config.settings.max_connections seat)) tt)) conn is

-- where one reads commands the switch goes on
pub goes_while_read : (config : Configuration) (entries : List Entry) (conn : ℕ) → IsRunFrom (empty config) entries →
    reads (phase_at (run_from (empty config) entries) conn) ≡ true → (run_from (empty config) entries).stopping ≡ None
goes_while_read config entries conn run reading = by (run_from (empty config) entries).stopping refl
  where
    by : (stopping : Option ℕ) → (run_from (empty config) entries).stopping ≡ stopping → stopping ≡ None
    by None is = refl
    by (Some place) is =
        absurd (true≢false (sym reading
        ∙ reads_none (run_from (empty config) entries) (stopped_is_over config entries run (ap is_some is)) conn))
