-- Whoever has something to do is not refused it, and what is due later is due once its moment has come.
use Rattle.std.proofs.Common.{◌≡◌, ℕ, ◌<◌, max, leb, Bool, true, false, List, Option, None, Some, ◌⊎◌, inl, inr, refl, sym, ap, subst, ◌∙◌}
use Rattle.std.proofs.Common.{arith, if◌then◌else◌, is_none, true≢false}
use Rattle.std.specs.Option.{option_and_then}
use Rattle.std.specs.Prelude.{◌||◌, not, is_some}
use Rattle.std.proofs.lemmas.Bool.{both_ways, or_cases, false≢true}
use Rattle.std.proofs.lemmas.Option.{none-some, same_Some}
use Rattle.fs_chan.specs.declared.chan.Chan.{Chan}
use Rattle.fs_chan.specs.declared.due.Due.{Due}
use Rattle.fs_chan.specs.declared.due.Due.TheVariants.{Now, At}
use Rattle.fs_text.specs.declared.states.State.{State}
use Rattle.fs_text.specs.declared.states.State.TheVariants.{CsExecute, CsPark}
use Rattle.fs_chan.specs.declared.wait.Wait.{Wait}
use Rattle.fs_chan.specs.declared.wait.Wait.TheVariants.{Legs}
use Rattle.fs_chan.specs.Bridging.{awaited_in, awaited_by}
use Rattle.fs_chan.specs.Queueing.{wanted_in, wanted_by}
use Rattle.fs_text.specs.Texts.{Text}
use Rattle.fs_state.specs.Queues.{has_caller}
use Rattle.fs_chan.specs.Work.{due_at}
use Rattle.fs_chan.proofs.WorkLemmas.{has_come, due_now, has_come_at, never_later}
use Rattle.fs_doc.specs.Reading.{Configuration}
use Rattle.fs_orig.specs.declared.orig.Orig.{Orig}
use Rattle.fs_orig.specs.declared.verdict.Verdict.{Verdict}
use Rattle.fs_orig.specs.declared.verdict.Verdict.TheVariants as verdict
use Rattle.fs_orig.specs.Verdicts as verdicts
use Rattle.fs_orig.proofs.VerdictLemmas.{then_expires, timeout_due}
use Rattle.fs_seats.specs.declared.numbered.Numbered.{Numbered}
use Rattle.fs_seats.specs.Seats.{held_in}
use Rattle.fs_seats.proofs.RowLemmas.{seat_found, none_found}
use Rattle.fs_seats.specs.Least.{lesser}
use Rattle.fs_seats.proofs.LeastLemmas.{lesser_is, least_held, least_never}
use Rattle.fs_state.specs.declared.job.Job.{Job}
use Rattle.fs_state.specs.declared.job.JobWork.{JobWork}
use Rattle.fs_state.specs.declared.job.JobWork.TheVariants.{Run, Sleep, Originate, Load}
use Rattle.fs_state.specs.Switch.{Switch, empty, chan_at, orig_of, job_of, at_moment}
use Rattle.fs_machine.specs.declared.due.DueActor.{DueActor}
use Rattle.fs_machine.specs.declared.due.DueActor.TheVariants as actor
use Rattle.fs_machine.specs.declared.entry.Entry.{Entry}
use Rattle.fs_machine.specs.declared.entry.Act.TheVariants.{Dialed, Work, Job as Works, Loaded}
use Rattle.fs_machine.specs.declared.refusal.Refusal.TheVariants as refusal
use Rattle.fs_machine.specs.declared.note.LoadNote.{LoadNote}
use Rattle.fs_machine.specs.Controlling.{dial_at}
use Rattle.fs_machine.specs.Loading.{waits_for_load}
use Rattle.fs_machine.specs.Due.{slot_due, orig_due, due_wanting, due_by, work_due, job_due, is_now, later_of, is_due, due_slot, chan_moment, row_moment}
use Rattle.fs_machine.specs.Due.{number_where, due_number, due_job, first_chan_moment, first_job_moment, actor_or, later_or_never}
use Rattle.fs_machine.specs.Due.{dials, turn_of, turn_of_job, due_among_all, next_due}
use Rattle.fs_machine.specs.Step.{refused_where, not_due, refused_act}
use Rattle.fs_machine.specs.Runs.{run_from, IsRunFrom}
use Rattle.fs_machine.proofs.DueLemmas.{next_to_come}
use Rattle.fs_machine.proofs.OwedBooks.{books_of, Sound}
use Rattle.fs_doc.specs.Limits.{IsWithin}
use Rattle.fs_machine.proofs.StandingLemmas.{standing_run}
use Rattle.fs_machine.proofs.OwedLaws.{job_is_known}

-- ---- jobs are known by their numbers

-- each job is the one of its number
pub record AreKnown (s : Switch) : Type 0 where
  pub known : (seat : ℕ) (row : Numbered Job) → held_in s.jobs seat ≡ Some row → job_of s row.number ≡ Some row.held

known_in : (s : Switch) → Sound (books_of s) → AreKnown s
known_in s h = record { known = λ seat job is. job_is_known s seat job h is }

-- behind every run they are so
pub run_is_known : (config : Configuration) (entries : List Entry) → IsWithin config → IsRunFrom (empty config) entries →
    AreKnown (run_from (empty config) entries)
run_is_known config entries within run = known_in (run_from (empty config) entries) (standing_run config entries within run).holds.sound

-- ---- who has something to do is not refused

now_accepted : (due : Option Due) → is_now due ≡ true → not_due due ≡ None
now_accepted None is = absurd (cc)
now_accepted (Some Now) is = refl
now_accepted (Some (At moment)) is = absurd (cc)

-- one that has something to do, and waits for no controller
slot_works : (s : Switch) (slot : ℕ) → due_slot s ≡ Some slot → dials (chan_at s slot) ≡ false → refused_act (Work slot) s ≡ None
slot_works s slot is waits =
    let found = seat_found (is_due s) s.channels 0 slot is in
    let same : found.0 ≡ slot = omega (arith, found.1) in
    let due : is_due s (chan_at s slot) ≡ true = subst (λ n. is_due s (chan_at s n) ≡ true) same found.2 in
    elim (or_cases (is_now (slot_due slot s)) (dials (chan_at s slot)) due) [
      | inl now ↦ now_accepted (slot_due slot s) now
      | inr dialing ↦ absurd (true≢false (sym dialing ∙ waits))
    ]

-- one for whom a controller is to be dialed
dial_accepted_for : (waits : Option Text) → is_some waits ≡ true → refused_where (is_none waits) (refusal.NotDue None) None ≡ None
dial_accepted_for None is = absurd (false≢true is)
dial_accepted_for (Some text) is = refl

job_works : (s : Switch) (number : ℕ) → AreKnown s → due_job s ≡ Some number → not_due (job_due number s) ≡ None
job_works s number are is = let found = least_held (due_number s) s.jobs number is in at found.0 (held_in s.jobs found.0) refl found.1
  where
    by : (row : Numbered Job) → job_of s row.number ≡ Some row.held → (due : Bool) → is_now (work_due s row.held.work) ≡ due →
        (if due then Some row.number else None) ≡ Some number →
        not_due (job_due number s) ≡ None
    by row known true now e =
        let due : job_due row.number s ≡ work_due s row.held.work =
        ap (λ (found : Option Job). option_and_then (λ (job : Job). work_due s job.work) found) known in
        subst (λ n. not_due (job_due n s) ≡ None) (same_Some row.number number e)
        (now_accepted (job_due row.number s) (ap is_now due ∙ now))
    by row known false now e = absurd (none-some number e)

    at : (seat : ℕ) (held : Option (Numbered Job)) → held_in s.jobs seat ≡ held → due_number s held ≡ Some number →
        not_due (job_due number s) ≡ None
    at seat None there e = absurd (none-some number e)
    at seat (Some row) there e = by row (are.known seat row there) (is_now (work_due s row.held.work)) refl e

-- whose turn it is: a channel that has something to do waits for no controller, and one waits for whom a controller is to be dialed
slot_turn : (waits : Bool) (slot n : ℕ) → (if waits then actor.Dial slot else actor.Slot slot) ≡ actor.Slot n →
    (waits ≡ false) × (slot ≡ n)
slot_turn true slot n is = absurd (cc is)
slot_turn false slot n is = let same : slot ≡ n = cc is in (refl, same)

dial_turn : (waits : Bool) (slot n : ℕ) → (if waits then actor.Dial slot else actor.Slot slot) ≡ actor.Dial n →
    (waits ≡ true) × (slot ≡ n)
dial_turn true slot n is = let same : slot ≡ n = cc is in (refl, same)
dial_turn false slot n is = absurd (cc is)

no_load_turn : (waits : Bool) (slot n : ℕ) → (if waits then actor.Dial slot else actor.Slot slot) ≡ actor.Load n → ⊥
no_load_turn true slot n is = absurd (cc is)
no_load_turn false slot n is = absurd (cc is)

no_job_turn : (waits : Bool) (slot n : ℕ) → (if waits then actor.Dial slot else actor.Slot slot) ≡ actor.Job n → ⊥
no_job_turn true slot n is = absurd (cc is)
no_job_turn false slot n is = absurd (cc is)

no_later_turn : (waits : Bool) (slot n : ℕ) → (if waits then actor.Dial slot else actor.Slot slot) ≡ actor.Later n → ⊥
no_later_turn true slot n is = absurd (cc is)
no_later_turn false slot n is = absurd (cc is)

-- and among jobs: one that waits for a load, or another
job_turn : (loads : Bool) (job n : ℕ) → (if loads then actor.Load job else actor.Job job) ≡ actor.Job n → (loads ≡ false) × (job ≡ n)
job_turn true job n is = absurd (cc is)
job_turn false job n is = let same : job ≡ n = cc is in (refl, same)

load_turn : (loads : Bool) (job n : ℕ) → (if loads then actor.Load job else actor.Job job) ≡ actor.Load n → (loads ≡ true) × (job ≡ n)
load_turn true job n is = let same : job ≡ n = cc is in (refl, same)
load_turn false job n is = absurd (cc is)

job_no_slot : (loads : Bool) (job n : ℕ) → (if loads then actor.Load job else actor.Job job) ≡ actor.Slot n → ⊥
job_no_slot true job n is = absurd (cc is)
job_no_slot false job n is = absurd (cc is)

job_no_dial : (loads : Bool) (job n : ℕ) → (if loads then actor.Load job else actor.Job job) ≡ actor.Dial n → ⊥
job_no_dial true job n is = absurd (cc is)
job_no_dial false job n is = absurd (cc is)

job_no_later : (loads : Bool) (job n : ℕ) → (if loads then actor.Load job else actor.Job job) ≡ actor.Later n → ⊥
job_no_later true job n is = absurd (cc is)
job_no_later false job n is = absurd (cc is)

slot_among : (s : Switch) (slot job moment : Option ℕ) (n : ℕ) →
    actor_or (turn_of s) slot (actor_or (turn_of_job s) job (later_or_never moment)) ≡ actor.Slot n →
    (slot ≡ Some n) × (dials (chan_at s n) ≡ false)
slot_among s (Some slot) job moment n is =
    let turn = slot_turn (dials (chan_at s slot)) slot n is in
    (ap Some turn.1, subst (λ at. dials (chan_at s at) ≡ false) turn.1 turn.0)
slot_among s None (Some job) moment n is = absurd (job_no_slot (waits_for_load job s) job n is)
slot_among s None None (Some moment) n is = absurd (cc is)
slot_among s None None None n is = absurd (cc is)

dial_among : (s : Switch) (slot job moment : Option ℕ) (n : ℕ) →
    actor_or (turn_of s) slot (actor_or (turn_of_job s) job (later_or_never moment)) ≡ actor.Dial n → dials (chan_at s n) ≡ true
dial_among s (Some slot) job moment n is =
    let turn = dial_turn (dials (chan_at s slot)) slot n is in
    subst (λ at. dials (chan_at s at) ≡ true) turn.1 turn.0
dial_among s None (Some job) moment n is = absurd (job_no_dial (waits_for_load job s) job n is)
dial_among s None None (Some moment) n is = absurd (cc is)
dial_among s None None None n is = absurd (cc is)

job_among : (s : Switch) (slot job moment : Option ℕ) (n : ℕ) →
    actor_or (turn_of s) slot (actor_or (turn_of_job s) job (later_or_never moment)) ≡ actor.Job n →
    (job ≡ Some n) × (waits_for_load n s ≡ false)
job_among s (Some slot) job moment n is = absurd (no_job_turn (dials (chan_at s slot)) slot n is)
job_among s None (Some job) moment n is =
    let turn = job_turn (waits_for_load job s) job n is in
    (ap Some turn.1, subst (λ at. waits_for_load at s ≡ false) turn.1 turn.0)
job_among s None None (Some moment) n is = absurd (cc is)
job_among s None None None n is = absurd (cc is)

load_among : (s : Switch) (slot job moment : Option ℕ) (n : ℕ) →
    actor_or (turn_of s) slot (actor_or (turn_of_job s) job (later_or_never moment)) ≡ actor.Load n → waits_for_load n s ≡ true
load_among s (Some slot) job moment n is = absurd (no_load_turn (dials (chan_at s slot)) slot n is)
load_among s None (Some job) moment n is =
    let turn = load_turn (waits_for_load job s) job n is in subst (λ at. waits_for_load at s ≡ true) turn.1 turn.0
load_among s None None (Some moment) n is = absurd (cc is)
load_among s None None None n is = absurd (cc is)

-- the slot that has something to do does it
pub slot_accepted : (s : Switch) (now slot : ℕ) → next_due now s ≡ actor.Slot slot → refused_act (Work slot) (at_moment now s) ≡ None
unfolding next_due
slot_accepted s now slot is =
    let t = at_moment now s in
    let turn = slot_among t (due_slot t) (due_job t) (lesser (first_chan_moment t) (first_job_moment t)) slot is in
    slot_works t slot turn.0 turn.1

-- for the channel that waits for it a controller is dialed
pub dial_accepted : (s : Switch) (now slot : ℕ) (linked : Bool) → next_due now s ≡ actor.Dial slot →
    refused_act (Dialed slot linked) (at_moment now s) ≡ None
unfolding next_due
dial_accepted s now slot linked is =
    let t = at_moment now s in
    dial_accepted_for (dial_at t slot)
    (dial_among t (due_slot t) (due_job t) (lesser (first_chan_moment t) (first_job_moment t)) slot is)

-- and so does the job, where it waits for no load
pub job_accepted : (s : Switch) (now number : ℕ) → AreKnown s → next_due now s ≡ actor.Job number →
    refused_act (Works number) (at_moment now s) ≡ None
unfolding next_due
job_accepted s now number are is =
    let t = at_moment now s in
    let among = job_among t (due_slot t) (due_job t) (lesser (first_chan_moment t) (first_job_moment t)) number is in
    ap (λ (waits : Bool). refused_where waits (refusal.NotDue None) (not_due (job_due number t))) among.1
    ∙ job_works t number (record { known = are.known }) among.0

-- for the one that waits for a load one is noted
pub load_accepted : (s : Switch) (now number : ℕ) (note : LoadNote) → next_due now s ≡ actor.Load number →
    refused_act (Loaded number note) (at_moment now s) ≡ None
unfolding next_due
load_accepted s now number note is =
    let t = at_moment now s in
    ap (λ (waits : Bool). refused_where (not waits) (refusal.NotDue None) None)
    (load_among t (due_slot t) (due_job t) (lesser (first_chan_moment t) (first_job_moment t)) number is)

-- ---- what is due later

later_among : (s : Switch) (slot job found : Option ℕ) (moment : ℕ) →
    actor_or (turn_of s) slot (actor_or (turn_of_job s) job (later_or_never found)) ≡ actor.Later moment → found ≡ Some moment
later_among s (Some slot) job found moment is = absurd (no_later_turn (dials (chan_at s slot)) slot moment is)
later_among s None (Some job) found moment is = absurd (job_no_later (waits_for_load job s) job moment is)
later_among s None None (Some found) moment is = let same : found ≡ moment = cc is in ap Some same
later_among s None None None moment is = absurd (cc is)

later_at : (due : Option Due) (n : ℕ) → later_of due ≡ Some n → due ≡ Some (At n)
later_at None n h = absurd (cc)
later_at (Some Now) n h = absurd (cc)
later_at (Some (At moment)) n h = cc

-- where a verdict is to wait until the moment, it is decided then
wait_comes : (now until moment : ℕ) (o : Orig) → verdicts.verdict_of now o ≡ verdict.Wait until → due_at now until ≡ At moment →
    due_at moment (verdicts.due_moment_of moment o) ≡ Now
wait_comes now until moment o told is = by (leb until now) refl is
  where
    by : (past : Bool) → leb until now ≡ past → (if past then Now else At until) ≡ At moment →
        due_at moment (verdicts.due_moment_of moment o) ≡ Now
    by true past e = absurd (cc e)
    by false past e =
        let same : until ≡ moment = cc e in
        ap (due_at moment) (timeout_due moment (verdicts.verdict_of moment o) (then_expires now moment until o told (omega (arith, same))))
        ∙ due_now moment

orig_comes : (now moment : ℕ) (o : Option Orig) → orig_due now o ≡ Some (At moment) → orig_due moment o ≡ Some Now
orig_comes now moment None is = absurd (cc)
orig_comes now moment (Some o) is =
    ap Some (by (verdicts.verdict_of now o) refl (same_Some (due_at now (verdicts.due_moment_of now o)) (At moment) is))
  where
    by : (v : Verdict) → verdicts.verdict_of now o ≡ v → due_at now (verdicts.due_moment_by now v) ≡ At moment →
        due_at moment (verdicts.due_moment_of moment o) ≡ Now
    by (verdict.Wait until) told e = wait_comes now until moment o told e
    by (verdict.Won position) told e = absurd (never_later now moment e)
    by (verdict.LegExpired position) told e = absurd (never_later now moment e)
    by verdict.NextGroup told e = absurd (never_later now moment e)
    by (verdict.Failed cause) told e = absurd (never_later now moment e)
    by verdict.Expired told e = absurd (never_later now moment e)

work_comes : (s : Switch) (now moment : ℕ) (work : JobWork) → work_due (record s { moment = now }) work ≡ Some (At moment) →
    work_due (record s { moment = moment }) work ≡ Some Now
work_comes s now moment Run is = absurd (cc)
work_comes s now moment (Sleep until) is = ap Some (has_come_at now until moment (same_Some (due_at now until) (At moment) is))
work_comes s now moment (Originate orig winner caller) is = orig_comes now moment (orig_of s orig) is
work_comes s now moment Load is = absurd (cc)

-- a caller is there at once, if there is one
wants_come : (s : Switch) (now moment : ℕ) (c : Chan) (wanted : Option Text) →
    due_wanting (record s { moment = now }) c wanted ≡ Some (At moment) → due_wanting (record s { moment = moment }) c wanted ≡ Some Now
wants_come s now moment c None is = has_come now moment c is
wants_come s now moment c (Some name) is = by (has_caller name s) is
  where
    by : (has : Bool) → (if has then Some Now else None) ≡ Some (At moment) → (if has then Some Now else None) ≡ Some Now
    by true h = refl
    by false h = absurd (cc)

-- what the channel waits for, or the verdict on what it dialed
waits_come : (s : Switch) (now moment : ℕ) (c : Chan) (awaited : Option ℕ) →
    due_by (record s { moment = now }) c awaited ≡ Some (At moment) → due_by (record s { moment = moment }) c awaited ≡ Some Now
waits_come s now moment c None is = wants_come s now moment c (wanted_by c) is
waits_come s now moment c (Some orig) is = orig_comes now moment (orig_of s orig) is

chan_comes : (s : Switch) (now moment : ℕ) (held : Option Chan) → chan_moment (record s { moment = now }) held ≡ Some moment →
    is_due (record s { moment = moment }) held ≡ true
chan_comes s now moment None is = absurd (none-some moment is)
chan_comes s now moment (Some c) is =
    ap (λ (due : Option Due). is_now due || dials (Some c))
    (waits_come s now moment c (awaited_by c) (later_at (due_by (record s { moment = now }) c (awaited_by c)) moment is))

row_comes : (s : Switch) (now moment : ℕ) (held : Option (Numbered Job)) → row_moment (record s { moment = now }) held ≡ Some moment →
    (number : ℕ) × (due_number (record s { moment = moment }) held ≡ Some number)
row_comes s now moment None is = absurd (none-some moment is)
row_comes s now moment (Some row) is =
    let t : Switch = record s { moment = now } in (
      row.number,
      ap (λ due. number_where (is_now due) (Some row))
          (work_comes s now moment row.held.work (later_at (work_due t row.held.work) moment is)),
    )

-- a slot has something to do, or waits until a controller was dialed, or a job has something to do
abbrev pub IsDue : DueActor → Type 0
IsDue (actor.Slot slot) = Unit {0}
IsDue (actor.Dial slot) = Unit {0}
IsDue (actor.Job number) = Unit {0}
IsDue (actor.Load number) = Unit {0}
IsDue (actor.Later moment) = ⊥
IsDue actor.Never = ⊥

turn_is_due : (waits : Bool) (slot : ℕ) → IsDue (if waits then actor.Dial slot else actor.Slot slot)
turn_is_due true slot = tt
turn_is_due false slot = tt

job_turn_is_due : (loads : Bool) (number : ℕ) → IsDue (if loads then actor.Load number else actor.Job number)
job_turn_is_due true number = tt
job_turn_is_due false number = tt

slot_is_due : (s : Switch) (seat : ℕ) → is_due s (held_in s.channels seat) ≡ true → IsDue (due_among_all s)
slot_is_due s seat due = by (due_slot s) refl
  where
    by : (found : Option ℕ) → due_slot s ≡ found →
        IsDue (actor_or (turn_of s) found
        (actor_or (turn_of_job s) (due_job s) (later_or_never (lesser (first_chan_moment s) (first_job_moment s)))))
    by (Some slot) is = turn_is_due (dials (chan_at s slot)) slot
    by None is = absurd (both_ways (is_due s (held_in s.channels seat)) (none_found (is_due s) refl s.channels 0 is seat) due)

job_is_due : (s : Switch) (seat number : ℕ) → due_number s (held_in s.jobs seat) ≡ Some number → IsDue (due_among_all s)
job_is_due s seat number due = by (due_slot s) (due_job s) refl
  where
    by : (slot job : Option ℕ) → due_job s ≡ job →
        IsDue (actor_or (turn_of s) slot (actor_or (turn_of_job s) job (later_or_never (lesser (first_chan_moment s) (first_job_moment s)))))
    by (Some slot) job is = turn_is_due (dials (chan_at s slot)) slot
    by None (Some job) is = job_turn_is_due (waits_for_load job s) job
    by None None is = absurd (none-some number (sym (least_never (due_number s) s.jobs refl is seat) ∙ due))

due_behind : (s : Switch) (now moment : ℕ) → due_among_all (record s { moment = now }) ≡ actor.Later moment →
    IsDue (due_among_all (record s { moment = moment }))
due_behind s now moment is =
    let t : Switch = record s { moment = now } in
    by (lesser_is (first_chan_moment t) (first_job_moment t) moment
    (later_among t (due_slot t) (due_job t) (lesser (first_chan_moment t) (first_job_moment t)) moment is))
  where
    by : (first_chan_moment (record s { moment = now }) ≡ Some moment) ⊎ (first_job_moment (record s { moment = now }) ≡ Some moment) →
        IsDue (due_among_all (record s { moment = moment }))
    by (inl chan) =
        let found = least_held (chan_moment (record s { moment = now })) s.channels moment chan in
        slot_is_due (record s { moment = moment }) found.0 (chan_comes s now moment (held_in s.channels found.0) found.1)
    by (inr job) =
        let found = least_held (row_moment (record s { moment = now })) s.jobs moment job in
        let comes = row_comes s now moment (held_in s.jobs found.0) found.1 in
        job_is_due (record s { moment = moment }) found.0 comes.0 comes.1

-- once the moment has come at which something is due, it is due
pub comes_due : (s : Switch) (now moment : ℕ) → next_due now s ≡ actor.Later moment → IsDue (next_due moment s)
unfolding next_due
comes_due s now moment is =
    let last : ℕ = max s.moment now in
    let later : last < moment = next_to_come last s moment (ap (λ m. due_among_all (record s { moment = m })) twice ∙ is) in
    let here : max s.moment moment ≡ moment = omega (arith, later) in
    subst (λ m. IsDue (due_among_all (record s { moment = m }))) (sym here) (due_behind s last moment is)
  where
    twice : max s.moment (max s.moment now) ≡ max s.moment now
    twice = omega arith

-- ---- whoever waits for a caller

wants_no_legs : (state : State) (wait : Wait) (name : Text) → wanted_in state wait ≡ Some name → awaited_in wait ≡ None
wants_no_legs CsExecute (Legs orig) name is = absurd (none-some name is)
wants_no_legs CsPark (Legs orig) name is = absurd (none-some name is)
wants_no_legs _ (Legs orig) name is = absurd (none-some name is)
wants_no_legs state _ name is = refl

pub takers_due : (s : Switch) (slot : ℕ) (c : Chan) (name : Text) → chan_at s slot ≡ Some c → wanted_by c ≡ Some name →
    slot_due slot s ≡ (if has_caller name s then Some Now else None)
takers_due s slot c name there wants =
    ap (option_and_then (λ (d : Chan). due_by s d (awaited_by d))) there
    ∙ ap (due_by s c) (wants_no_legs c.state c.wait name wants)
    ∙ ap (due_wanting s c) wants
