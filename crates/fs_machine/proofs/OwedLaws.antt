-- Behind every run each reply that is owed has one job that owes it, and somebody has something to do.
use Rattle.std.proofs.Common.{List, ◌≡◌, ◌≢◌, ℕ, Bool, true, false, Option, None, Some, is_some, refl, sym, ap, ◌∙◌, if◌then◌else◌}
use Rattle.std.specs.Option.{option_and_then}
use Rattle.std.proofs.lemmas.Option.{none-some}
use Rattle.fs_chan.specs.declared.due.Due.{Due}
use Rattle.fs_chan.specs.declared.due.Due.TheVariants.{Now, At}
use Rattle.fs_doc.specs.Reading.{Configuration}
use Rattle.fs_orig.specs.declared.orig.Orig.{Orig}
use Rattle.fs_seats.specs.declared.numbered.Numbered.{Numbered}
use Rattle.fs_seats.specs.Seats.{held_in}
use Rattle.fs_seats.proofs.TableLemmas.{something_there, one_there, HasRow, row_is, row_found, row_of_held}
use Rattle.fs_seats.specs.Least.{lesser}
use Rattle.fs_seats.proofs.LeastLemmas.{lesser_never, least_never}
use Rattle.fs_state.specs.declared.conn.Conn.{Conn}
use Rattle.fs_state.specs.declared.job.Asker.TheVariants as asker
use Rattle.fs_state.specs.declared.job.Job.{Job}
use Rattle.fs_state.specs.declared.job.JobWork.{JobWork}
use Rattle.fs_state.specs.declared.job.JobWork.TheVariants.{Run, Sleep, Originate, Load}
use Rattle.fs_state.specs.Switch.{Switch, empty, chan_at, orig_of, job_of, conn_of, at_moment}
use Rattle.fs_machine.specs.declared.due.DueActor.TheVariants as actor
use Rattle.fs_machine.specs.declared.entry.Entry.{Entry}
use Rattle.fs_machine.specs.Loading.{waits_for_load}
use Rattle.fs_machine.specs.Questions.{owed_of, owed_to, owes}
use Rattle.fs_machine.specs.Due.{orig_due, work_due, job_due, is_now, later_of, row_moment, due_number, due_slot, due_job}
use Rattle.fs_machine.specs.Due.{dials, turn_of, turn_of_job, first_chan_moment, first_job_moment, actor_or, later_or_never, due_among_all, next_due}
use Rattle.fs_machine.specs.Owed.{HasOneJob, AreOwed}
use Rattle.fs_machine.proofs.OwedBooks.{books_of, tried_by, HasJob, HasNumber, Sound}
use Rattle.fs_machine.proofs.OwedJobs.{parts_of}
use Rattle.fs_machine.proofs.OwedTables.{by_job, owned_in, job_has_row}
use Rattle.fs_doc.specs.Limits.{IsWithin}
use Rattle.fs_machine.specs.Runs.{run_from, IsRunFrom}
use Rattle.fs_machine.proofs.StandingLemmas.{standing_run}

-- ---- what is owed

orig_is_due : (now : ℕ) (x : Orig) (o : Option Orig) → o ≡ Some x → orig_due now o ≡ None → ⊥
orig_is_due now x None is none = none-some x is
orig_is_due now x (Some o) is none = cc none

-- work has a next moment, if its origination is there
work_is_due : (s : Switch) (work : JobWork) →
    ((number : ℕ) → tried_by work ≡ Some number → HasNumber (owned_in by_job s.origs) number) → work_due s work ≢ None
work_is_due s Run there none = cc none
work_is_due s (Sleep until) there none = cc none
work_is_due s (Originate orig winner caller) there none =
    let had = there orig refl in
    let row : HasRow s.origs orig = job_has_row s.origs had.0 orig had.1 in
    orig_is_due s.moment row.1.held (orig_of s orig) (row_is s.origs orig row.0 row.1 row.2) none
work_is_due s Load there none = cc none

-- each job is the one of its number
pub job_is_known : (s : Switch) (q : ℕ) (job : Numbered Job) → Sound (books_of s) → held_in s.jobs q ≡ Some job →
    job_of s job.number ≡ Some job.held
job_is_known s q job h is =
    let row : HasRow s.jobs job.number = row_of_held s.jobs q job is in
    let seat : q ≡ row.0 = sym (h.linked.job_numbers.apart row.0 q row.1 job row.2.there is row.2.numbered) in
    row_is s.jobs job.number row.0 row.1 row.2
    ∙ ap (λ (j : Numbered Job). Some j.held) (one_there s.jobs row.0 q row.1 job row.2.there is seat)

-- each job has a next moment
job_is_due : (s : Switch) (q : ℕ) (job : Numbered Job) → Sound (books_of s) → held_in s.jobs q ≡ Some job → job_due job.number s ≢ None
job_is_due s q job h is none =
    work_is_due s job.held.work (λ number t. h.tries.there q job number is t)
    (sym (ap (λ (held : Option Job). option_and_then (λ (j : Job). work_due s j.work) held) (job_is_known s q job h is)) ∙ none)

pub are_owed : (s : Switch) → Sound (books_of s) → AreOwed s
are_owed s h = record {
  owed = λ conn since is. owed conn since is;
  due = λ q job is. job_is_due s q job h is;
  parted = λ conn c is. parts_of s conn c h.linked.parts is;
}
  where
    owed : (conn since : ℕ) → owed_to s conn ≡ Some since → HasOneJob s conn
    owed conn since is = by (conn_of s conn) refl
      where
        by : (found : Option Conn) → conn_of s conn ≡ found → HasOneJob s conn
        by None at = absurd (none-some since (sym (ap (λ (found : Option Conn). option_and_then owed_of found) at) ∙ is))
        by (Some c) at =
            let row = row_found s.conns conn c at in
            let since_is : c.owed ≡ Some since = sym (ap (λ (found : Option Conn). option_and_then owed_of found) at) ∙ is in
            let had : HasJob s.jobs row.1.number =
            h.linked.owes.owed row.0 row.1 since row.2.there (ap (λ (y : Conn). y.owed) row.3 ∙ since_is) in
            let for : had.1.held.asker ≡ asker.Conn conn = had.3 ∙ ap asker.Conn row.2.numbered in (
              had.0,
              had.1,
              record {
                there = had.2;
                owes = for;
                known = job_is_known s had.0 had.1 h had.2;
                alone = λ other another e same. h.linked.owes.alone other had.0 another had.1 conn e had.2 same for;
                due = job_is_due s had.0 had.1 h had.2;
              },
            )

pub run_is_owed : (config : Configuration) (entries : List Entry) → IsWithin config → IsRunFrom (empty config) entries →
    AreOwed (run_from (empty config) entries)
run_is_owed config entries within run = are_owed (run_from (empty config) entries) (standing_run config entries within run).holds.sound

-- ---- who has something to do

-- what is due is due now or later
due_some : (due : Option Due) (number : ℕ) → (if is_now due then Some number else None) ≡ None → later_of due ≡ None → due ≡ None
due_some None number now later = refl
due_some (Some Now) number now later = absurd (something_there number now)
due_some (Some (At moment)) number now later = absurd (something_there moment later)

-- the turn of a slot is somebody's
turn_is_some : (waits : Bool) (slot : ℕ) → (if waits then actor.Dial slot else actor.Slot slot) ≡ actor.Never → ⊥
turn_is_some true slot is = absurd (cc is)
turn_is_some false slot is = absurd (cc is)

-- and that of a job
job_turn_is_some : (loads : Bool) (number : ℕ) → (if loads then actor.Load number else actor.Job number) ≡ actor.Never → ⊥
job_turn_is_some true number is = absurd (cc is)
job_turn_is_some false number is = absurd (cc is)

-- nobody has something to do only where no job has
never_among : (s : Switch) (slot job moment : Option ℕ) →
    actor_or (turn_of s) slot (actor_or (turn_of_job s) job (later_or_never moment)) ≡ actor.Never → (job ≡ None) × (moment ≡ None)
never_among s None None None is = (refl, refl)
never_among s None None (Some moment) is = absurd (cc is)
never_among s None (Some job) moment is = absurd (job_turn_is_some (waits_for_load job s) job is)
never_among s (Some slot) job moment is = absurd (turn_is_some (dials (chan_at s slot)) slot is)

never_due : (s : Switch) (q : ℕ) (row : Numbered Job) → held_in s.jobs q ≡ Some row → due_among_all s ≡ actor.Never →
    work_due s row.held.work ≡ None
never_due s q row there is =
    let none = never_among s (due_slot s) (due_job s) (lesser (first_chan_moment s) (first_job_moment s)) is in
    let no_moment = lesser_never (first_chan_moment s) (first_job_moment s) none.1 in
    due_some (work_due s row.held.work) row.number
    (ap (due_number s) (sym there) ∙ least_never (due_number s) s.jobs refl none.0 q)
    (ap (row_moment s) (sym there) ∙ least_never (row_moment s) s.jobs refl no_moment.1 q)

-- at another moment the same work is due
due_at_moment : (s : Switch) (now : ℕ) (work : JobWork) → work_due (at_moment now s) work ≡ None → work_due s work ≡ None
due_at_moment s now Run is = absurd (cc is)
due_at_moment s now (Sleep until) is = absurd (cc is)
due_at_moment s now (Originate orig winner caller) is = by (orig_of s orig) is
  where
    by : (o : Option Orig) → orig_due (at_moment now s).moment o ≡ None → orig_due s.moment o ≡ None
    by None e = refl
    by (Some o) e = absurd (cc e)
due_at_moment s now Load is = absurd (cc is)

-- a job that has a next moment is work that is due
job_at_work : (s : Switch) (number : ℕ) → job_due number s ≢ None →
    (q : ℕ) × (row : Numbered Job) × (held_in s.jobs q ≡ Some row) × (work_due s row.held.work ≢ None)
job_at_work s number is_due = by (job_of s number) refl
  where
    by : (found : Option Job) → job_of s number ≡ found →
        (q : ℕ) × (row : Numbered Job) × (held_in s.jobs q ≡ Some row) × (work_due s row.held.work ≢ None)
    by None is = absurd (is_due (ap (λ (held : Option Job). option_and_then (λ (j : Job). work_due s j.work) held) is))
    by (Some job) is =
        let row = row_found s.jobs number job is in (
          row.0,
          row.1,
          row.2.there,
          λ none. is_due
              (ap (λ (held : Option Job). option_and_then (λ (j : Job). work_due s j.work) held) is
              ∙ (sym (ap (λ (j : Job). work_due s j.work) row.3) ∙ none)),
        )

-- while a reply is owed somebody has something to do
pub goes_on : (s : Switch) (conn now : ℕ) → AreOwed s → owes s conn ≡ true → next_due now s ≢ actor.Never
unfolding next_due
goes_on s conn now h owed never = by (owed_to s conn) refl owed
  where
    by : (since : Option ℕ) → owed_to s conn ≡ since → is_some since ≡ true → ⊥
    by None is some = cc some
    by (Some since) is some =
        let job : HasOneJob s conn = h.owed conn since is in
        let works = job_at_work s job.1.number job.2.due in
        works.3 (due_at_moment s now works.1.held.work (never_due (at_moment now s) works.0 works.1 works.2 never))

pub run_goes_on : (config : Configuration) (entries : List Entry) → IsWithin config → IsRunFrom (empty config) entries →
    (conn now : ℕ) → owes (run_from (empty config) entries) conn ≡ true → next_due now (run_from (empty config) entries) ≢ actor.Never
run_goes_on config entries within run conn now owed =
    goes_on (run_from (empty config) entries) conn now (run_is_owed config entries within run) owed
