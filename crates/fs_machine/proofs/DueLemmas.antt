-- A moment that is told is still to come.
use Rattle.std.proofs.Common.{◌≡◌, ℕ, ◌<◌, max, Bool, true, false, if◌then◌else◌, Option, None, Some, refl, sym, ap, ◌∙◌, arith}
use Rattle.fs_text.specs.Texts.{Text}
use Rattle.fs_chan.specs.declared.chan.Chan.{Chan}
use Rattle.fs_chan.specs.declared.due.Due.{Due}
use Rattle.fs_chan.specs.declared.due.Due.TheVariants.{Now, At}
use Rattle.fs_chan.specs.Bridging.{awaited_by}
use Rattle.fs_chan.specs.Queueing.{wanted_by}
use Rattle.fs_chan.proofs.WorkLemmas.{is_to_come, to_come_at}
use Rattle.fs_orig.specs.declared.orig.Orig.{Orig}
use Rattle.fs_orig.specs.Verdicts as verdicts
use Rattle.fs_seats.specs.declared.numbered.Numbered.{Numbered}
use Rattle.fs_seats.specs.Least.{lesser}
use Rattle.fs_seats.proofs.LeastLemmas.{IsAfter, lesser_after, least_after}
use Rattle.fs_state.specs.declared.job.Job.{Job}
use Rattle.fs_state.specs.declared.job.JobWork.{JobWork}
use Rattle.fs_state.specs.declared.job.JobWork.TheVariants.{Run, Sleep, Originate, Load}
use Rattle.fs_state.specs.Queues.{has_caller}
use Rattle.fs_state.specs.Switch.{Switch, chan_at, orig_of, at_moment}
use Rattle.fs_machine.specs.declared.due.DueActor.TheVariants as actor
use Rattle.fs_machine.specs.Due.{orig_due, due_wanting, due_by, work_due, later_of, chan_moment, row_moment, due_slot, due_job, first_chan_moment}
use Rattle.fs_machine.specs.Due.{first_job_moment, actor_or, later_or_never, dials, turn_of, turn_of_job, due_but_slots, due_among_all}
use Rattle.fs_machine.specs.Loading.{waits_for_load}

later_at : (due : Option Due) (n : ℕ) → later_of due ≡ Some n → due ≡ Some (At n)
later_at None n h = absurd (cc)
later_at (Some Now) n h = absurd (cc)
later_at (Some (At moment)) n h = cc

orig_after : (now : ℕ) (orig : Option Orig) (n : ℕ) → orig_due now orig ≡ Some (At n) → now < n
orig_after now None n h = absurd (cc)
orig_after now (Some o) n h = to_come_at now (verdicts.due_moment_of now o) n (cc)

-- a caller is there at once, if there is one
wants_after : (s : Switch) (c : Chan) (wanted : Option Text) (n : ℕ) → due_wanting s c wanted ≡ Some (At n) → s.moment < n
wants_after s c None n h = is_to_come s.moment n c h
wants_after s c (Some name) n h = by (has_caller name s) h
  where
    by : (has : Bool) → (if has then Some Now else None) ≡ Some (At n) → s.moment < n
    by true h = absurd (cc)
    by false h = absurd (cc)

-- by what the channel waits for, or by the verdict on what it dialed
waits_after : (s : Switch) (c : Chan) (awaited : Option ℕ) (n : ℕ) → due_by s c awaited ≡ Some (At n) → s.moment < n
waits_after s c None n h = wants_after s c (wanted_by c) n h
waits_after s c (Some orig) n h = orig_after s.moment (orig_of s orig) n h

chan_after : (s : Switch) (chan : Option Chan) → IsAfter s.moment (chan_moment s chan)
chan_after s None n h = absurd (cc)
chan_after s (Some c) n h = waits_after s c (awaited_by c) n (later_at (due_by s c (awaited_by c)) n h)

work_after : (s : Switch) (work : JobWork) (n : ℕ) → work_due s work ≡ Some (At n) → s.moment < n
work_after s Run n h = absurd (cc)
work_after s (Sleep until) n h = to_come_at s.moment until n (cc)
work_after s (Originate orig winner caller) n h = orig_after s.moment (orig_of s orig) n h
work_after s Load n h = absurd (cc)

row_after : (s : Switch) (row : Option (Numbered Job)) → IsAfter s.moment (row_moment s row)
row_after s None n h = absurd (cc)
row_after s (Some row) n h = work_after s row.held.work n (later_at (work_due s row.held.work) n h)

moment_after : (k : ℕ) (found : Option ℕ) (moment : ℕ) → IsAfter k found → later_or_never found ≡ actor.Later moment → k < moment
moment_after k None moment after h = absurd (cc)
moment_after k (Some n) moment after h = after moment (cc)

never_later : (dials : Bool) (slot moment : ℕ) → (if dials then actor.Dial slot else actor.Slot slot) ≡ actor.Later moment → ⊥
never_later true slot moment h = absurd (cc)
never_later false slot moment h = absurd (cc)

job_never_later : (loads : Bool) (number moment : ℕ) → (if loads then actor.Load number else actor.Job number) ≡ actor.Later moment → ⊥
job_never_later true number moment h = absurd (cc)
job_never_later false number moment h = absurd (cc)

all_after : (s : Switch) (slot job : Option ℕ) (moment : ℕ) → due_slot s ≡ slot → due_job s ≡ job → due_among_all s ≡ actor.Later moment →
    s.moment < moment
all_after s (Some slot) job moment is_slot is_job h =
    absurd (never_later (dials (chan_at s slot)) slot moment
    (ap (λ (found : Option ℕ). actor_or (turn_of s) found (due_but_slots s)) (sym is_slot) ∙ h))
all_after s None (Some job) moment is_slot is_job h =
    absurd (job_never_later (waits_for_load job s) job moment
    (ap (λ (found : Option ℕ). actor_or (turn_of_job s) found (later_or_never (lesser (first_chan_moment s) (first_job_moment s))))
    (sym is_job)
    ∙ (ap (λ (found : Option ℕ). actor_or (turn_of s) found (due_but_slots s)) (sym is_slot) ∙ h)))
all_after s None None moment is_slot is_job h =
    moment_after s.moment (lesser (first_chan_moment s) (first_job_moment s)) moment
    (lesser_after s.moment (first_chan_moment s) (first_job_moment s) (least_after s.moment (chan_moment s) (chan_after s) s.channels)
    (least_after s.moment (row_moment s) (row_after s) s.jobs))
    (cc)

pub next_to_come : (now : ℕ) (s : Switch) (moment : ℕ) → due_among_all (at_moment now s) ≡ actor.Later moment → now < moment
next_to_come now s moment h =
    let later : max s.moment now < moment =
    all_after (at_moment now s) (due_slot (at_moment now s)) (due_job (at_moment now s)) moment refl refl h in
    omega (arith, later)
