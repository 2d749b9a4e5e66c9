-- When channels and jobs have something to do by themselves.
use Rattle.std.specs.Prelude.{ℕ, ◌||◌, Bool, true, false, if◌then◌else◌, Option, None, Some, is_some}
use Rattle.std.specs.Option.{option_and_then}
use Rattle.fs_text.specs.Texts.{Text}
use Rattle.fs_chan.specs.declared.chan.Chan.{Chan}
use Rattle.fs_chan.specs.declared.due.Due.{Due}
use Rattle.fs_chan.specs.declared.due.Due.TheVariants.{Now, At}
use Rattle.fs_chan.specs.Bridging.{awaited_by}
use Rattle.fs_chan.specs.Controlling.{dial_of}
use Rattle.fs_chan.specs.Queueing.{wanted_by}
use Rattle.fs_chan.specs.Work.{due_of, due_at}
use Rattle.fs_orig.specs.declared.orig.Orig.{Orig}
use Rattle.fs_orig.specs.Verdicts as verdicts
use Rattle.fs_seats.specs.declared.numbered.Numbered.{Numbered}
use Rattle.fs_seats.specs.Seats.{first_seat}
use Rattle.fs_seats.specs.Least.{lesser, least_of}
use Rattle.fs_state.specs.declared.job.Job.{Job}
use Rattle.fs_state.specs.declared.job.JobWork.{JobWork}
use Rattle.fs_state.specs.declared.job.JobWork.TheVariants.{Run, Sleep, Originate, Load}
use Rattle.fs_state.specs.Queues.{has_caller}
use Rattle.fs_state.specs.Switch.{Switch, chan_at, orig_of, job_of, at_moment}
use Rattle.fs_machine.specs.Loading.{waits_for_load}
use Rattle.fs_machine.specs.declared.due.DueActor.{DueActor}
use Rattle.fs_machine.specs.declared.due.DueActor.TheVariants as actor

-- ---- one channel, one job

-- an origination, by the verdict on it
abbrev pub orig_due : ℕ → Option Orig → Option Due
orig_due now None = None
orig_due now (Some o) = Some (due_at now (verdicts.due_moment_of now o))

-- a channel that waits for a caller has something to do where its queue has one
abbrev pub caller_due : Switch → Text → Option Due
caller_due s name = if has_caller name s then Some Now else None

-- so has one that waits for none by itself
abbrev pub due_wanting : Switch → Chan → Option Text → Option Due
due_wanting s c None = due_of s.moment c
due_wanting s c (Some name) = caller_due s name

-- a channel that waits for the legs that it dialed has something to do by the verdict on them
abbrev pub due_by : Switch → Chan → Option ℕ → Option Due
due_by s c None = due_wanting s c (wanted_by c)
due_by s c (Some orig) = orig_due s.moment (orig_of s orig)

-- what stands in a slot, if it is a channel
abbrev pub chan_due : Switch → Option Chan → Option Due
chan_due s chan = option_and_then (λ c. due_by s c (awaited_by c)) chan

-- when the channel in a slot has something to do
abbrev pub slot_due : ℕ → Switch → Option Due
slot_due slot s = chan_due s (chan_at s slot)

-- when a job with this work has something to do
abbrev pub work_due : Switch → JobWork → Option Due
work_due s Run = Some Now
work_due s (Sleep until) = Some (due_at s.moment until)
work_due s (Originate orig winner caller) = orig_due s.moment (orig_of s orig)
work_due s Load = Some Now

-- when the job of a number has something to do
abbrev pub job_due : ℕ → Switch → Option Due
job_due number s = option_and_then (λ job. work_due s job.work) (job_of s number)

-- ---- all of them

-- there is something to do at this moment
abbrev pub is_now : Option Due → Bool
is_now None = false
is_now (Some Now) = true
is_now (Some (At moment)) = false

-- a moment that is still to come
abbrev pub later_of : Option Due → Option ℕ
later_of None = None
later_of (Some Now) = None
later_of (Some (At moment)) = Some moment

-- what stands in a slot waits until a controller was dialed
abbrev pub dials : Option Chan → Bool
dials chan = is_some (option_and_then dial_of chan)

-- what stands in a slot has something to do, or waits so
abbrev pub is_due : Switch → Option Chan → Bool
is_due s chan = is_now (chan_due s chan) || dials chan

-- the least slot of which that is so
abbrev pub due_slot : Switch → Option ℕ
due_slot s = first_seat (is_due s) s.channels 0

-- the moment at which a channel will have something to do
abbrev pub chan_moment : Switch → Option Chan → Option ℕ
chan_moment s chan = later_of (chan_due s chan)

-- when the job at a seat has something to do
abbrev pub row_due : Switch → Option (Numbered Job) → Option Due
row_due s None = None
row_due s (Some row) = work_due s row.held.work

-- the moment at which the job at a seat will have something to do
abbrev pub row_moment : Switch → Option (Numbered Job) → Option ℕ
row_moment s row = later_of (row_due s row)

-- the number of a job, where it is said to have something to do
abbrev pub number_where : Bool → Option (Numbered Job) → Option ℕ
number_where due None = None
number_where due (Some row) = if due then Some row.number else None

-- the number of the job at a seat, where it has something to do
abbrev pub due_number : Switch → Option (Numbered Job) → Option ℕ
due_number s row = number_where (is_now (row_due s row)) row

-- the least number of such a job
abbrev pub due_job : Switch → Option ℕ
due_job s = least_of (due_number s) s.jobs

-- the first moment at which a channel will have something to do
abbrev pub first_chan_moment : Switch → Option ℕ
first_chan_moment s = least_of (chan_moment s) s.channels

-- the first moment at which a job will have something to do
abbrev pub first_job_moment : Switch → Option ℕ
first_job_moment s = least_of (row_moment s) s.jobs

-- ---- who has something to do, as seen at a moment

-- one who has, or else another
abbrev pub actor_or : (ℕ → DueActor) → Option ℕ → DueActor → DueActor
actor_or actor None otherwise = otherwise
actor_or actor (Some number) otherwise = actor number

-- at a moment, or only where others bring something
abbrev pub later_or_never : Option ℕ → DueActor
later_or_never moment = actor_or actor.Later moment actor.Never

-- the job of a number has something to do, or waits for a load
abbrev pub turn_of_job : Switch → ℕ → DueActor
turn_of_job s number = if waits_for_load number s then actor.Load number else actor.Job number

-- the least job that has something to do, or else the next moment at which one has
abbrev pub due_among_jobs : Switch → DueActor
due_among_jobs s = actor_or (turn_of_job s) (due_job s) (later_or_never (first_job_moment s))

-- the channel in a slot has something to do, or waits until a controller was dialed
abbrev pub turn_of : Switch → ℕ → DueActor
turn_of s slot = if dials (chan_at s slot) then actor.Dial slot else actor.Slot slot

-- the least job that has something to do, or else the next moment at which a channel or a job has
abbrev pub due_but_slots : Switch → DueActor
due_but_slots s = actor_or (turn_of_job s) (due_job s) (later_or_never (lesser (first_chan_moment s) (first_job_moment s)))

-- the least slot, or else the least job, that has something to do, or else the next moment at which one has
abbrev pub due_among_all : Switch → DueActor
due_among_all s = actor_or (turn_of s) (due_slot s) (due_but_slots s)

-- the channel in a slot
abbrev pub due_as : ℕ → Option Due → DueActor
due_as slot None = actor.Never
due_as slot (Some Now) = actor.Slot slot
due_as slot (Some (At moment)) = actor.Later moment

abbrev pub due_in_slot : ℕ → Switch → DueActor
due_in_slot slot s = if dials (chan_at s slot) then actor.Dial slot else due_as slot (slot_due slot s)

-- the least slot, or else the least job, that has something to do at a moment, or the next moment at which one has
unfoldable pub next_due : ℕ → Switch → DueActor
next_due now s = due_among_all (at_moment now s)

-- the same of jobs alone
unfoldable pub next_job : ℕ → Switch → DueActor
next_job now s = due_among_jobs (at_moment now s)

-- the same of one slot alone
unfoldable pub next_slot : ℕ → ℕ → Switch → DueActor
next_slot slot now s = due_in_slot slot (at_moment now s)
