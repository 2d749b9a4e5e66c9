-- Jobs: work that goes on behind a command, until its answer is given.
use Rattle.std.specs.Prelude.{ℕ, Option, None, Some}
use Rattle.fs_text.specs.Texts.{Text}
use Rattle.fs_api.specs.Readings.{api_of}
use Rattle.fs_state.specs.declared.job.Asker.{Asker}
use Rattle.fs_state.specs.declared.job.Asker.TheVariants as asker
use Rattle.fs_state.specs.declared.job.Background.{Background}
use Rattle.fs_state.specs.declared.job.Job.{Job}
use Rattle.fs_state.specs.declared.job.JobWork.{JobWork}
use Rattle.fs_state.specs.declared.job.JobWork.TheVariants.{Run, Sleep, Originate, Load}
use Rattle.fs_state.specs.Switch.{Switch, job_of, with_event, without_job}
use Rattle.fs_machine.specs.declared.attempts.Party.TheVariants as party
use Rattle.fs_machine.specs.declared.owing.Giver.TheVariants as giver
use Rattle.fs_machine.specs.Api.{done_by}
use Rattle.fs_machine.specs.Done.{Done}
use Rattle.fs_machine.specs.Texts.{ok}
use Rattle.fs_machine.specs.Owing.{job_event, after_job_end}
use Rattle.fs_machine.specs.Attempts.{after_verdict_on}

-- ---- a command that a job runs

-- the answer of a job in the background is told, unless it goes on
abbrev pub told_if : Background → Option Text → Switch → Switch
told_if job None s = s
told_if job (Some answer) s = with_event (job_event job answer) s

-- a command was done that a job has run
abbrev pub after_run : Background → Done → Switch
after_run job d = told_if job d.reply d.state

-- a job runs its command: it is taken out, and goes on under its number where the command is not answered at once
abbrev pub command_run : ℕ → Background → Switch → Switch
command_run number job s = after_run job (done_by (giver.Job number job) (api_of job.command) (without_job number s))

-- ---- all that jobs do

-- what comes of the work of a job, where it has something to do; what waits for a load does nothing by itself
abbrev pub after_job_work : JobWork → ℕ → Asker → Switch → Switch
after_job_work Run number (asker.Conn conn) s = s
after_job_work Run number (asker.Background job) s = command_run number job s
after_job_work (Sleep until) number who s = after_job_end number who ok s
after_job_work (Originate orig winner caller) number who s =
    after_verdict_on (record { orig = orig; party = party.Job number who winner caller }) s
after_job_work Load number who s = s

-- what the job of a number does, if it is there
abbrev pub job_done_from : ℕ → Option Job → Switch → Switch
job_done_from number None s = s
job_done_from number (Some job) s = after_job_work job.work number job.asker s

-- what a job does, where it has something to do
unfoldable pub job_done : ℕ → Switch → Switch
job_done number s = job_done_from number (job_of s number) s
