-- Jobs begin behind commands, and end with an answer.
use Rattle.std.specs.Prelude.{ℕ, Option, None, Some}
use Rattle.fs_text.specs.Texts.{Text}
use Rattle.fs_text.specs.declared.event_names.EventName.TheVariants.{BackgroundJob}
use Rattle.fs_cmd.specs.Frames.{api_reply}
use Rattle.fs_state.specs.declared.event.Event.{Event}
use Rattle.fs_state.specs.declared.event.Detail.TheVariants as detail
use Rattle.fs_state.specs.declared.job.Asker.{Asker}
use Rattle.fs_state.specs.declared.job.Asker.TheVariants as asker
use Rattle.fs_state.specs.declared.job.Background.{Background}
use Rattle.fs_state.specs.declared.job.JobWork.{JobWork}
use Rattle.fs_state.specs.declared.job.JobWork.TheVariants.{Run}
use Rattle.fs_state.specs.Switch.{Switch, with_event, with_late_reply, with_new_job, with_job, without_job, next_job_number}
use Rattle.fs_state.specs.Switch.{with_next_identifier, identifier_of}
use Rattle.fs_machine.specs.declared.owing.Giver.{Giver}
use Rattle.fs_machine.specs.declared.owing.Giver.TheVariants as giver
use Rattle.fs_machine.specs.Connections.{conn_changed, owed_since, not_owed}

-- ---- the beginning

-- the number of the job that goes on behind a command: the next one, or that of the job that gives the command
abbrev pub job_number : Giver → Switch → ℕ
job_number (giver.Conn conn) s = next_job_number s
job_number (giver.Job number job) s = number

-- a job begins, and a connection is owed the reply to the command in hand until it ends
abbrev pub after_owing : ℕ → JobWork → Switch → Switch
after_owing conn work s =
    conn_changed (owed_since s.entries) conn (with_new_job (record { asker = asker.Conn conn; work = work }) s)

-- a job goes on behind a command: a new one for a connection, or the one that gives the command
abbrev pub after_job_begin : Giver → JobWork → Switch → Switch
after_job_begin (giver.Conn conn) work s = after_owing conn work s
after_job_begin (giver.Job number job) work s = with_job number (record { asker = asker.Background job; work = work }) s

-- the identifier of a job in the background: the one that its client gave, or the next one of the switch
abbrev pub job_uuid : Option Text → Switch → Text
job_uuid None s = identifier_of (with_next_identifier s)
job_uuid (Some uuid) s = uuid

-- it is drawn, where its client gave none
abbrev pub drawn_for : Option Text → Switch → Switch
drawn_for None s = with_next_identifier s
drawn_for (Some uuid) s = s

-- a job in the background, which is to run a command
abbrev pub background_begun : Option Text → Text → Switch → Switch
background_begun given command s =
    with_new_job (record { asker = asker.Background (record { uuid = job_uuid given s; command = command }); work = Run }) (drawn_for given s)

-- ---- the end

-- a job in the background has ended with an answer
abbrev pub job_event : Background → Text → Event
job_event job answer = record { name = BackgroundJob; subject = None; detail = detail.Job job answer }

-- a connection is given the reply that it is owed; if it is not there, the reply is dropped
abbrev pub owed_given : ℕ → Text → Switch → Switch
owed_given conn answer s = with_late_reply conn (api_reply answer) (conn_changed not_owed conn s)

-- an answer is given to the connection that is owed it, or told to whoever has subscribed that
abbrev pub answered : Asker → Text → Switch → Switch
answered (asker.Conn conn) answer s = owed_given conn answer s
answered (asker.Background job) answer s = with_event (job_event job answer) s

-- a job ends, and its answer is given
abbrev pub after_job_end : ℕ → Asker → Text → Switch → Switch
after_job_end number who answer s = answered who answer (without_job number s)
