-- Which entries are refused, and what the others do.
use Rattle.std.specs.Prelude.{◌≡◌, ◌≢◌, ℕ, ◌-◌, ◌^◌, min, ◌==◌, ◌||◌, not, Bool, true, false, [], length, Option, None, Some, is_some, is_none}
use Rattle.std.specs.Prelude.{unwrap_or, slice_get, if◌then◌else◌}
use Rattle.fs_cmd.specs.Commands.{command_of}
use Rattle.fs_cmd.specs.Frames.{auth_request}
use Rattle.fs_chan.specs.declared.due.Due.{Due}
use Rattle.fs_chan.specs.declared.due.Due.TheVariants.{Now, At}
use Rattle.fs_state.specs.declared.conn.Conn.{Conn}
use Rattle.fs_state.specs.declared.conn.Phase.{Phase}
use Rattle.fs_state.specs.declared.conn.Phase.TheVariants as phase
use Rattle.fs_state.specs.declared.conn.Parting.TheVariants as parting
use Rattle.fs_filter.specs.Subscriptions.{nothing}
use Rattle.fs_state.specs.Drawn as numbers
use Rattle.fs_state.specs.Posting.{with_posts}
use Rattle.fs_state.specs.Switch.{Switch, with_new_conn, without_conn, with_frame_taken, waiting_for, is_full_of_conns, with_frame_now, is_full}
use Rattle.fs_state.specs.Switch.{is_full_for_load}
use Rattle.fs_state.specs.Switch.{at_moment, after_entry}
use Rattle.fs_machine.specs.declared.entry.Entry.{Entry}
use Rattle.fs_machine.specs.declared.entry.Act.{Act}
use Rattle.fs_machine.specs.declared.entry.Act.TheVariants.{Arrive, Command, Take, Close, Dialed, Work, Job, Loaded, Halt}
use Rattle.fs_machine.specs.declared.entry.Closing.{Closing}
use Rattle.fs_machine.specs.declared.entry.Closing.TheVariants.{EndOfInput, Sent, Failed}
use Rattle.fs_machine.specs.declared.reply.Reply.{Reply}
use Rattle.fs_machine.specs.declared.reply.Reply.TheVariants as reply
use Rattle.fs_machine.specs.declared.refusal.Refusal.{Refusal}
use Rattle.fs_machine.specs.declared.refusal.Refusal.TheVariants as refusal
use Rattle.fs_machine.specs.Entries.{cost_of, is_load}
use Rattle.fs_machine.specs.Loading.{waits_for_load, after_load}
use Rattle.fs_machine.specs.Connections.{phase_at, conn_changed, parted}
use Rattle.fs_machine.specs.Questions.{owed_to}
use Rattle.fs_machine.specs.Controlling.{dial_at, held_through, after_dial, after_letting_go, after_leavings}
use Rattle.fs_machine.specs.Due.{slot_due, job_due}
use Rattle.fs_machine.specs.Work.{after_work}
use Rattle.fs_machine.specs.Jobs.{job_done}
use Rattle.fs_machine.specs.Commands.{command_done}
use Rattle.fs_machine.specs.Shutdown.{after_shutdown}

-- ---- refusals

-- it reads commands
abbrev pub reads : Phase → Bool
reads phase.Fresh = true
reads phase.Ready = true
reads phase.Ending = false
reads phase.Closed = false

-- it is gone, or was never there
abbrev pub is_closed : Phase → Bool
is_closed phase.Fresh = false
is_closed phase.Ready = false
is_closed phase.Ending = false
is_closed phase.Closed = true

-- it reads no further command, and is not closed yet
abbrev pub is_ending : Phase → Bool
is_ending phase.Fresh = false
is_ending phase.Ready = false
is_ending phase.Ending = true
is_ending phase.Closed = false

-- a refusal where this holds, or else another
abbrev pub refused_where : Bool → Refusal → Option Refusal → Option Refusal
refused_where test refusal otherwise = if test then Some refusal else otherwise

-- no command is taken while a reply is owed
abbrev pub busy : Option ℕ → Option Refusal
busy None = None
busy (Some since) = Some (refusal.Busy since)

-- something is still to be sent, or it may give commands
abbrev pub is_unsent : Switch → ℕ → Bool
is_unsent s conn = not (is_ending (phase_at s conn)) || (not (length (waiting_for s conn) == 0) || is_some (owed_to s conn))

-- that all is not sent yet
abbrev pub unsent : ℕ → Switch → Refusal
unsent conn s = refusal.Unsent (length (waiting_for s conn)) (is_some (owed_to s conn))

-- why it is too early to close a connection to which all is to be sent
abbrev pub refused_unsent : ℕ → Switch → Option Refusal
refused_unsent conn s = refused_where (is_unsent s conn) (unsent conn s) None

-- why a connection cannot be closed so
abbrev pub refused_close : ℕ → Closing → Switch → Option Refusal
refused_close conn EndOfInput s = refused_where (not (reads (phase_at s conn))) refusal.Gone None
refused_close conn Sent s = refused_where (is_closed (phase_at s conn)) refusal.Gone (refused_unsent conn s)
refused_close conn Failed s = refused_where (is_closed (phase_at s conn)) refusal.Gone None

-- there is nothing to do yet
abbrev pub not_due : Option Due → Option Refusal
not_due None = Some (refusal.NotDue None)
not_due (Some Now) = None
not_due (Some (At moment)) = Some (refusal.NotDue (Some moment))

-- why no controller can be dialed for the channel in a slot: it waits for none
abbrev pub refused_dial : ℕ → Switch → Option Refusal
refused_dial slot s = refused_where (is_none (dial_at s slot)) (refusal.NotDue None) None

-- why the job of a number does nothing: it waits for a load, or there is nothing to do yet
abbrev pub refused_job : ℕ → Switch → Option Refusal
refused_job number s = refused_where (waits_for_load number s) (refusal.NotDue None) (not_due (job_due number s))

-- why no load is noted for the job of a number: it waits for none
abbrev pub refused_load : ℕ → Switch → Option Refusal
refused_load number s = refused_where (not (waits_for_load number s)) (refusal.NotDue None) None

-- why a connection cannot give a command
abbrev pub refused_command : ℕ → Switch → Option Refusal
refused_command conn s = refused_where (not (reads (phase_at s conn))) refusal.Gone (busy (owed_to s conn))

-- how many connections there may be, as far as 16 bits go
abbrev pub seats_for_conns : Switch → ℕ
seats_for_conns s = min (length s.conns) (2 ^ 16 - 1)

-- nobody comes, and nobody stops it, once the switch has come to its end
abbrev pub refused_at_end : Switch → Option Refusal → Option Refusal
refused_at_end s otherwise = refused_where (is_some s.stopping) refusal.Gone otherwise

-- why nobody can come
abbrev pub refused_arrival : Switch → Option Refusal
refused_arrival s = refused_at_end s (refused_where (is_full_of_conns s) (refusal.TooMany (seats_for_conns s)) None)

-- why an act is refused
abbrev pub refused_act : Act → Switch → Option Refusal
refused_act Arrive s = refused_arrival s
refused_act (Command conn block) s = refused_command conn s
refused_act (Take conn) s =
    refused_where (is_closed (phase_at s conn)) refusal.Gone (refused_where (length (waiting_for s conn) == 0) refusal.Empty None)
refused_act (Close conn how) s = refused_close conn how s
refused_act (Dialed slot linked) s = refused_dial slot s
refused_act (Work slot) s = not_due (slot_due slot s)
refused_act (Job number) s = refused_job number s
refused_act (Loaded number note) s = refused_load number s
refused_act Halt s = refused_at_end s None

-- that the journal is full
abbrev pub full_journal : Switch → Refusal
full_journal s = refusal.JournalFull s.cost s.settings.journal_limit

-- why each entry but that of a load is refused, where the journal is full
abbrev pub refused_as_full : Switch → Option Refusal
refused_as_full s = refused_where (is_full s) (full_journal s) None

-- why that of a load is refused, where it has no room for one
abbrev pub refused_as_full_for_load : Switch → Option Refusal
refused_as_full_for_load s = refused_where (is_full_for_load s) (full_journal s) None

-- the journal has no room for the largest entry that there may be instead of this one
abbrev pub is_full_for : Act → Switch → Bool
is_full_for act s = if is_load act then is_full_for_load s else is_full s

-- the first refusal of an entry
unfoldable pub refusal_of : Switch → Entry → Option Refusal
refusal_of s entry =
    refused_where (is_full_for entry.act s) (full_journal s) (refused_act entry.act (at_moment entry.moment s))

-- this is why an entry is refused, or there was no memory
abbrev pub IsRefusedFor : Switch → Entry → Refusal → Type 0
IsRefusedFor s entry r = r ≢ refusal.Memory → refusal_of s entry ≡ Some r

-- ---- what the others do

-- the state behind an act, and the reply to it
pub record Acted : Type 0 where
  pub state : Switch
  pub reply : Reply

-- an act comes to this state and this reply
abbrev pub ComesTo : Acted → Switch → Reply → Type 0
ComesTo acted state reply = acted ≡ record { state = state; reply = reply }

-- a connection that has come
abbrev pub new_conn : Conn
new_conn = record { phase = phase.Fresh; owed = None; parting = None; control = None; subs = nothing }

-- a connection has come, and is asked for the password
abbrev pub arrived : Switch → Acted
arrived s = record {
  state = with_frame_now (numbers.with_conn s.drawn).conns auth_request (with_new_conn new_conn s);
  reply = reply.Arrived (numbers.with_conn s.drawn).conns;
}

-- a command was taken: whether its reply is still owed
abbrev pub queued_in : ℕ → Switch → Acted
queued_in conn s = record { state = s; reply = reply.Queued (is_some (owed_to s conn)) }

-- the first frame that waits for a connection is handed out
abbrev pub taken : ℕ → Switch → Acted
taken conn s = record { state = with_frame_taken conn s; reply = reply.Frame (unwrap_or (slice_get (waiting_for s conn) 0) []) }

-- the input of a connection has ended, or it is gone; a channel that it holds goes on
abbrev pub after_close : Closing → ℕ → Switch → Switch
after_close EndOfInput conn s = conn_changed (parted parting.EndOfInput) conn (after_letting_go conn s)
after_close Sent conn s = without_conn conn (after_letting_go conn s)
after_close Failed conn s = without_conn conn (after_letting_go conn s)

-- what an act does by itself
abbrev pub acted : Act → Switch → Acted
acted Arrive s = arrived s
acted (Command conn block) s = queued_in conn (command_done conn (command_of block) s)
acted (Take conn) s = taken conn s
acted (Close conn how) s = record { state = after_close how conn s; reply = reply.Closed }
acted (Dialed slot linked) s = record { state = after_dial linked slot s; reply = reply.Dialed (held_through linked slot s) }
acted (Work slot) s = record { state = after_work slot s; reply = reply.Worked }
acted (Job number) s = record { state = job_done number s; reply = reply.Worked }
acted (Loaded number note) s = record { state = after_load note number s; reply = reply.Worked }
acted Halt s = record { state = after_shutdown s; reply = reply.Halted }

-- what an act does: behind it each connection parts whose channel has left it
abbrev pub act_done : Act → Switch → Acted
act_done act s = let done = acted act s in record { state = after_leavings done.state; reply = done.reply }

-- the state behind an entry, and its reply: its act is done, and its events are posted; defined also for what is refused
unfoldable pub step : Switch → Entry → Acted
step s entry =
    let t = act_done entry.act (at_moment entry.moment s) in
    record { state = after_entry (cost_of entry.act) (with_posts s t.state); reply = t.reply }
