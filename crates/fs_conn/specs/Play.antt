-- What a played connection is: its journal, what is written to it, and how it ends.
use Rattle.std.specs.Prelude.{ℕ, zero, suc, ◌^◌, Bool, false, List, [], ◌∷◌, ◌++◌, length, slice_get, Option, None, Some, is_some, not}
use Rattle.std.specs.Prelude.{◌&&◌}
use Rattle.std.specs.Prelude.{if◌then◌else◌}
use Rattle.std.specs.List.{concat}
use Rattle.fs_doc.specs.Reading.{Configuration}
use Rattle.fs_frame.specs.Block.{fault_of}
use Rattle.fs_frame.specs.Blocks.{blocks_of, rest_of}
use Rattle.fs_frame.specs.declared.fault.Fault.{Fault}
use Rattle.fs_frame.specs.declared.fault.Fault.TheVariants as faults
use Rattle.fs_state.specs.declared.conn.Parting.{Parting}
use Rattle.fs_state.specs.declared.conn.Parting.TheVariants as parting
use Rattle.fs_state.specs.Switch.{Switch, empty, waiting_for, is_full_for_load}
use Rattle.fs_machine.specs.declared.due.DueActor.{DueActor}
use Rattle.fs_machine.specs.declared.due.DueActor.TheVariants as actor
use Rattle.fs_machine.specs.declared.entry.Entry.{Entry}
use Rattle.fs_machine.specs.declared.entry.Act.{Act}
use Rattle.fs_machine.specs.declared.entry.Act.TheVariants.{Arrive, Command, Take, Close, Dialed, Work, Job, Loaded, Halt}
use Rattle.fs_machine.specs.declared.entry.Closing.TheVariants.{EndOfInput, Sent}
use Rattle.fs_machine.specs.declared.note.LoadNote.{LoadNote}
use Rattle.fs_machine.specs.declared.refusal.Refusal.{Refusal}
use Rattle.fs_machine.specs.declared.refusal.Refusal.TheVariants as refusal
use Rattle.fs_machine.specs.Due.{next_due}
use Rattle.fs_machine.specs.Step.{refusal_of, reads, is_full_for}
use Rattle.fs_machine.specs.Runs.{run_from}
use Rattle.fs_machine.specs.Frames.{handed_from}
use Rattle.fs_machine.specs.Connections.{phase_at}
use Rattle.fs_machine.specs.Questions.{parting_at, owes}
use Rattle.fs_conn.specs.declared.end.End.{End}
use Rattle.fs_conn.specs.declared.end.End.TheVariants.{Exit, AuthRefused, Stopped, Eof, ReadFault, TooLong, BadLength, JournalFull, Memory}
use Rattle.fs_conn.specs.declared.end.End.TheVariants.{Runaway}

-- a play so far: what the switch was configured by, the notes of all loads that come in it, its journal, the clock, and how the play ended,
-- if it did
pub record Play : Type 0 where
  pub config : Configuration
  pub notes : List LoadNote
  pub journal : List Entry
  pub clock : ℕ
  pub end : Option End

-- nothing is entered yet
abbrev pub new_play : Configuration → List LoadNote → Play
new_play config notes = record { config = config; notes = notes; journal = []; clock = 0; end = None }

-- the switch that it has come to
abbrev pub switch_of : Play → Switch
switch_of p = run_from (empty p.config) p.journal

-- the bytes of all frames that a journal hands out to the one connection
abbrev pub bytes_handed : Configuration → List Entry → List ℕ
bytes_handed config journal = concat (handed_from 1 (empty config) journal)

-- the bytes that a play has handed out
abbrev pub output_of : Play → List ℕ
output_of p = bytes_handed p.config p.journal

-- a play has come to its end
abbrev pub is_over : Play → Bool
is_over p = is_some p.end

-- it ends so, unless it is over
abbrev pub with_end : End → Play → Play
with_end end p = if is_over p then p else record p { end = Some end }

-- ---- loads

-- the note of a load, where an act notes one
abbrev pub note_in : Act → List LoadNote
note_in Arrive = []
note_in (Command conn block) = []
note_in (Take conn) = []
note_in (Close conn how) = []
note_in (Dialed slot linked) = []
note_in (Work slot) = []
note_in (Job number) = []
note_in (Loaded number note) = note ∷ []
note_in Halt = []

-- the notes of the loads in a journal, in their order
abbrev pub noted : List Entry → List LoadNote
noted [] = []
noted (entry ∷ entries) = note_in entry.act ++ noted entries

-- the note of the load that comes next, if one is left
abbrev pub next_note : Play → Option LoadNote
next_note p = slice_get p.notes (length (noted p.journal))

-- ---- entries

-- how an entry is judged that comes while a play is not over
abbrev pub Judge : Type 0
Judge = Entry → Play → Play

-- an entry stands behind the others where it is not refused; a journal that is full ends all, and of any other refusal nothing comes
abbrev pub after_judging : Option Refusal → Entry → Play → Play
after_judging None entry p = record p { journal = p.journal ++ entry ∷ [] }
after_judging (Some (refusal.JournalFull cost limit)) entry p = record p { end = Some (JournalFull cost limit) }
after_judging (Some _) entry p = p

-- by what the machine refuses it for
abbrev pub by_refusal : Judge
by_refusal entry p = after_judging (refusal_of (switch_of p) entry) entry p

-- that its journal is full
abbrev pub end_full : Switch → End
end_full s = JournalFull s.cost s.settings.journal_limit

-- by the room in the journal alone: each entry stands behind the others until the journal is full for it, which ends all
abbrev pub by_room : Judge
by_room entry p =
    if is_full_for entry.act (switch_of p) then record p { end = Some (end_full (switch_of p)) }
    else record p { journal = p.journal ++ entry ∷ [] }

-- an entry is tried, unless the play is over
abbrev pub after_trying_as : Judge → Entry → Play → Play
after_trying_as judge entry p = if is_over p then p else judge entry p

-- an act is tried at the clock's moment
abbrev pub after_trying_act_as : Judge → Act → Play → Play
after_trying_act_as judge act p = after_trying_as judge (record { moment = p.clock; act = act }) p

-- ---- what is due is worked

-- so many times
unfoldable pub repeated : {A : Type 0} → ℕ → (A → A) → A → A
repeated zero act a = a
repeated (suc n) act a = repeated n act (act a)

-- how a play ends in which no note is left for a load that is due: by its journal, where that has no room for one, else for want of memory
abbrev pub end_unnoted : Switch → End
end_unnoted s = if is_full_for_load s then end_full s else Memory

-- a load is noted for the job of a number, as long as a note is left
abbrev pub after_loading_as : Judge → ℕ → Option LoadNote → Play → Play
after_loading_as judge number (Some note) p = after_trying_act_as judge (Loaded number note) p
after_loading_as judge number None p = with_end (end_unnoted (switch_of p)) p

-- the least slot, or else the least job, that has something to do does it; nobody can be dialed
abbrev pub after_due_work_as : Judge → DueActor → Play → Play
after_due_work_as judge (actor.Slot slot) p = after_trying_act_as judge (Work slot) p
after_due_work_as judge (actor.Dial slot) p = after_trying_act_as judge (Dialed slot false) p
after_due_work_as judge (actor.Job number) p = after_trying_act_as judge (Job number) p
after_due_work_as judge (actor.Load number) p = after_loading_as judge number (next_note p) p
after_due_work_as judge (actor.Later moment) p = p
after_due_work_as judge actor.Never p = p

-- who has something to do at the clock's moment, or else when somebody has
abbrev pub next_actor : Play → DueActor
next_actor p = next_due p.clock (switch_of p)

-- one that has something to do does it
abbrev pub after_due_step_as : Judge → Play → Play
after_due_step_as judge p = after_due_work_as judge (next_actor p) p

-- a play that has still something to do has run away
abbrev pub with_runaway_end_by : DueActor → Play → Play
with_runaway_end_by (actor.Slot slot) p = with_end (Runaway 100000) p
with_runaway_end_by (actor.Dial slot) p = with_end (Runaway 100000) p
with_runaway_end_by (actor.Job number) p = with_end (Runaway 100000) p
with_runaway_end_by (actor.Load number) p = with_end (Runaway 100000) p
with_runaway_end_by (actor.Later moment) p = p
with_runaway_end_by actor.Never p = p

-- it has run away, where somebody still has something to do
abbrev pub with_runaway_end : Play → Play
with_runaway_end p = with_runaway_end_by (next_actor p) p

-- all that is due is worked, as long as that takes no more than 100,000 entries
unfoldable pub after_settling_as : Judge → Play → Play
after_settling_as judge p = with_runaway_end (repeated 100000 (after_due_step_as judge) p)

-- ---- replies that are owed

-- a reply is owed, and the play goes on
abbrev pub waits : Play → Bool
waits p = not (is_over p) && owes (switch_of p) 1

-- the clock goes on to the next moment at which something is due, and that is worked
abbrev pub after_waiting_until_as : Judge → DueActor → Play → Play
after_waiting_until_as judge (actor.Later moment) p = after_settling_as judge (record p { clock = moment })
after_waiting_until_as judge _ p = p

-- the clock goes on once, where a reply is owed
abbrev pub after_waiting_once_as : Judge → Play → Play
after_waiting_once_as judge p = if waits p then after_waiting_until_as judge (next_actor p) p else p

-- that goes on while a reply is owed; there are no more than 2^64 moments
unfoldable pub after_waiting_as : Judge → Play → Play
after_waiting_as judge p = repeated (2 ^ 64) (after_waiting_once_as judge) p

-- ---- frames

-- a Take for each frame that waits
unfoldable pub after_taking_all_as : Judge → Play → Play
after_taking_all_as judge p = repeated (length (waiting_for (switch_of p) 1)) (after_trying_act_as judge (Take 1)) p

-- what comes of an act
abbrev pub after_following_as : Judge → Play → Play
after_following_as judge p = after_taking_all_as judge (after_waiting_as judge (after_settling_as judge p))

-- an act with all that comes of it
abbrev pub after_act_as : Judge → Act → Play → Play
after_act_as judge act p = after_following_as judge (after_trying_act_as judge act p)

-- ---- the conversation

-- it reads commands
abbrev pub reads_on : Play → Bool
reads_on p = reads (phase_at (switch_of p) 1)

-- and is owed no reply
abbrev pub takes_commands : Play → Bool
takes_commands p = reads_on p && not (owes (switch_of p) 1)

-- the next block is a command, unless the connection takes none any more
abbrev pub after_command_as : Judge → Play → List ℕ → Play
after_command_as judge p block = if takes_commands p then after_act_as judge (Command 1 block) p else p

-- these blocks are commands, one after another
abbrev pub after_commands_as : Judge → Play → List (List ℕ) → Play
after_commands_as judge p [] = p
after_commands_as judge p (block ∷ blocks) = after_commands_as judge (after_command_as judge p block) blocks

-- the connection has come
abbrev pub after_opening_as : Judge → Configuration → List LoadNote → Play
after_opening_as judge config notes = after_act_as judge Arrive (new_play config notes)

-- its input has ended
abbrev pub after_input_end_as : Judge → Play → Play
after_input_end_as judge p = if reads_on p then after_taking_all_as judge (after_trying_act_as judge (Close 1 EndOfInput) p) else p

-- it is closed
abbrev pub after_closing_as : Judge → Play → Play
after_closing_as judge p = after_trying_act_as judge (Close 1 Sent) (after_input_end_as judge p)

-- ---- how it ends

-- how a connection ends that reads no further command for this reason
abbrev pub end_by : Option Parting → Option End
end_by None = None
end_by (Some parting.Exit) = Some Exit
end_by (Some parting.AuthRefused) = Some AuthRefused
end_by (Some parting.EndOfInput) = None
end_by (Some parting.Stopped) = Some Stopped
end_by (Some parting.ChannelLeft) = Some Stopped

-- how a connection ends that reads no further command, or none where it reads on
abbrev pub farewell : Play → Option End
farewell p = end_by (parting_at (switch_of p) 1)

-- how it ends by what is wrong with the bytes that were read behind its blocks
abbrev pub end_for : Fault → End
end_for (faults.TooLong len) = TooLong len
end_for faults.BadLength = BadLength

-- by its last command, or else by what is wrong with those bytes, by a read that failed, or by the end of the input
abbrev pub end_behind : Option End → Option Fault → Bool → End
end_behind (Some end) fault read_failed = end
end_behind None (Some fault) read_failed = end_for fault
end_behind None None read_failed = if read_failed then ReadFault else Eof

-- the play of these bytes up to the last command
abbrev pub after_conversing_as : Judge → Configuration → List ℕ → List LoadNote → Play
after_conversing_as judge config input notes = after_commands_as judge (after_opening_as judge config notes) (blocks_of input)

-- what these bytes of a link play over a switch of this configuration, where the reading ended or failed behind them, and these are the notes
-- of the loads
unfoldable pub played_as : Judge → Configuration → List ℕ → Bool → List LoadNote → Play
played_as judge config input read_failed notes =
    let p = after_conversing_as judge config input notes in
    with_end (end_behind (farewell p) (fault_of (rest_of input)) read_failed) (after_closing_as judge p)

-- ---- the play of a machine, which judges each entry by what it refuses it for

-- an entry is tried
abbrev pub after_trying : Entry → Play → Play
after_trying = after_trying_as by_refusal

-- an act is tried at the clock's moment
abbrev pub after_trying_act : Act → Play → Play
after_trying_act = after_trying_act_as by_refusal

-- a load is noted for the job of a number, as long as a note is left
abbrev pub after_loading : ℕ → Option LoadNote → Play → Play
after_loading = after_loading_as by_refusal

-- the one that has something to do does it
abbrev pub after_due_work : DueActor → Play → Play
after_due_work = after_due_work_as by_refusal

-- one that has something to do does it, if there is one
abbrev pub after_due_step : Play → Play
after_due_step = after_due_step_as by_refusal

-- all that is due is worked
abbrev pub after_settling : Play → Play
after_settling = after_settling_as by_refusal

-- the clock goes on to the next moment at which something is due, and that is worked
abbrev pub after_waiting_until : DueActor → Play → Play
after_waiting_until = after_waiting_until_as by_refusal

-- the clock goes on once, where a reply is owed
abbrev pub after_waiting_once : Play → Play
after_waiting_once = after_waiting_once_as by_refusal

-- the clock goes on while a reply is owed
abbrev pub after_waiting : Play → Play
after_waiting = after_waiting_as by_refusal

-- all frames that wait are taken
abbrev pub after_taking_all : Play → Play
after_taking_all = after_taking_all_as by_refusal

-- what comes of an act
abbrev pub after_following : Play → Play
after_following = after_following_as by_refusal

-- an act with all that comes of it
abbrev pub after_act : Act → Play → Play
after_act = after_act_as by_refusal

-- the next block is a command, unless the connection takes none any more
abbrev pub after_command : Play → List ℕ → Play
after_command = after_command_as by_refusal

-- these blocks are commands, one after another
abbrev pub after_commands : Play → List (List ℕ) → Play
after_commands = after_commands_as by_refusal

-- the connection has come
abbrev pub after_opening : Configuration → List LoadNote → Play
after_opening = after_opening_as by_refusal

-- its input has ended
abbrev pub after_input_end : Play → Play
after_input_end = after_input_end_as by_refusal

-- it is closed
abbrev pub after_closing : Play → Play
after_closing = after_closing_as by_refusal

-- the play of these bytes up to the last command
abbrev pub after_conversing : Configuration → List ℕ → List LoadNote → Play
after_conversing = after_conversing_as by_refusal

-- what these bytes of a link play, where the reading ended or failed behind them
abbrev pub played : Configuration → List ℕ → Bool → List LoadNote → Play
played = played_as by_refusal
