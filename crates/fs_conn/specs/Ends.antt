-- What the end of a play shows.
use Rattle.std.specs.Prelude.{◌≡◌, ◌≢◌, ◌⊎◌, ℕ, Bool, true, false, List, [], ◌∷◌, ◌++◌, length, Option, None, Some, is_some}
use Rattle.std.specs.List.{AllByRecursion}
use Rattle.fs_doc.specs.Limits.{IsWithin}
use Rattle.fs_doc.specs.Reading.{Configuration}
use Rattle.fs_text.specs.Texts.{Text}
use Rattle.fs_frame.specs.declared.fault.Fault.{Fault}
use Rattle.fs_frame.specs.declared.fault.Fault.TheVariants as faults
use Rattle.fs_cmd.specs.Commands as command
use Rattle.fs_cmd.specs.Commands.{Command as Read, command_of}
use Rattle.fs_state.specs.declared.conn.Parting.{Parting}
use Rattle.fs_state.specs.declared.conn.Parting.TheVariants as parting
use Rattle.fs_state.specs.Switch.{Switch, empty, is_full, is_full_for_load}
use Rattle.fs_machine.specs.declared.entry.Entry.{Entry}
use Rattle.fs_machine.specs.declared.entry.Act.{Act}
use Rattle.fs_machine.specs.declared.entry.Act.TheVariants.{Command, Dialed, Work, Job, Loaded}
use Rattle.fs_machine.specs.declared.due.DueActor.TheVariants as actor
use Rattle.fs_machine.specs.Questions.{parting_at}
use Rattle.fs_machine.specs.Runs.{run_from}
use Rattle.fs_machine.specs.Frames.{commands_of}
use Rattle.fs_conn.specs.declared.end.End.{End}
use Rattle.fs_conn.specs.declared.end.End.TheVariants as ends
use Rattle.fs_conn.specs.Play.{Play, switch_of, next_actor, next_note}
use Rattle.fs_conn.specs.Steps.{is_due}

-- ---- by its last command

-- the commands for which a connection parts by its own doing: `exit`, and `auth` with a password that is not this one
abbrev pub PartsFor : Parting → Text → Read → Type 0
PartsFor parting.Exit password read = read ≡ command.Exit
PartsFor parting.AuthRefused password read = (given : Text) × (read ≡ command.Auth given) × (given ≢ password)
PartsFor parting.EndOfInput password read = ⊥
PartsFor parting.Stopped password read = ⊥
PartsFor parting.ChannelLeft password read = ⊥

-- the entry of a command of the connection
abbrev pub command_at : ℕ → Text → Entry
command_at moment block = record { moment = moment; act = Command 1 block }

-- its last command in a journal, with what stands before and behind it
pub record LastCommand (journal : List Entry) : Type 0 where
  pub before : List Entry
  pub moment : ℕ
  pub block : Text
  pub behind : List Entry
  pub split : journal ≡ before ++ command_at moment block ∷ behind
  pub last : commands_of 1 behind ≡ []

-- it had not parted before its last command, and by that it parted for this
pub record IsPartedBy (why : Parting) (config : Configuration) (journal : List Entry) : Type 0 where
  pub command : LastCommand journal
  pub is : PartsFor why config.settings.password (command_of command.block)
  pub unparted : parting_at (run_from (empty config) command.before) 1 ≡ None
  pub parted : parting_at (run_from (empty config) (command.before ++ command_at command.moment command.block ∷ [])) 1 ≡ Some why

-- the last of these blocks is a command for which a connection parts so
pub record EndsFor (why : Parting) (password : Text) (blocks : List Text) : Type 0 where
  pub earlier : List Text
  pub block : Text
  pub split : blocks ≡ earlier ++ block ∷ []
  pub is : PartsFor why password (command_of block)

-- ---- not by its own doing

-- by an entry of a journal the connection parted for this, and it gives no command behind that
pub record IsPartedAside (why : Parting) (config : Configuration) (journal : List Entry) : Type 0 where
  pub before : List Entry
  pub entry : Entry
  pub behind : List Entry
  pub split : journal ≡ before ++ entry ∷ behind
  pub last : commands_of 1 behind ≡ []
  pub unparted : parting_at (run_from (empty config) before) 1 ≡ None
  pub parted : parting_at (run_from (empty config) (before ++ entry ∷ [])) 1 ≡ Some why

-- by that entry the switch came to its end, for which it parted
pub record IsStoppedBy (config : Configuration) (journal : List Entry) : Type 0 where
  pub at : IsPartedAside parting.Stopped config journal
  pub unstopped : (run_from (empty config) at.before).stopping ≡ None
  pub stopped : is_some (run_from (empty config) (at.before ++ at.entry ∷ [])).stopping ≡ true

-- it is made to stop: by the end of the switch, or since the channel that it controls has left it
abbrev pub IsMadeToStop : Configuration → List Entry → Type 0
IsMadeToStop config journal = IsStoppedBy config journal ⊎ IsPartedAside parting.ChannelLeft config journal

-- ---- by its input

-- an end that comes behind all blocks of the input
abbrev pub is_by_input : End → Bool
is_by_input ends.Eof = true
is_by_input ends.ReadFault = true
is_by_input (ends.TooLong len) = true
is_by_input ends.BadLength = true
is_by_input ends.Exit = false
is_by_input ends.AuthRefused = false
is_by_input ends.Stopped = false
is_by_input ends.WriteFault = false
is_by_input (ends.JournalFull cost limit) = false
is_by_input ends.Memory = false
is_by_input (ends.Runaway count) = false

-- ---- before the connection

-- the journal of a switch is full, at this cost and limit
pub record IsFullAt (cost limit : ℕ) (s : Switch) : Type 0 where
  pub full : is_full s ≡ true
  pub cost_is : cost ≡ s.cost
  pub limit_is : limit ≡ s.settings.journal_limit

-- the turn of a job that waits for a load has come, and the journal has no room for one, at this cost and limit
pub record IsFullForLoadAt (cost limit : ℕ) (p : Play) : Type 0 where
  pub job : ℕ
  pub turn : next_actor p ≡ actor.Load job
  pub full : is_full_for_load (switch_of p) ≡ true
  pub cost_is : cost ≡ (switch_of p).cost
  pub limit_is : limit ≡ (switch_of p).settings.journal_limit

-- the turn of such a job has come, the journal has room for a load, and no note of one is left
pub record LacksNote (p : Play) : Type 0 where
  pub job : ℕ
  pub turn : next_actor p ≡ actor.Load job
  pub room : is_full_for_load (switch_of p) ≡ false
  pub none : next_note p ≡ None

-- what is done by whoever has something to do
abbrev pub IsWork : Act → Type 0
IsWork (Work slot) = Unit {0}
IsWork (Dialed slot linked) = Unit {0}
IsWork (Job number) = Unit {0}
IsWork (Loaded number note) = Unit {0}
IsWork _ = ⊥

-- at this moment
abbrev pub IsWorkAt : ℕ → Entry → Type 0
IsWorkAt moment entry = (entry.moment ≡ moment) × IsWork entry.act

-- so many entries of work at one moment end a journal
pub record EndsInWork (count moment : ℕ) (journal : List Entry) : Type 0 where
  pub before : List Entry
  pub work : List Entry
  pub split : journal ≡ before ++ work
  pub many : length work ≡ count
  pub each : AllByRecursion (IsWorkAt moment) work

-- somebody has still something to do at the clock's moment, at which the last entries were so many of work, within the limits that each
-- configuration keeps
pub record RanAway (count : ℕ) (p : Play) : Type 0 where
  pub many : count ≡ 100000
  pub due : is_due (next_actor p) ≡ true
  pub worked : IsWithin p.config → EndsInWork count p.clock p.journal

-- ---- the cause of each end

-- the cause of an end, by the play, what was wrong with the bytes behind the blocks, and whether the reading failed
abbrev pub HasCause : End → Play → Option Fault → Bool → Type 0
HasCause ends.Exit p fault read_failed = IsPartedBy parting.Exit p.config p.journal
HasCause ends.AuthRefused p fault read_failed = IsPartedBy parting.AuthRefused p.config p.journal
HasCause ends.Stopped p fault read_failed = IsMadeToStop p.config p.journal
HasCause ends.Eof p fault read_failed = (fault ≡ None) × (read_failed ≡ false)
HasCause ends.ReadFault p fault read_failed = (fault ≡ None) × (read_failed ≡ true)
HasCause ends.WriteFault p fault read_failed = ⊥
HasCause (ends.TooLong len) p fault read_failed = fault ≡ Some (faults.TooLong len)
HasCause ends.BadLength p fault read_failed = fault ≡ Some faults.BadLength
HasCause (ends.JournalFull cost limit) p fault read_failed = IsFullAt cost limit (switch_of p) ⊎ IsFullForLoadAt cost limit p
HasCause ends.Memory p fault read_failed = LacksNote p
HasCause (ends.Runaway count) p fault read_failed = RanAway count p
