-- By which entry of a journal a connection parted, among others who enter.
use Rattle.std.specs.Prelude.{◌≡◌, ◌⊎◌, ℕ, true, List, [], ◌∷◌, ◌++◌, None, Some, is_some}
use Rattle.fs_doc.specs.Reading.{Configuration}
use Rattle.fs_text.specs.Texts.{Text}
use Rattle.fs_cmd.specs.Commands.{command_of}
use Rattle.fs_state.specs.declared.conn.Parting.{Parting}
use Rattle.fs_state.specs.declared.conn.Parting.TheVariants as parting
use Rattle.fs_machine.specs.declared.entry.Entry.{Entry}
use Rattle.fs_machine.specs.declared.entry.Act.TheVariants.{Command, Close}
use Rattle.fs_machine.specs.declared.entry.Closing.TheVariants.{EndOfInput}
use Rattle.fs_machine.specs.Questions.{parting_at}
use Rattle.fs_machine.specs.Frames.{commands_of}
use Rattle.fs_machine.specs.Laws.{state_after}
use Rattle.fs_conn.specs.declared.end.End.{End}
use Rattle.fs_conn.specs.declared.end.End.TheVariants as ends
use Rattle.fs_conn.specs.Ends.{PartsFor, is_by_input}

-- the entry of a journal by which a connection parted for this, with what stands before and behind it; behind it it gave no command
pub record PartedAt (config : Configuration) (conn : ℕ) (log : List Entry) (why : Parting) : Type 0 where
  pub before : List Entry
  pub entry : Entry
  pub behind : List Entry
  pub split : log ≡ before ++ entry ∷ behind
  pub last : commands_of conn behind ≡ []
  pub unparted : parting_at (state_after config before) conn ≡ None
  pub parted : parting_at (state_after config (before ++ entry ∷ [])) conn ≡ Some why

-- that entry was a command of the connection, one for which it parts so
pub record PartedBy (config : Configuration) (conn : ℕ) (log : List Entry) (why : Parting) : Type 0 where
  pub at : PartedAt config conn log why
  pub block : Text
  pub gives : at.entry.act ≡ Command conn block
  pub is : PartsFor why config.settings.password (command_of block)

-- that entry was the end of its input
pub record PartedByInput (config : Configuration) (conn : ℕ) (log : List Entry) : Type 0 where
  pub at : PartedAt config conn log parting.EndOfInput
  pub ends : at.entry.act ≡ Close conn EndOfInput

-- by that entry the switch came to its end
pub record StoppedBy (config : Configuration) (conn : ℕ) (log : List Entry) : Type 0 where
  pub at : PartedAt config conn log parting.Stopped
  pub unstopped : (state_after config at.before).stopping ≡ None
  pub stopped : is_some (state_after config (at.before ++ at.entry ∷ [])).stopping ≡ true

-- it was made to stop: by the end of the switch, or since the channel that it controls had left it
abbrev pub MadeToStop : Configuration → ℕ → List Entry → Type 0
MadeToStop config conn log = StoppedBy config conn log ⊎ PartedAt config conn log parting.ChannelLeft

-- how a conversation ends whose connection parted for this
abbrev pub EndsAs : Parting → End → Type 0
EndsAs parting.Exit end = end ≡ ends.Exit
EndsAs parting.AuthRefused end = end ≡ ends.AuthRefused
EndsAs parting.EndOfInput end = is_by_input end ≡ true
EndsAs parting.Stopped end = end ≡ ends.Stopped
EndsAs parting.ChannelLeft end = end ≡ ends.Stopped
