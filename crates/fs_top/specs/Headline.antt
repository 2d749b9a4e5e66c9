-- What a server comes to: its journal is a run, and each connection was served over it.
use Rattle.std.specs.Prelude.{◌≡◌, ℕ, if◌then◌else◌, Bool, true, false, List, [], ◌∷◌, ◌++◌, None, is_some, map}
use Rattle.std.specs.List.{All, list_any}
use Rattle.fs_doc.specs.Reading.{Configuration}
use Rattle.fs_ports.specs.Ports.{Input, Output, IsNewLink}
use Rattle.fs_book.specs.Counts.{times}
use Rattle.fs_book.specs.Opened.{OpensAt}
use Rattle.fs_state.specs.Switch.{is_full, chan_at}
use Rattle.fs_machine.specs.declared.entry.Entry.{Entry}
use Rattle.fs_machine.specs.declared.entry.Act.{Act}
use Rattle.fs_machine.specs.declared.entry.Act.TheVariants.{Halt}
use Rattle.fs_machine.specs.Laws.{state_after}
use Rattle.fs_machine.specs.Turned.{IsJournal, opens}
use Rattle.fs_conn.specs.declared.end.End.{End}
use Rattle.fs_conn.specs.Talks.{Told}
use Rattle.fs_top.specs.declared.conns.Conn.{Conn}
use Rattle.fs_top.specs.Lanes.{number_of}
use Rattle.fs_top.specs.Shutdowns.{ShutsDown}

-- Over this journal a connection, whose link was new when it came, came to its end so: the blocks that were read are its commands, each once
-- and in their order, and then others; what was written is a front of the bytes of its frames; and its end has its cause.
pub record IsTold (config : Configuration) (journal : List Entry) (number : ℕ) (input : Input) (output : Output) (end : End) : Type 0 where
  pub input0 : Input
  pub output0 : Output
  pub is_new : IsNewLink input0 output0
  pub told : Told config number input0 output0 journal input output end

-- The journal is a run of the configuration from the empty switch. Each connection that an entry of it opened was served once, and is told
-- over it. Each entry may have been entered.
pub record Headline {L : Type 0} (input : L → Input) (output : L → Output) (may : Entry → Type 0) (config : Configuration)
    (journal : List Entry) (conns : List (Conn L)) : Type 0 where
  pub run : IsJournal config journal
  pub each : (p number : ℕ) → OpensAt opens config journal p number → times number (map number_of conns) ≡ 1
  pub told : All (λ conn. IsTold config journal conn.number (input conn.link) (output conn.link) conn.end) conns
  pub allowed : All may journal

-- ---- by which entry a server came to its end

abbrev pub is_halt : Entry → Bool
is_halt entry = halts entry.act
  where
    halts : Act → Bool
    halts Halt = true
    halts _ = false

-- this entry brought the switch to its end
pub record EndedBy (config : Configuration) (journal : List Entry) (entry : Entry) : Type 0 where
  pub before : List Entry
  pub behind : List Entry
  pub split : journal ≡ before ++ entry ∷ behind
  pub unstopped : (state_after config before).stopping ≡ None
  pub stopped : is_some (state_after config (before ++ entry ∷ [])).stopping ≡ true

-- the status behind a journal: 8 where it is full; else 7 where an entry halted the switch; else 0, where a shutdown ended it
abbrev pub status_behind : Configuration → List Entry → ℕ
status_behind config journal = if is_full (state_after config journal) then 8 else (if list_any is_halt journal then 7 else 0)

-- the switch was ended by an entry that halts it
pub record IsHalted (config : Configuration) (journal : List Entry) : Type 0 where
  pub entry : Entry
  pub ended : EndedBy config journal entry
  pub halts : is_halt entry ≡ true

-- the switch was ended by an entry that runs `fsctl shutdown`, and no slot holds a channel
pub record IsShutDown (config : Configuration) (journal : List Entry) : Type 0 where
  pub entry : Entry
  pub ended : EndedBy config journal entry
  pub shuts : ShutsDown entry.act (state_after config ended.before)
  pub empty : (slot : ℕ) → chan_at (state_after config journal) slot ≡ None
