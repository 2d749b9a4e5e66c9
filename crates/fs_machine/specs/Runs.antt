-- The run of a journal.
use Rattle.std.specs.Prelude.{◌≡◌, ◌≤◌, ℕ, List, [], ◌∷◌, None, option_map, unwrap_or}
use Rattle.std.specs.Arc.{arc_value}
use Rattle.fs_text.specs.Texts.{Text}
use Rattle.fs_doc.specs.Reading.{Configuration}
use Rattle.fs_event.specs.Rings.{Events}
use Rattle.fs_state.specs.Switch.{Switch, empty}
use Rattle.fs_state.specs.Drafts.{after, Fits, events_posted}
use Rattle.fs_state.specs.declared.delta.Delta.{Delta}
use Rattle.fs_machine.specs.declared.entry.Entry.{Entry}
use Rattle.fs_machine.specs.declared.machine.Change.{Change}
use Rattle.fs_machine.specs.declared.reply.Reply.{Reply}
use Rattle.fs_machine.specs.Entries.{cost_of}
use Rattle.fs_state.specs.Switch.{after_entry}
use Rattle.fs_machine.specs.Step.{step, refusal_of}

-- the state behind entries
abbrev pub run_from : Switch → List Entry → Switch
run_from s [] = s
run_from s (entry ∷ entries) = run_from (step s entry).state entries

-- no entry is refused
abbrev pub IsRunFrom : Switch → List Entry → Type 0
IsRunFrom s [] = Unit {0}
IsRunFrom s (entry ∷ entries) = (refusal_of s entry ≡ None) × IsRunFrom (step s entry).state entries

-- a machine: what it was configured by, its journal, for how many entries there is room, and the ring of the events that wait
pub record View : Type 0 where
  pub config : Configuration
  pub journal : List Entry
  pub spare : ℕ
  pub ring : Events Text

-- the state behind its journal
abbrev pub state_of : View → Switch
state_of m = run_from (empty m.config) m.journal

-- what is kept is that state, and the journal is a run
pub record StandsFor (config : Configuration) (kept : Switch) (journal : List Entry) : Type 0 where
  pub state : kept ≡ run_from (empty config) journal
  pub defined : IsRunFrom (empty config) journal

-- the same machine, whatever room there is
pub record IsSame (old new : View) : Type 0 where
  pub config : new.config ≡ old.config
  pub journal : new.journal ≡ old.journal

-- there is room for a change: in the journal for its entry, and in the ring for the events that it posts
pub record HasRoomFor (m : View) (delta : Delta) : Type 0 where
  pub entry : 1 ≤ m.spare
  pub events : events_posted delta ≤ m.ring.spare

-- an entry that is not refused comes to this change and this reply
pub record IsPrepared (s : Switch) (entry : Entry) (delta : Delta) (reply : Reply) : Type 0 where
  pub defined : refusal_of s entry ≡ None
  pub steps : step s entry ≡ record { state = after_entry (cost_of entry.act) (after s delta); reply = reply }
  pub fits : Fits s delta

-- the dialplan of a change, if it has one, is that of the contexts that come into force by it
abbrev pub BringsContexts : Switch → Change → Type 0
BringsContexts s change = unwrap_or (option_map arc_value change.dialplan) s.contexts ≡ (after s change.delta).contexts

-- a change is that of an entry which was asked for
abbrev pub Changes : Switch → Entry → Change → Type 0
Changes s asked change =
    (change.entry ≡ asked) × IsPrepared s change.entry change.delta change.reply × BringsContexts s change
