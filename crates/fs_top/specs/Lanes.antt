-- What is kept of the connections that were served, over the journal as far as it was seen.
use Rattle.std.specs.Prelude.{◌≡◌, ℕ, ◌<◌, ◌≤◌, ◌||◌, ◌&&◌, ◌==◌, Bool, List, Option, Some, is_some, slice_get, map}
use Rattle.std.specs.List.{All, Contains}
use mathlib.Core.Option.{some}
use lib.ListN.{get_elem?}
use Rattle.fs_doc.specs.Reading.{Configuration}
use Rattle.fs_ports.specs.Ports.{Input, Output, IsNewLink}
use Rattle.fs_book.specs.Counts.{times, total}
use Rattle.fs_book.specs.Opened.{OpensAt}
use Rattle.fs_state.specs.Switch.{Switch, is_full}
use Rattle.fs_machine.specs.declared.entry.Entry.{Entry}
use Rattle.fs_machine.specs.declared.entry.Act.{Act}
use Rattle.fs_machine.specs.declared.entry.Act.TheVariants.{Arrive, Command, Take, Close, Dialed, Work, Job, Loaded, Halt}
use Rattle.fs_machine.specs.declared.note.LoadNote.{LoadNote}
use Rattle.fs_machine.specs.Loading.{IsBuiltAsNoted}
use Rattle.fs_machine.specs.Laws.{state_after}
use Rattle.fs_machine.specs.Questions.{live}
use Rattle.fs_machine.specs.Turned.{IsJournal, opens}
use Rattle.fs_conn.specs.declared.end.End.{End}
use Rattle.fs_top.specs.declared.conns.Conn.{Conn}
use Rattle.fs_top.specs.declared.ending.Ending.{Ending}
use Rattle.fs_top.specs.declared.ending.Settled.{Settled}
use Rattle.fs_conn.specs.Owning.{OwnsConn}
use Rattle.fs_session.specs.declared.actor.Actor.{Actor}
use Rattle.fs_session.specs.declared.actor.Actor.TheVariants.{Slot, Jobs}
use Rattle.fs_conn.specs.Talks.{Told}

module _ (config : Configuration) (seen : List Entry) (lists : List (List ℕ)) where
  -- one of the lists has the place by which the connection came
  pub record IsHeld (number : ℕ) : Type 0 where
    pub at : ℕ
    pub places : List ℕ
    pub there : get_elem? lists at ≡ some places
    pub owns : OwnsConn config number seen places

  -- a connection, whose link was new when it came, was served to this end
  pub record IsServed (number : ℕ) (input : Input) (output : Output) (end : End) : Type 0 where
    pub held : IsHeld number
    pub input0 : Input
    pub output0 : Output
    pub is_new : IsNewLink input0 output0
    pub told : Told config number input0 output0 seen input output end

  -- whoever came by one of the places is among these
  abbrev pub AreAll : List ℕ → Type 0
  AreAll numbers =
      (k : ℕ) (places : List ℕ) → get_elem? lists k ≡ some places → (p number : ℕ) → 0 < times p places
      → OpensAt opens config seen p number → Contains numbers number

  -- a number stands among these at most as often as the place by which it came stands in the lists
  abbrev pub AreOnce : List ℕ → Type 0
  AreOnce numbers = (p number : ℕ) → OpensAt opens config seen p number → times number numbers ≤ total (times p) lists

  -- each entry at the places may have been entered
  abbrev pub AreAllowed : (Entry → Type 0) → Type 0
  AreAllowed may =
      (k : ℕ) (places : List ℕ) → get_elem? lists k ≡ some places → (p : ℕ) (entry : Entry) → 0 < times p places
      → slice_get seen p ≡ Some entry → may entry

-- what an act notes of a load is so: the document has that fault, or its patterns are as it says
abbrev pub IsNotedWell : Act → Type 0
IsNotedWell Arrive = Unit {0}
IsNotedWell (Command conn block) = Unit {0}
IsNotedWell (Take conn) = Unit {0}
IsNotedWell (Close conn how) = Unit {0}
IsNotedWell (Dialed slot linked) = Unit {0}
IsNotedWell (Work slot) = Unit {0}
IsNotedWell (Job number) = Unit {0}
IsNotedWell (Loaded number note) = IsBuiltAsNoted note
IsNotedWell Halt = Unit {0}

-- the entry has a moment that may be told, and where it halts the switch this holds; what it notes of a load is so
abbrev pub MayEnter : (ℕ → Type 0) → Type 0 → Entry → Type 0
MayEnter may halts entry = may entry.moment × (entry.act ≡ Halt → halts) × IsNotedWell entry.act

-- The entry may be entered where the pass belongs to this actor, or to somebody else: what came of a dial for a slot is told by whoever works
-- that slot alone, and a load is noted by whoever works the jobs alone.
abbrev pub Enters : (ℕ → Type 0) → Type 0 → Option Actor → Entry → Type 0
Enters may halts own entry =
    MayEnter may halts entry × ((slot : ℕ) (linked : Bool) → entry.act ≡ Dialed slot linked → own ≡ Some (Slot slot))
    × ((job : ℕ) (note : LoadNote) → entry.act ≡ Loaded job note → own ≡ Some Jobs)

abbrev pub number_of : {L : Type 0} → Conn L → ℕ
number_of conn = conn.number

-- The connections of a pass that has seen this and has these lists of places: each was served, whoever came by one of the places is among
-- them, once, and each entry there may have been entered.
pub record Keeps {L : Type 0} (input : L → Input) (output : L → Output) (may : Entry → Type 0) (config : Configuration) (seen : List Entry)
    (lists : List (List ℕ)) (conns : List (Conn L)) : Type 0 where
  pub run : IsJournal config seen
  pub served : All (λ conn. IsServed config seen lists conn.number (input conn.link) (output conn.link) conn.end) conns
  pub all : AreAll config seen lists (map number_of conns)
  pub once : AreOnce config seen lists (map number_of conns)
  pub allowed : AreAllowed config seen lists may

-- the switch has come to its end, or its journal is full
abbrev pub is_over : Switch → Bool
is_over s = is_some s.stopping || is_full s

-- what a look tells: these entries are a run, and whether the switch is over behind them
pub record TellsEnding (asked : Ending) (config : Configuration) (log : List Entry) (answer : Bool) : Type 0 where
  pub run : IsJournal config log
  pub is : answer ≡ is_over (state_after config log)

-- its journal is full; or it has come to its end, and no slot holds a channel
abbrev pub is_settled : Switch → Bool
is_settled s = is_full s || (is_some s.stopping && (live s == 0))

-- what a look tells: these entries are a run, and whether the switch is settled behind them
pub record TellsSettled (asked : Settled) (config : Configuration) (log : List Entry) (answer : Bool) : Type 0 where
  pub run : IsJournal config log
  pub is : answer ≡ is_settled (state_after config log)
