-- What comes of loading the file that the switch was configured by, for a job that waits for that.
use Rattle.std.specs.Prelude.{◌≡◌, ◌≢◌, ◌⊎◌, ℕ, ◌+◌, Bool, true, false, if◌then◌else◌, List, Option, None, Some, Result, Ok, Err}
use Rattle.fs_doc.specs.Reading.{Configuration}
use Rattle.fs_text.specs.declared.memory.Memory.{Memory}
use Rattle.fs_ports.specs.declared.files.Load.{Load}
use Rattle.fs_ports.specs.Loads.{LoadCounts}
use Rattle.fs_state.specs.Switch.{Switch, is_full_for_load}
use Rattle.fs_machine.specs.declared.entry.Entry.{Entry}
use Rattle.fs_machine.specs.declared.entry.Act.TheVariants as act
use Rattle.fs_machine.specs.declared.note.LoadNote.{LoadNote}
use Rattle.fs_machine.specs.declared.refusal.Refusal.{Refusal}
use Rattle.fs_machine.specs.declared.refusal.Refusal.TheVariants as refusal
use Rattle.fs_machine.specs.Laws.{state_after}
use Rattle.fs_machine.specs.Loading.{IsNoteOf, IsBuiltAsNoted, CountsLoad, waits_for_load}
use Rattle.fs_machine.specs.Step.{refused_as_full_for_load}
use Rattle.fs_machine.specs.Turned.{IsJournal}
use Rattle.fs_session.specs.declared.awaiting.Awaiting.{Awaiting}
use Rattle.fs_session.specs.declared.awaiting.Awaiting.TheVariants.{Full, Over, Waits}
use Rattle.fs_session.specs.declared.awaiting.AwaitingOf.{AwaitingOf}
use Rattle.fs_session.specs.declared.worked.Worked.{Worked}
use Rattle.fs_session.specs.declared.worked.Worked.TheVariants as worked
use Rattle.fs_session.specs.Working.{Gained, Stays}

-- ---- whether a job waits for a load

-- what is answered of a job, unless the journal has no room for a load
abbrev pub IsAwaitingUnless : Option Refusal → Bool → Awaiting → Type 0
IsAwaitingUnless full waits (Full why) = full ≡ Some why
IsAwaitingUnless full waits Over = (full ≡ None) × (waits ≡ false)
IsAwaitingUnless full waits (Waits in_force) = (full ≡ None) × (waits ≡ true)

-- so it stands in a switch; want of memory says nothing of it
abbrev pub IsAwaiting : ℕ → Switch → Result Awaiting Memory → Type 0
IsAwaiting job s (Ok answer) = IsAwaitingUnless (refused_as_full_for_load s) (waits_for_load job s) answer
IsAwaiting job s (Err memory) = Unit {0}

-- what a look tells: these entries are a run, and so the job stands behind them, unless there was no memory
pub record TellsAwaiting (asked : AwaitingOf) (config : Configuration) (log : List Entry) (answer : Result Awaiting Memory) : Type 0 where
  pub run : IsJournal config log
  pub stands : IsAwaiting asked.job (state_after config log) answer

-- ---- what a call makes of the files

-- what is told of files: what the loads of a name to come will answer, one after another, where that is told; and what was counted
pub record Store : Type 0 where
  pub loads : ℕ → Option Load
  pub counts : LoadCounts
  pub sizes : ℕ

-- the answers that are told are the same
abbrev pub IsAsBefore : Store → Store → Type 0
IsAsBefore old new = (k : ℕ) → new.loads k ≡ old.loads k

-- the answers that are told since are those behind the next one
abbrev pub MovesOn : Store → Store → Type 0
MovesOn old new = (k : ℕ) → new.loads k ≡ old.loads (k + 1)

-- one load was answered, and this is its note: of the answer that was told for it, and of what its document is, with what was counted
pub record IsLoaded (old new : Store) (note : LoadNote) : Type 0 where
  pub told : IsNoteOf (old.loads 0) note
  pub built : IsBuiltAsNoted note
  pub behind : MovesOn old new
  pub counts : CountsLoad note old.counts new.counts old.sizes new.sizes

-- nothing was counted, and at most one load was answered
pub record IsUncounted (old new : Store) : Type 0 where
  pub counts : new.counts ≡ old.counts
  pub sizes : new.sizes ≡ old.sizes
  pub loads : IsAsBefore old new ⊎ MovesOn old new

-- what comes of a load of which no entry tells: there was no memory for a note of it, if it was answered at all; or it has one
abbrev pub IsLost : Store → Store → Type 0
IsLost old new = IsUncounted old new ⊎ ((note : LoadNote) × IsLoaded old new note)

-- ---- what comes of it all

module _ (config : Configuration) (seen : List Entry) (mine : List ℕ) (seen' : List Entry) (mine' : List ℕ) (job : ℕ) where
  -- an entry notes this for the job, at this place and moment
  abbrev pub Notes : LoadNote → ℕ → ℕ → Type 0
  Notes note now place = Gained config seen mine seen' mine' (λ done. done ≡ act.Loaded job note) now place

  -- none was made, and the job waits for no load behind all that is seen, where there is room for one
  pub record Ceased : Type 0 where
    pub stays : Stays config seen mine seen' mine'
    pub room : is_full_for_load (state_after config seen') ≡ false
    pub none : waits_for_load job (state_after config seen') ≡ false

  -- none was made, for this reason, which is that the journal has no room for a load or that there was no memory
  pub record Fails (why : Refusal) : Type 0 where
    pub stays : Stays config seen mine seen' mine'
    pub cause : why ≢ refusal.Memory → refused_as_full_for_load (state_after config seen') ≡ Some why

  -- what came of entering this note
  abbrev pub Enters : LoadNote → ℕ → Worked → Type 0
  Enters note now (worked.Did place wakes) = Notes note now place
  Enters note now (worked.Idle None) = Ceased
  Enters note now (worked.Refused why) = Fails why
  Enters note now _ = ⊥

  -- an entry notes what was loaded
  pub record IsNoted (old new : Store) (now place : ℕ) : Type 0 where
    pub note : LoadNote
    pub entered : Notes note now place
    pub loaded : IsLoaded old new note

  -- What came of it, and what it made of the files. At most one load was answered: an entry notes it, or it is lost.
  abbrev pub LoadsOnce : Store → Store → ℕ → Worked → Type 0
  LoadsOnce old new now (worked.Did place wakes) = IsNoted old new now place
  LoadsOnce old new now (worked.Idle None) = Ceased × IsLost old new
  LoadsOnce old new now (worked.Refused why) = Fails why × IsLost old new
  LoadsOnce old new now _ = ⊥
