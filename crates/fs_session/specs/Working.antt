-- What a turn does, and what comes of it where there is nothing to do.
use Rattle.std.specs.Prelude.{◌≡◌, ◌≢◌, ℕ, ◌==◌, ◌&&◌, if◌then◌else◌, Bool, true, false, List, [], ◌∷◌, ◌++◌, length, Option, None, Some, Result, Ok, Err, is_some, is_none}
use Rattle.std.specs.Arc.{arc_value}
use mathlib.Core.List.{IsPrefix}
use Rattle.fs_doc.specs.Reading.{Configuration}
use Rattle.fs_text.specs.Texts.{Text}
use Rattle.fs_text.specs.declared.memory.Memory.{Memory}
use Rattle.fs_out.specs.declared.target.Target.{Target}
use Rattle.fs_out.specs.Targets.{target_of}
use Rattle.fs_state.specs.Switch.{Switch, chan_at}
use Rattle.fs_machine.specs.declared.entry.Entry.{Entry}
use Rattle.fs_machine.specs.declared.entry.Act.{Act}
use Rattle.fs_machine.specs.declared.entry.Act.TheVariants as act
use Rattle.fs_machine.specs.declared.due.DueActor.{DueActor}
use Rattle.fs_machine.specs.declared.due.DueActor.TheVariants as due
use Rattle.fs_machine.specs.declared.refusal.Refusal.{Refusal}
use Rattle.fs_machine.specs.declared.refusal.Refusal.TheVariants as refusal
use Rattle.fs_machine.specs.declared.reply.Reply.{Reply}
use Rattle.fs_machine.specs.Controlling.{dial_at}
use Rattle.fs_machine.specs.Due.{next_slot, next_job}
use Rattle.fs_machine.specs.Questions.{jobs_left}
use Rattle.fs_machine.specs.Routes.{IsInForceAfter}
use Rattle.fs_machine.specs.Step.{refused_as_full}
use Rattle.fs_machine.specs.Laws.{state_after}
use Rattle.fs_machine.specs.Turned.{IsJournal, Answers}
use Rattle.fs_session.specs.declared.actor.Actor.{Actor}
use Rattle.fs_session.specs.declared.actor.Actor.TheVariants.{Slot, Jobs}
use Rattle.fs_session.specs.declared.actor.Errand.{Errand}
use Rattle.fs_session.specs.declared.actor.Errand.TheVariants as errand
use Rattle.fs_session.specs.declared.standing.Standing.{Standing}
use Rattle.fs_session.specs.declared.standing.Standing.TheVariants.{Full, Over, Seeks, Routes, Due}
use Rattle.fs_session.specs.declared.standing.StandingOf.{StandingOf}
use Rattle.fs_session.specs.declared.worked.Worked.{Worked}
use Rattle.fs_session.specs.declared.worked.Worked.TheVariants.{Did, Idle, Talk, Load, Stopped, Refused}

-- ---- how an actor stands

-- the switch has come to its end, and nothing of the actor is left
abbrev pub is_over : Actor → Switch → Bool
is_over (Slot slot) s = is_some s.stopping && is_none (chan_at s slot)
is_over Jobs s = is_some s.stopping && (jobs_left s == 0)

-- the text that names the controller for whom the actor's channel waits, if it waits for one
abbrev pub sought_by : Actor → Switch → Option Text
sought_by (Slot slot) s = dial_at s slot
sought_by Jobs s = None

-- what the actor has to do, seen at a moment
abbrev pub due_of : Actor → ℕ → Switch → DueActor
due_of (Slot slot) now s = next_slot slot now s
due_of Jobs now s = next_job now s

-- it waits for a controller, or else this is to be done
abbrev pub seeking : Option Text → DueActor → Standing
seeking None due = Due due
seeking (Some text) due = Seeks text

-- unless the journal is full
abbrev pub standing_unless : Option Refusal → Standing → Standing
standing_unless None otherwise = otherwise
standing_unless (Some why) otherwise = Full why

-- a full journal comes before all else
abbrev pub standing : Actor → ℕ → Switch → Standing
standing actor now s =
    standing_unless (refused_as_full s) (if is_over actor s then Over else seeking (sought_by actor s) (due_of actor now s))

-- whoever is to be routed has something to do at once
abbrev pub plain : Standing → Standing
plain (Routes slot seen) = Due (due.Slot slot)
plain how = how

-- what is seen for a route has the dialplan that was in force behind these entries, after as many loads as it says
abbrev pub IsOfDialplan : Configuration → List Entry → Standing → Type 0
IsOfDialplan config log (Routes slot seen) = IsInForceAfter config log seen.reloads (arc_value seen.dialplan)
IsOfDialplan config log _ = Unit {0}

-- what a look tells: these entries are a run, and so the actor stands behind them, unless there was no memory
abbrev pub IsStanding : Configuration → List Entry → Standing → Result Standing Memory → Type 0
IsStanding config log how (Ok answer) = (plain answer ≡ how) × IsOfDialplan config log answer
IsStanding config log how (Err memory) = Unit {0}

pub record TellsActor (asked : StandingOf) (config : Configuration) (log : List Entry) (answer : Result Standing Memory) : Type 0 where
  pub run : IsJournal config log
  pub stands : IsStanding config log (standing asked.actor asked.now (state_after config log)) answer

-- ---- what comes of a turn

-- the act by which this is done
abbrev pub act_of : Errand → Act
act_of (errand.Slot slot) = act.Work slot
act_of (errand.Job job) = act.Job job

-- nobody is to be dialed
abbrev pub IsErrand : DueActor → Type 0
IsErrand (due.Dial slot) = ⊥
IsErrand _ = Unit {0}

-- what is to be done, or the answer where that is no entry: a job waits for a load, or there is nothing to do yet
abbrev pub errand_of : DueActor → Result Errand Worked
errand_of (due.Slot slot) = Ok (errand.Slot slot)
errand_of (due.Dial slot) = Err (Idle None)
errand_of (due.Job job) = Ok (errand.Job job)
errand_of (due.Load job) = Err (Load job)
errand_of (due.Later next) = Err (Idle (Some next))
errand_of due.Never = Err (Idle None)

-- who is to be dialed for whom a text names, unless there was no memory
abbrev pub Talks : Text → Worked → Type 0
Talks text (Talk target) = target_of text ≡ Ok target
Talks text (Refused why) = why ≡ refusal.Memory
Talks text _ = ⊥

-- the act is a turn of this actor: the work of its slot, or that of one of the jobs
abbrev pub IsTurnOf : Actor → Act → Type 0
IsTurnOf (Slot slot) done = done ≡ act.Work slot
IsTurnOf Jobs done = (job : ℕ) × (done ≡ act.Job job)

-- no later try can do better
abbrev pub is_final : Refusal → Bool
is_final (refusal.JournalFull cost limit) = true
is_final refusal.Memory = true
is_final _ = false

module _ (config : Configuration) (seen : List Entry) (mine : List ℕ) (seen' : List Entry) (mine' : List ℕ) where
  -- An entry was made, at this place and moment, of which this holds. Others may have entered something before it.
  pub record Gained (IsIt : Act → Type 0) (now place : ℕ) : Type 0 where
    pub before : List Entry
    pub front : IsPrefix seen before
    pub act : Act
    pub is : IsIt act
    pub sees : seen' ≡ before ++ record { moment = now; act = act } ∷ []
    pub at : place ≡ length before
    pub more : mine' ≡ mine ++ place ∷ []
    pub reply : Reply
    pub answers : Answers config before (record { moment = now; act = act }) reply

  -- none was made, and what is seen is a run
  pub record Stays : Type 0 where
    pub front : IsPrefix seen seen'
    pub same : mine' ≡ mine
    pub run : IsJournal config seen'

  -- none was made, and so the actor stands behind all that is seen
  pub record Stands (actor : Actor) (now : ℕ) (how : Standing) : Type 0 where
    pub stays : Stays
    pub stands : standing actor now (state_after config seen') ≡ how

  -- none was made, and so the actor's channel waits for this controller behind all that is seen
  pub record Sought (actor : Actor) (now : ℕ) (target : Target) : Type 0 where
    pub text : Text
    pub stands : Stands actor now (Seeks text)
    pub is : target_of text ≡ Ok target

  -- none was made, for this reason, which is that the journal is full or that there was no memory
  pub record Fails (why : Refusal) : Type 0 where
    pub stays : Stays
    pub cause : why ≢ refusal.Memory → refused_as_full (state_after config seen') ≡ Some why

  -- what came of a turn of an actor at a moment
  abbrev pub Works : Actor → ℕ → Worked → Type 0
  Works actor now (Did place wakes) = Gained (IsTurnOf actor) now place
  Works actor now (Idle None) = Stands actor now (Due due.Never)
  Works actor now (Idle (Some next)) = Stands actor now (Due (due.Later next))
  Works actor now (Talk target) = Sought actor now target
  Works actor now (Load job) = Stands actor now (Due (due.Load job))
  Works actor now Stopped = Stands actor now Over
  Works actor now (Refused why) = Fails why

  -- the same, or nothing came of it
  abbrev pub Tries : Actor → ℕ → Option Worked → Type 0
  Tries actor now (Some worked) = Works actor now worked
  Tries actor now None = Stays

  -- what came of trying to do this
  abbrev pub Attempts : Errand → ℕ → Option Worked → Type 0
  Attempts errand now (Some (Did place wakes)) = Gained (λ done. done ≡ act_of errand) now place
  Attempts errand now (Some (Refused why)) = Fails why
  Attempts errand now (Some _) = ⊥
  Attempts errand now None = Stays
