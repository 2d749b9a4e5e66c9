-- The switch as a state that takes entries in turn.
use mathlib.Core.List.{IsPrefix}
use Rattle.std.specs.Prelude.{◌≡◌, ℕ, ℤ, Bool, true, false, List, [], ◌∷◌, ◌++◌, Option, None, is_some}
use Rattle.fs_state.specs.Switch.{Switch}
use Rattle.fs_doc.specs.Reading.{Configuration}
use Rattle.fs_doc.specs.Limits.{IsWithin}
use Rattle.fs_machine.specs.declared.answer.Answer.{Answer}
use Rattle.fs_machine.specs.declared.entry.Entry.{Entry}
use Rattle.fs_machine.specs.declared.entry.Act.{Act}
use Rattle.fs_machine.specs.declared.entry.Act.TheVariants.{Arrive, Command, Take, Close, Dialed, Work, Job, Loaded, Halt}
use Rattle.fs_machine.specs.declared.reply.Reply.{Reply}
use Rattle.fs_machine.specs.declared.refusal.Refusal.{Refusal}
use Rattle.fs_machine.specs.declared.refusal.RouteRefusal.{RouteRefusal}
use Rattle.fs_machine.specs.declared.refusal.RouteRefusal.TheVariants.{Again, Step}
use Rattle.fs_machine.specs.declared.offer.Offer.{Offer}
use Rattle.fs_machine.specs.declared.offer.Offer.TheVariants as offer
use Rattle.fs_machine.specs.declared.routes.Plan.{Plan}
use Rattle.fs_machine.specs.Step.{step, refusal_of, IsRefusedFor}
use Rattle.fs_machine.specs.Runs.{View}
use Rattle.fs_machine.specs.Laws.{IsRun, state_after}
use Rattle.fs_machine.specs.Concerns.{actor_of}
use Rattle.fs_machine.specs.Controlling.{held_through}
use Rattle.fs_machine.specs.Entries.{is_load}
use Rattle.fs_machine.specs.Loading.{load_at, IsLoad}
use Rattle.fs_machine.specs.Routes.{entry_of, work_at, Suits, IsCurrent, IsPresent}
use Rattle.fs_machine.specs.Standing.{standing_by}
use Rattle.fs_book.specs.Numbered.{by_history}
use Rattle.fs_book.proofs.Lists.{prefix_trans}

-- what a machine was configured by
abbrev pub configured : View → Configuration
configured m = m.config

-- the configuration keeps its limits, and no entry is refused
pub record IsJournal (config : Configuration) (log : List Entry) : Type 0 where
  pub within : IsWithin config
  pub run : IsRun config log

-- after these the entry is taken, with this reply
pub record Answers (config : Configuration) (log : List Entry) (entry : Entry) (reply : Reply) : Type 0 where
  pub before : IsJournal config log
  pub defined : refusal_of (state_after config log) entry ≡ None
  pub reply_is : reply ≡ (step (state_after config log) entry).reply

-- after these the entry is taken, and whoever submitted it is told so
pub record Tells (config : Configuration) (log : List Entry) (entry : Entry) (answer : Answer) : Type 0 where
  pub answers : Answers config log entry answer.reply
  -- how the connection whose act it was stands since
  pub stands : answer.standing ≡ standing_by entry.act (state_after config (log ++ entry ∷ []))

-- after these the entry is refused, or there is no memory for it
pub record Refuses (config : Configuration) (log : List Entry) (entry : Entry) (why : Refusal) : Type 0 where
  pub before : IsJournal config log
  pub cause : IsRefusedFor (state_after config log) entry why

-- ---- what is submitted

-- an entry fits that notes no load; a plan where its hunt is right, and its dialplan was in force after these or a front of them; a load
-- where what was built is what its document says
abbrev pub Fits : Configuration → List Entry → Offer → Type 0
Fits config log (offer.Entry entry) = is_load entry.act ≡ false
Fits config log (offer.Route moment slot plan) = Suits config log plan
Fits config log (offer.Load moment job load) = IsLoad load

-- what fits fits behind more entries too
pub fits_behind : (config : Configuration) (log more : List Entry) (submitted : Offer) → IsPrefix log more → Fits config log submitted →
    Fits config more submitted
fits_behind config log more (offer.Entry entry) front fits = fits
fits_behind config log more (offer.Route moment slot plan) front fits =
    let known = fits.in_force in record {
      in_force = record {
        before = known.before;
        front = prefix_trans known.before log more known.front front;
        count = known.count;
        contexts_are = known.contexts_are;
      };
      plan_is = fits.plan_is;
    }
fits_behind config log more (offer.Load moment job load) front fits = fits

-- what a plan was made of is what stands in its slot after these
abbrev pub IsCurrentAfter : Configuration → List Entry → Offer → Type 0
IsCurrentAfter config log (offer.Entry entry) = Unit {0}
IsCurrentAfter config log (offer.Route moment slot plan) = IsCurrent moment slot plan (state_after config log)
IsCurrentAfter config log (offer.Load moment job load) = Unit {0}

-- after these what is submitted is taken: the entry is, and its plan is current
pub record Takes (config : Configuration) (log : List Entry) (submitted : Offer) (answer : Answer) : Type 0 where
  pub tells : Tells config log (entry_of submitted) answer
  pub current : IsCurrentAfter config log submitted

-- after these a plan is not current any more, and this is what is present
pub record IsStale (config : Configuration) (log : List Entry) (moment slot : ℕ) (plan : Plan) (touched reloads : ℕ) (wall : ℤ) : Type 0 where
  pub before : IsJournal config log
  pub other : ¬ (IsCurrent moment slot plan (state_after config log))
  pub present : IsPresent config log moment slot touched reloads wall

-- after these what is submitted is refused: the entry is, or its plan is not current any more
abbrev pub Declines : Configuration → List Entry → Offer → RouteRefusal → Type 0
Declines config log (offer.Entry entry) (Step why) = Refuses config log entry why
Declines config log (offer.Entry entry) (Again touched reloads wall) = ⊥
Declines config log (offer.Route moment slot plan) (Step why) =
    Refuses config log (work_at moment slot) why × IsCurrent moment slot plan (state_after config log)
Declines config log (offer.Route moment slot plan) (Again touched reloads wall) = IsStale config log moment slot plan touched reloads wall
Declines config log (offer.Load moment job load) (Step why) = Refuses config log (load_at moment job load.note) why
Declines config log (offer.Load moment job load) (Again touched reloads wall) = ⊥

-- ---- the numbers of connections

-- a connection comes by an act: it arrives, or is that of a controller which takes hold of a channel
abbrev pub comes_by : Act → Switch → Bool
comes_by Arrive s = true
comes_by (Command conn block) s = false
comes_by (Take conn) s = false
comes_by (Close conn how) s = false
comes_by (Dialed slot linked) s = is_some (held_through linked slot s)
comes_by (Work slot) s = false
comes_by (Job number) s = false
comes_by (Loaded number note) s = false
comes_by Halt s = false

-- one comes by an entry after these
abbrev pub comes_after : Configuration → List Entry → Entry → Bool
comes_after config log entry = comes_by entry.act (state_after config log)

-- the number that it opens: connections are numbered from 1 on, in their order
abbrev pub opens : Configuration → List Entry → Entry → Option ℕ
opens config log entry = by_history (comes_after config) log entry

-- the connection whose entry it is
abbrev pub names : Entry → Option ℕ
names entry = actor_of entry.act
