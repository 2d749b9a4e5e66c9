-- What a route of a channel rests on, how often that changed, and a route that was planned of it.
use mathlib.Core.List.{IsPrefix}
use Rattle.std.specs.Prelude.{◌≡◌, ◌≢◌, ℕ, ℤ, ◌+◌, ◌-◌, ◌^◌, min, Bool, true, false, ◌&&◌, if◌then◌else◌, List, [], ◌∷◌, Option, None, Some, Ok, Err, Result, length, slice_index}
use Rattle.std.specs.Arc.{arc_value}
use Rattle.std.specs.Option.{option_map}
use Rattle.fs_text.specs.Texts.{Text}
use Rattle.fs_text.specs.declared.states.State.{State}
use Rattle.fs_text.specs.declared.states.State.TheVariants.{CsRouting}
use Rattle.fs_vars.specs.Variables.{Variables}
use Rattle.fs_vars.specs.declared.profile.Profile.{Profile}
use Rattle.fs_vars.specs.declared.refused.Refused.{Refused}
use Rattle.fs_doc.specs.Reading.{Configuration}
use Rattle.fs_doc.specs.Dialplans.{Context}
use Rattle.fs_chan.specs.declared.chan.Chan.{Chan}
use Rattle.fs_chan.specs.Changes.{may_route}
use Rattle.fs_plan.specs.declared.hunt.Hunt.{Hunt}
use Rattle.fs_plan.specs.Outcomes.{Outcome, IsFault}
use Rattle.fs_plan.specs.Hunting.{hunted}
use Rattle.fs_state.specs.Switch.{Switch, chan_at, empty, at_moment}
use Rattle.fs_machine.specs.declared.entry.Entry.{Entry}
use Rattle.fs_machine.specs.declared.entry.Act.TheVariants.{Work}
use Rattle.fs_machine.specs.declared.offer.Offer.{Offer}
use Rattle.fs_machine.specs.declared.offer.Offer.TheVariants as offer
use Rattle.fs_machine.specs.declared.routes.Plan.{Plan}
use Rattle.fs_machine.specs.declared.routes.Snapshot.{Snapshot}
use Rattle.fs_machine.specs.declared.refusal.RouteRefusal.{RouteRefusal}
use Rattle.fs_machine.specs.declared.refusal.RouteRefusal.TheVariants.{Again, Step}
use Rattle.fs_machine.specs.Step.{step, IsRefusedFor}
use Rattle.fs_machine.specs.Work.{found_for, wall_of}
use Rattle.fs_machine.specs.Laws.{state_after}
use Rattle.fs_machine.specs.Loading.{load_at}
use Rattle.fs_machine.specs.Runs.{View, state_of, run_from}

-- ---- what a route rests on

-- who the channel is, what it has, and the globals
pub record Basis : Type 0 where
  pub uuid : Text
  pub vars : Variables
  pub profile : Profile
  pub globals : Variables

-- it is to be routed
abbrev pub is_routing : State → Bool
is_routing CsRouting = true
is_routing _ = false

-- the channel that may be there, if it is to be routed
abbrev pub routing_in : Option Chan → Option Chan
routing_in None = None
routing_in (Some c) = if is_routing c.state then Some c else None

-- what a route of this channel rests on
abbrev pub basis_of : Variables → Chan → Basis
basis_of globals c = record { uuid = c.uuid; vars = c.vars; profile = c.profile; globals = globals }

-- two channels are the same one, with the same variables and the same profile
pub record IsAs (c d : Chan) : Type 0 where
  pub uuid : c.uuid ≡ d.uuid
  pub vars : c.vars ≡ d.vars
  pub profile : c.profile ≡ d.profile

-- what a route of the channel in a slot rests on; there is none of one that is not to be routed
abbrev pub basis_at : ℕ → Switch → Option Basis
basis_at slot s = option_map (basis_of s.globals) (routing_in (chan_at s slot))

-- the channel is to be routed, and may be
abbrev pub is_routable_in : Option Chan → Bool
is_routable_in None = false
is_routable_in (Some c) = is_routing c.state && may_route c

abbrev pub is_routable : ℕ → Switch → Bool
is_routable slot s = is_routable_in (chan_at s slot)

-- ---- how often that changed

-- what an entry makes of the count of those that changed it, which stands still at 2^64 - 1
pub record IsCountedOn (before behind : Option Basis) (old new : ℕ) : Type 0 where
  pub same : before ≡ behind → new ≡ old
  pub changed : before ≢ behind → new ≡ min (old + 1) (2 ^ 64 - 1)

-- what the entries make of the count, one after another
abbrev pub AreCountedFrom : ℕ → Switch → List Entry → ℕ → ℕ → Type 0
AreCountedFrom slot s [] old new = new ≡ old
AreCountedFrom slot s (entry ∷ entries) old new =
    (count : ℕ) × IsCountedOn (basis_at slot s) (basis_at slot (step s entry).state) old count
    × AreCountedFrom slot (step s entry).state entries count new

-- so many of the entries changed what a route of the channel in a slot rests on
abbrev pub IsTouched : Configuration → List Entry → ℕ → ℕ → Type 0
IsTouched config journal slot count = AreCountedFrom slot (empty config) journal 0 count

-- what an entry makes of the counts of all slots
abbrev pub AreCountedOn : Switch → Switch → List ℕ → List ℕ → Type 0
AreCountedOn before behind old new =
    (slot : ℕ) → IsCountedOn (basis_at slot before) (basis_at slot behind) (slice_index old slot) (slice_index new slot)

-- the counts of all slots that are kept
pub record AreKept (config : Configuration) (journal : List Entry) (counts : List ℕ) : Type 0 where
  pub each : (slot : ℕ) → IsTouched config journal slot (slice_index counts slot)
  pub all : length counts ≡ length (run_from (empty config) journal).channels

-- ---- which dialplan is in force

-- these contexts were in force after so many loads: so it was behind a front of the journal, and so behind each longer journal
pub record IsInForceAfter (config : Configuration) (journal : List Entry) (reloads : ℕ) (contexts : List Context) : Type 0 where
  pub before : List Entry
  pub front : IsPrefix before journal
  pub count : (state_after config before).reloads ≡ reloads
  pub contexts_are : (state_after config before).contexts ≡ contexts

-- the minute at a moment, which does not go back
abbrev pub wall_at : ℕ → Switch → ℤ
wall_at moment s = wall_of (at_moment moment s)

-- ---- copies of it, and a plan

-- what a snapshot shows
abbrev pub shown : Snapshot → Basis
shown seen = record { uuid = seen.uuid; vars = seen.vars; profile = seen.profile; globals = seen.globals }

-- a channel is the one that was seen, with the same variables and the same profile
pub record IsOf (seen : Snapshot) (c : Chan) : Type 0 where
  pub uuid : c.uuid ≡ seen.uuid
  pub vars : c.vars ≡ seen.vars
  pub profile : c.profile ≡ seen.profile

-- a snapshot of the channel in a slot at a moment
pub record Shows (m : View) (moment slot : ℕ) (seen : Snapshot) : Type 0 where
  pub routable : is_routable slot (state_of m) ≡ true
  pub basis : basis_at slot (state_of m) ≡ Some (shown seen)
  pub touched : IsTouched m.config m.journal slot seen.touched
  pub reloads : seen.reloads ≡ (state_of m).reloads
  pub wall : seen.wall ≡ wall_at moment (state_of m)
  pub dialplan : arc_value seen.dialplan ≡ (state_of m).contexts

-- what a hunt of what a snapshot shows gives, through these contexts at a minute
abbrev pub hunt_in : List Context → Basis → ℤ → Outcome Hunt
hunt_in contexts basis wall = hunted contexts basis.profile.context basis.profile basis.vars basis.globals wall

-- what a hunt for a snapshot gives, through its dialplan
abbrev pub hunt_for : Snapshot → Outcome Hunt
hunt_for seen = hunt_in (arc_value seen.dialplan) (shown seen) seen.wall

-- this is what it gives; want of memory says nothing of it
abbrev pub IsHuntFor : Snapshot → Result Hunt Refused → Type 0
IsHuntFor seen (Ok hunt) = hunt_for seen ≡ Ok hunt
IsHuntFor seen (Err refused) = IsFault (hunt_for seen) refused

-- a plan: its hunt is what its dialplan gives for what was seen
abbrev pub IsPlan : Plan → Type 0
IsPlan plan = hunt_for plan.seen ≡ Ok plan.hunt

-- a plan of what was seen, unless a text is too long
abbrev pub IsPlanOf : Snapshot → Option Plan → Type 0
IsPlanOf seen None = (len : ℕ) × (hunt_for seen ≡ Err len)
IsPlanOf seen (Some plan) = (plan.seen ≡ seen) × IsPlan plan

-- what was seen stands in the slot at a moment, with the contexts that are in force and at the same minute
pub record IsCurrentBy (moment slot : ℕ) (seen : Snapshot) (s : Switch) : Type 0 where
  pub basis : basis_at slot s ≡ Some (shown seen)
  pub reloads : seen.reloads ≡ s.reloads
  pub wall : seen.wall ≡ wall_at moment s

-- so does what a plan was made of
abbrev pub IsCurrent : ℕ → ℕ → Plan → Switch → Type 0
IsCurrent moment slot plan s = IsCurrentBy moment slot plan.seen s

-- the channel in a slot is to be routed, and this is what a hunt for it gives
pub record IsHunted (slot : ℕ) (hunt : Hunt) (s : Switch) : Type 0 where
  pub chan : Chan
  pub at : chan_at s slot ≡ Some chan
  pub routing : chan.state ≡ CsRouting
  pub found : found_for chan s ≡ Some hunt

-- it is the work of a slot at a moment
abbrev pub work_at : ℕ → ℕ → Entry
work_at moment slot = record { moment = moment; act = Work slot }

-- ---- what is submitted

-- the entry that it is to be
abbrev pub entry_of : Offer → Entry
entry_of (offer.Entry entry) = entry
entry_of (offer.Route moment slot plan) = work_at moment slot
entry_of (offer.Load moment job load) = load_at moment job load.note

-- a plan fits behind a journal where its hunt is right, and its dialplan was in force there after as many loads as it says
pub record Suits (config : Configuration) (journal : List Entry) (plan : Plan) : Type 0 where
  pub in_force : IsInForceAfter config journal plan.seen.reloads (arc_value plan.seen.dialplan)
  pub plan_is : IsPlan plan

-- What is present where a plan is not current: so many entries have changed what the route rests on, so many loads brought other contexts,
-- and it is this minute.
pub record IsPresent (config : Configuration) (journal : List Entry) (moment slot touched reloads : ℕ) (wall : ℤ) : Type 0 where
  pub count : IsTouched config journal slot touched
  pub reloads_are : reloads ≡ (state_after config journal).reloads
  pub wall_is : wall ≡ wall_at moment (state_after config journal)

-- why a plan is refused: what it rests on does not stand there any more, and this is what is present; or else the entry is
abbrev pub IsRouteRefusal : View → ℕ → ℕ → Plan → RouteRefusal → Type 0
IsRouteRefusal m moment slot plan (Again touched reloads wall) =
    (¬ (IsCurrent moment slot plan (state_of m))) × IsPresent m.config m.journal moment slot touched reloads wall
IsRouteRefusal m moment slot plan (Step refusal) =
    IsCurrent moment slot plan (state_of m) × IsRefusedFor (state_of m) (work_at moment slot) refusal
