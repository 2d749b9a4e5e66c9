-- What happened in a run.
use Rattle.std.specs.Prelude.{◌≡◌, ℕ, ◌+◌, ◌-◌, ◌^◌, min, List, [], ◌∷◌, ◌++◌, length, map}
use Rattle.fs_text.specs.declared.causes.Cause.{Cause}
use Rattle.fs_text.specs.declared.event_names.EventName.{EventName}
use Rattle.fs_text.specs.Cause.{cause_number}
use Rattle.fs_text.specs.EventName.{event_number}
use Rattle.fs_state.specs.declared.event.Event.{Event}
use Rattle.fs_state.specs.Counts.{Tallies, counted_at, events_named, hangups_for}
use Rattle.fs_state.specs.Switch.{Switch, empty, at_moment}
use Rattle.fs_machine.specs.declared.entry.Entry.{Entry}
use Rattle.fs_machine.specs.Step.{act_done, step}
use Rattle.fs_machine.specs.Runs.{View}

-- an event, and the place in the journal of the entry in which it happened
pub record Happened : Type 0 where
  pub place : ℕ
  pub event : Event

-- events of the entry at a place
abbrev pub at_place : ℕ → List Event → List Happened
at_place place events = map (λ event. record { place = place; event = event }) events

-- what happens in an entry, in order
unfoldable pub events_by : Switch → Entry → List Event
events_by s entry = (act_done entry.act (at_moment entry.moment s)).state.news

-- what happens in entries, of which the first has this place
abbrev pub happened_from : ℕ → Switch → List Entry → List Happened
happened_from place s [] = []
happened_from place s (entry ∷ entries) = at_place place (events_by s entry) ++ happened_from (place + 1) (step s entry).state entries

-- all that happened in the entries of a machine
abbrev pub happened : View → List Happened
happened m = happened_from 0 (empty m.config) m.journal

-- the events alone
abbrev pub events_of : List Happened → List Event
events_of happened = map (λ h. h.event) happened

-- how many there are
abbrev pub CountsAll : Tallies → List Event → Type 0
CountsAll counts events = counts.all ≡ min (length events) (2 ^ 64 - 1)

-- how many of these events have each name
abbrev pub CountsEvents : Tallies → List Event → Type 0
CountsEvents counts events = (name : EventName) → counted_at counts.events (event_number name) ≡ events_named name events

-- how many of them tell of a hangup with each cause
abbrev pub CountsHangups : Tallies → List Event → Type 0
CountsHangups counts events = (cause : Cause) → counted_at counts.hangups (cause_number cause) ≡ hangups_for cause events
