-- What the events of a run tell of bridges.
use Rattle.std.specs.Prelude.{◌≡◌, ◌≤◌, ℕ, ◌+◌, ◌-◌, ◌^◌, min, Bool, true, false, ◌||◌, ◌&&◌, List, ◌∷◌, ◌++◌, length, is_some, count_by}
use Rattle.fs_text.specs.declared.event_names.EventName.TheVariants.{ChannelBridge, ChannelUnbridge}
use Rattle.fs_text.specs.EventName.{event_number}
use Rattle.fs_doc.specs.Reading.{Configuration}
use Rattle.fs_bridge.specs.declared.row.Row.{Row}
use Rattle.fs_bridge.specs.Bridges.{has_leg, has_number, numbered}
use Rattle.fs_state.specs.declared.event.Detail.{Detail}
use Rattle.fs_state.specs.declared.event.Detail.TheVariants.{Bridge, Unbridge}
use Rattle.fs_state.specs.declared.event.Event.{Event}
use Rattle.fs_state.specs.Counts.{counted_at, is_named}
use Rattle.fs_state.specs.Switch.{Switch, empty}
use Rattle.fs_machine.specs.declared.entry.Entry.{Entry}
use Rattle.fs_machine.specs.Events.{happened_from, events_of}

-- the bridge of this number begins
abbrev pub tells_begin : ℕ → Detail → Bool
tells_begin number (Bridge row) = has_number number row
tells_begin number _ = false

-- it has ended
abbrev pub tells_end : ℕ → Detail → Bool
tells_end number (Unbridge row cause) = has_number number row
tells_end number _ = false

-- an event tells that it begins
abbrev pub begins : ℕ → Event → Bool
begins number event = is_named ChannelBridge event && tells_begin number event.detail

-- an event tells that it has ended
abbrev pub ends : ℕ → Event → Bool
ends number event = is_named ChannelUnbridge event && tells_end number event.detail

-- how many events tell that it begins
abbrev pub begun : ℕ → List Event → ℕ
begun number events = count_by (begins number) events

-- how many tell that it has ended
abbrev pub ended : ℕ → List Event → ℕ
ended number events = count_by (ends number) events

-- the bridge of this number stands
abbrev pub stands : ℕ → Switch → Bool
stands number s = is_some (numbered number s.bridges)

-- some bridge got this number
pub record WasDrawn (number : ℕ) (s : Switch) : Type 0 where
  pub first : 1 ≤ number
  pub last : number ≤ s.bridges.drawn

-- One event tells of each bridge that it begins. No event tells of the end of a bridge that stands, and one of the end of each other. Of a
-- number that no bridge got no event tells, and no bridge of it stands.
pub record BridgesAreTold (s : Switch) (events : List Event) : Type 0 where
  pub begin : (number : ℕ) → WasDrawn number s → begun number events ≡ 1
  pub stand : (number : ℕ) → stands number s ≡ true → ended number events ≡ 0
  pub end : (number : ℕ) → WasDrawn number s → stands number s ≡ false → ended number events ≡ 1
  pub none : (number : ℕ) → (WasDrawn number s → ⊥) →
      (begun number events ≡ 0) × (ended number events ≡ 0) × (stands number s ≡ false)

-- In front of each event that tells the end of a bridge stands one that tells its beginning, also within one entry.
abbrev pub EndsStandBehind : List Event → Type 0
EndsStandBehind events =
    (number : ℕ) (before behind : List Event) (event : Event) → events ≡ before ++ event ∷ behind → ends number event ≡ true →
    begun number before ≡ 1

-- two bridges have a leg in common
abbrev pub shares_leg : Row → Row → Bool
shares_leg one other = has_leg one.caller other || has_leg one.answerer other

-- Between an event that tells the beginning of a bridge and each later one that tells the beginning of another of its legs' stands one that
-- tells its end, also within one entry.
abbrev pub EndsStandBetween : List Event → Type 0
EndsStandBetween events =
    (one other : Row) (before between behind : List Event) (first later : Event) →
    events ≡ before ++ first ∷ (between ++ later ∷ behind) → first.detail ≡ Bridge one → later.detail ≡ Bridge other →
    shares_leg one other ≡ true → ended one.number between ≡ 1

-- how many bridges stand
abbrev pub standing : Switch → ℕ
standing s = length s.bridges.rows

-- There is one CHANNEL_BRIDGE for each bridge that was joined, and one CHANNEL_UNBRIDGE for each of these that stands no more. The counts
-- of the switch are the same, as far as they go.
pub record BridgesAreCounted (s : Switch) (events : List Event) : Type 0 where
  pub begun : count_by (is_named ChannelBridge) events ≡ s.bridges.drawn
  pub ended : count_by (is_named ChannelUnbridge) events + standing s ≡ s.bridges.drawn
  pub counts_begun : counted_at s.counts.events (event_number ChannelBridge) ≡ min s.bridges.drawn (2 ^ 64 - 1)
  pub counts_ended : counted_at s.counts.events (event_number ChannelUnbridge) ≡ min (s.bridges.drawn - standing s) (2 ^ 64 - 1)

-- all that happens in entries, under a configuration
abbrev pub events_in : Configuration → List Entry → List Event
events_in config entries = events_of (happened_from 0 (empty config) entries)
