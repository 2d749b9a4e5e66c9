-- How many events there were of each name, and channels that were hung up with each cause.
use Rattle.std.specs.Prelude.{ℕ, ◌+◌, ◌-◌, ◌^◌, ◌==◌, min, Bool, false, List, [], ◌∷◌, get_or, replicate, count_by, Option, None, Some}
use Rattle.std.specs.List.{slice_set}
use Rattle.fs_text.specs.EventName.{event_number}
use Rattle.fs_text.specs.Cause.{cause_number}
use Rattle.fs_text.specs.declared.causes.Cause.{Cause}
use Rattle.fs_text.specs.declared.event_names.EventName.{EventName}
use Rattle.fs_state.specs.declared.event.Event.{Event}
use Rattle.fs_state.specs.declared.event.Detail.{Detail}
use Rattle.fs_state.specs.declared.event.Detail.TheVariants.{Hangup}

-- the counts of all events, of those by the numbers of their names, and of hangups by those of their causes
pub record Tallies : Type 0 where
  pub all : ℕ
  pub events : List ℕ
  pub hangups : List ℕ

-- so many zeros
unfoldable pub zeros : ℕ → List ℕ
zeros count = replicate count 0

-- the counts before anything has happened
abbrev pub no_tallies : Tallies
no_tallies = record { all = 0; events = zeros 16; hangups = zeros 606 }

-- the count at a number
abbrev pub counted_at : List ℕ → ℕ → ℕ
counted_at counts number = get_or counts number 0

-- with one more at a number; a count stands still at 2^64 - 1
abbrev pub raised_at : ℕ → List ℕ → List ℕ
raised_at number counts = slice_set counts number (min (counted_at counts number + 1) (2 ^ 64 - 1))

-- with one more hangup, where an event tells of one
abbrev pub with_hangup_counted : Option Cause → List ℕ → List ℕ
with_hangup_counted None hangups = hangups
with_hangup_counted (Some cause) hangups = raised_at (cause_number cause) hangups

-- why a channel was hung up, where an event tells of that
abbrev pub hangup_in : Detail → Option Cause
hangup_in (Hangup cause) = Some cause
hangup_in _ = None

-- with one more event
abbrev pub with_event_counted : Event → Tallies → Tallies
with_event_counted event t = record {
  all = min (t.all + 1) (2 ^ 64 - 1);
  events = raised_at (event_number event.name) t.events;
  hangups = with_hangup_counted (hangup_in event.detail) t.hangups;
}

-- with these events, one after another
abbrev pub with_events_counted : List Event → Tallies → Tallies
with_events_counted [] t = t
with_events_counted (event ∷ events) t = with_events_counted events (with_event_counted event t)

-- ---- what the counts tell of all events so far

-- an event has this name
abbrev pub is_named : EventName → Event → Bool
is_named name event = event_number event.name == event_number name

-- a hangup is told, and had this cause
abbrev pub is_cause : Cause → Option Cause → Bool
is_cause cause None = false
is_cause cause (Some other) = cause_number other == cause_number cause

-- how many events have a name, as far as a count goes
abbrev pub events_named : EventName → List Event → ℕ
events_named name events = min (count_by (is_named name) events) (2 ^ 64 - 1)

-- how many tell of a hangup with a cause, as far as a count goes
abbrev pub hangups_for : Cause → List Event → ℕ
hangups_for cause events = min (count_by (λ event. is_cause cause (hangup_in event.detail)) events) (2 ^ 64 - 1)
