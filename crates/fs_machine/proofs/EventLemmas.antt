-- What was counted is what happened.
use Rattle.std.proofs.Common.{◌≡◌, ℕ, ◌+◌, ◌-◌, ◌^◌, min, List, [], ◌∷◌, ◌++◌, length, refl, sym, ap, ◌∙◌}
use Rattle.std.proofs.lemmas.List.{map-append}
use Rattle.fs_text.specs.declared.causes.Cause.{Cause}
use Rattle.fs_text.specs.declared.event_names.EventName.{EventName}
use Rattle.fs_text.specs.Cause.{cause_number}
use Rattle.fs_text.specs.EventName.{event_number}
use Rattle.fs_state.specs.declared.event.Event.{Event}
use Rattle.fs_state.specs.Counts.{Tallies, counted_at, with_events_counted, events_named, hangups_for}
use Rattle.fs_state.specs.Switch.{Switch, empty, at_moment}
use Rattle.fs_state.proofs.CountLemmas as counts
use Rattle.fs_state.proofs.CountLemmas.{counted_append, counts_names, counts_hangups}
use Rattle.fs_machine.specs.declared.entry.Entry.{Entry}
use Rattle.fs_machine.specs.Step.{act_done, step}
use Rattle.fs_machine.specs.Runs.{View, run_from, state_of}
use Rattle.fs_machine.specs.Events.{Happened, at_place, events_by, happened_from, happened, events_of}
use Rattle.fs_machine.proofs.OrderLemmas.{acted_counts}

-- an entry counts what happens in it
step_counts : (s : Switch) (entry : Entry) → (step s entry).state.counts ≡ with_events_counted (events_by s entry) s.counts
unfolding step events_by
step_counts s entry =
    ap (with_events_counted (act_done entry.act (at_moment entry.moment s)).state.news) (acted_counts entry.act (at_moment entry.moment s))

-- events at a place are these events
events_at : (place : ℕ) (events : List Event) → events_of (at_place place events) ≡ events
events_at place [] = refl
events_at place (event ∷ events) = ap (λ more. event ∷ more) (events_at place events)

-- first what happens in the first of entries
pub events_first : (place : ℕ) (s : Switch) (entry : Entry) (entries : List Entry) →
    events_of (happened_from place s (entry ∷ entries))
    ≡ events_by s entry ++ events_of (happened_from (place + 1) (step s entry).state entries)
events_first place s entry entries =
    let later = happened_from (place + 1) (step s entry).state entries in
    map-append (λ (h : Happened). h.event) (at_place place (events_by s entry)) later
    ∙ ap (λ events. events ++ events_of later) (events_at place (events_by s entry))

run_counts : (place : ℕ) (s : Switch) (entries : List Entry) →
    (run_from s entries).counts ≡ with_events_counted (events_of (happened_from place s entries)) s.counts
run_counts place s [] = refl
run_counts place s (entry ∷ entries) =
    let later = happened_from (place + 1) (step s entry).state entries in
    run_counts (place + 1) (step s entry).state entries
    ∙ ap (with_events_counted (events_of later)) (step_counts s entry)
    ∙ sym (ap (λ events. with_events_counted events s.counts) (events_first place s entry entries)
    ∙ counted_append (events_by s entry) (events_of later) s.counts)

pub counts_all : (m : View) → (state_of m).counts.all ≡ min (length (events_of (happened m))) (2 ^ 64 - 1)
counts_all m = ap (λ (t : Tallies). t.all) (run_counts 0 (empty m.config) m.journal) ∙ counts.counts_all (events_of (happened m))

pub counts_events : (m : View) (name : EventName) →
    counted_at (state_of m).counts.events (event_number name) ≡ events_named name (events_of (happened m))
counts_events m name =
    ap (λ (t : Tallies). counted_at t.events (event_number name)) (run_counts 0 (empty m.config) m.journal)
    ∙ counts_names name (events_of (happened m))

pub counts_causes : (m : View) (cause : Cause) →
    counted_at (state_of m).counts.hangups (cause_number cause) ≡ hangups_for cause (events_of (happened m))
counts_causes m cause =
    ap (λ (t : Tallies). counted_at t.hangups (cause_number cause)) (run_counts 0 (empty m.config) m.journal)
    ∙ counts_hangups cause (events_of (happened m))

pub ruleset count_laws = (counts_all, counts_events, counts_causes)
