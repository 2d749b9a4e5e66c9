use Rattle.std.proofs.Common.{◌≡◌, ◌≤◌, drop}
use Rattle.fs_state.specs.Counts as spec
use Rattle.fs_state.proofs.counts.Counts.count_all.Given as goal

abbrev pub invariant-loop-event : goal.invariant-loop-event
invariant-loop-event l =
    (spec.with_events_counted (drop l.event-index l.events) l.self ≡ spec.with_events_counted l.events l.fn.self)
    × (l.fn.self.all ≤ l.self.all)
