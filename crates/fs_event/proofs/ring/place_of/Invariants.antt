use Rattle.std.proofs.Common.{◌-◌, ◌≤◌, length}
use Rattle.fs_event.proofs.RingLemmas.{AreLessBefore, AreGreaterFrom}
use Rattle.fs_event.proofs.ring.place_of.Given as goal

abbrev pub invariant-loop-low : goal.invariant-loop-low
invariant-loop-low g l = record {
  within : l.high ≤ length l.places.items;
  less : AreLessBefore l.number l.low l.places.items;
  greater : AreGreaterFrom l.number l.high l.places.items;
}

abbrev pub decreases-loop-low : goal.decreases-loop-low
decreases-loop-low g l = l.high - l.low
