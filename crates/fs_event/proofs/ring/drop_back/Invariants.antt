use Rattle.std.proofs.Common.{◌≡◌, length}
use Rattle.fs_event.specs.Places.{KeepsPairs}
use Rattle.fs_event.proofs.ring.drop_back.Given as goal

abbrev pub invariant-loop-places : goal.invariant-loop-places
invariant-loop-places g l = record {
  kept : KeepsPairs l.initial.places.items l.places.items;
  capacity : l.places.capacity ≡ l.initial.places.capacity;
}

abbrev pub decreases-loop-places : goal.decreases-loop-places
decreases-loop-places g l = length l.places.items
