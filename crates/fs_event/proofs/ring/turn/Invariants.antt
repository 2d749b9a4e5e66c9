use Rattle.std.proofs.Common.{◌≡◌, ◌++◌, filter, take, drop}
use Rattle.circular_buffer.specs.Buffer.{buffer}
use Rattle.fs_event.specs.Places.{is_kept}
use Rattle.fs_event.proofs.ring.turn.Given as goal

abbrev pub invariant-loop-place : goal.invariant-loop-place
invariant-loop-place g l =
    l.places
    ≡ buffer (drop l._place l.initial.places.items ++ filter is_kept (take l._place l.initial.places.items)) l.initial.places.capacity
