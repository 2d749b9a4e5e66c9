use Rattle.std.proofs.Common.{◌≡◌, ◌+◌, ◌≤◌, length}
use Rattle.fs_state.specs.Posted.{events_of}
use Rattle.fs_state.specs.Waiting.{with_events_held, AreBehind, AreOrdered}
use Rattle.fs_state.proofs.mail.hold_all.Given as goal

-- what is still to be held makes of the ring what all does
abbrev pub invariant-loop-post : goal.invariant-loop-post
invariant-loop-post l = record {
  held : with_events_held (events_of l.post-iterator.rest.items) l.ring.pairs ≡ with_events_held (events_of l.fn.posts.items) l.fn.ring.pairs;
  order : AreOrdered (events_of l.post-iterator.rest.items);
  behind : AreBehind l.ring.pairs (events_of l.post-iterator.rest.items);
  len : l.post-iterator.rest.len ≡ length l.post-iterator.rest.items;
  spare : l.fn.ring.spare + length l.post-iterator.rest.items ≤ l.ring.spare + length l.fn.posts.items;
}
