use Rattle.std.proofs.Common.{◌≡◌, ℕ, ◌+◌, map, take}
use Rattle.fs_state.specs.Posted.{events_of, unread}
use Rattle.fs_state.specs.Posting as spec
use Rattle.fs_state.specs.Waiting.{readers_of, times}
use Rattle.fs_state.proofs.posting.numbers_within.Given as goal

abbrev pub invariant-loop-post : goal.invariant-loop-post
invariant-loop-post l = record {
  same : map unread l.posts ≡ map unread l.fn.posts;
  numbers : l.waiting ≡ spec.numbers_within l.room (spec.numbers_at l.seat (take l.post-index l.fn.posts));
  readers : (number : ℕ) → readers_of number (events_of l.posts) ≡ readers_of number (events_of l.fn.posts) + times number l.waiting;
}
