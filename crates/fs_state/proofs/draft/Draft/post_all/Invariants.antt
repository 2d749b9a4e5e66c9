use Rattle.std.proofs.Common.{◌≡◌, drop, map}
use Rattle.fs_state.specs.Drafts.{drafted}
use Rattle.fs_state.specs.Posted.{events_of, unread}
use Rattle.fs_state.specs.Posting.{posted_over, with_lists}
use Rattle.fs_state.specs.Waiting.{AreCounted}
use Rattle.fs_state.proofs.draft.Draft.post_all.Given as goal

abbrev pub invariant-loop-seat : goal.invariant-loop-seat
invariant-loop-seat l = record {
  base : l.self.base ≡ l.fn.self.base;
  same : map unread l.posts.items ≡ map unread l.fn.posts.items;
  counted : AreCounted (events_of l.posts.items) l.lists.items;
  posted : posted_over l.fn.self.base l.fn.posts.items l.seat (drop l.seat l.fn.self.base.conns)
      (with_lists l.posts.items l.lists.items (drafted l.self))
      ≡ posted_over l.fn.self.base l.fn.posts.items 0 l.fn.self.base.conns
      (with_lists l.fn.posts.items l.fn.lists.items (drafted l.fn.self));
}
