use Rattle.std.proofs.Common.{◌≡◌, ◌∷◌, List, [], length, ap, subst, arith, refl}
use Rattle.fs_state.specs.declared.post.Post.{Post}
use Rattle.fs_state.specs.Posted.{event_of, events_of}
use Rattle.fs_state.specs.Waiting.{with_events_held, AreBehind, AreOrdered}
use Rattle.fs_state.proofs.HeldLemmas.{first_behind, rest_behind, order_behind}
use Rattle.fs_state.proofs.mail.hold_all.Goals as goal

none_left : (posts : List Post) → length posts ≡ 0 → posts ≡ []
none_left [] none = refl
none_left (post ∷ posts) none = absurd (omega (arith, none))

pub hold-requires-clause-last : goal.hold-requires-clause-last
hold-requires-clause-last c =
    let post = c.in-Some.post in
    let rest = c.next.new.self.rest.items in
    let pairs = c.loop-post.ring.pairs in
    first_behind (event_of post) (events_of rest) pairs
    (subst (λ posts. AreBehind pairs (events_of posts)) c.in-Some.ensures.steps.0 c.loop-post.invariant.behind)

pub hold-requires-clause-spare : goal.hold-requires-clause-spare
hold-requires-clause-spare c =
    omega (arith, c.loop-post.invariant.spare, ap length c.in-Some.ensures.steps.0, c.requires.spare)

pub loop-post-preserved : goal.loop-post-preserved
loop-post-preserved c =
    let post = c.in-Some.post in
    let rest = c.next.new.self.rest.items in
    let pairs = c.loop-post.ring.pairs in
    let split = c.in-Some.ensures.steps.0 in
    let order : AreOrdered (event_of post ∷ events_of rest) = subst (λ posts. AreOrdered (events_of posts)) split c.loop-post.invariant.order in
    let behind : AreBehind pairs (event_of post ∷ events_of rest) =
    subst (λ posts. AreBehind pairs (events_of posts)) split c.loop-post.invariant.behind in
    rw c.hold.ensures.pairs (record {
      held = subst (λ posts. with_events_held (events_of posts) pairs ≡ with_events_held (events_of c.args.posts.items) c.args.ring.now.pairs) split
          c.loop-post.invariant.held;
      order = order_behind (event_of post) (events_of rest) order;
      behind = rest_behind (event_of post) (events_of rest) pairs order behind;
      len = omega (arith, c.in-Some.ensures.steps.1, c.loop-post.invariant.len, ap length split);
      spare = omega (arith, c.loop-post.invariant.spare, ap length split, c.hold.ensures.spare);
    })

pub returns : goal.returns
returns c =
    let none : length c.loop-post.post-iterator.rest.items ≡ 0 =
    omega (arith, c.in-None.ensures.steps.0, c.loop-post.invariant.len) in
    record {
      pairs = subst (λ posts. with_events_held (events_of posts) c.loop-post.ring.pairs
          ≡ with_events_held (events_of c.args.posts.items) c.args.ring.now.pairs)
          (none_left c.loop-post.post-iterator.rest.items none) c.loop-post.invariant.held;
      spare = omega (arith, none, c.loop-post.invariant.spare);
    }
