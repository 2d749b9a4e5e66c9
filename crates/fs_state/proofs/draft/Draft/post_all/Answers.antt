use Rattle.std.proofs.Common.{◌≡◌, ◌+◌, ◌<◌, drop, length, sym, ap, ◌∙◌, arith}
use Rattle.fs_seats.specs.Seats.{held_in}
use Rattle.fs_state.specs.Drafts.{Drafted, drafted}
use Rattle.fs_state.specs.Posting.{posted_at, posted_over, with_lists}
use Rattle.fs_state.specs.Switch.{Kept, Switch}
use Rattle.fs_state.proofs.ListLemmas.{at_same}
use Rattle.fs_state.proofs.PostLemmas.{over_next}
use Rattle.fs_state.proofs.draft.Draft.post_all.Goals as goal

pub loop-seat-preserved : goal.loop-seat-preserved
loop-seat-preserved c =
    let base = c.args.self.now.base in
    let told = c.args.posts.now.items in
    let posts = c.loop-seat.posts.items in
    let seat = c.loop-seat.seat in
    let held = c.loop-seat.invariant in
    let s = with_lists posts c.loop-seat.lists.items (drafted c.loop-seat.self) in
    let same : c.core.inside.conns ≡ base.conns =
    ap (λ (k : Kept). k.switch.conns) c.core.view_is ∙ ap (λ (d : Drafted). d.base.conns) c.self.view_is in
    let within : seat < length base.conns = omega (arith, c.loop-seat-test.true, c.filled-seat-end.ensures.within, ap length same) in
    let done : with_lists c.post_at.new.posts.items c.post_at.new.lists.items (drafted c.post_at.new.self)
    ≡ posted_at base told seat (held_in base.conns seat) s =
    c.in_ok-post_at.ensures.posted
    ∙ ap (λ (b : Switch). posted_at b posts seat (held_in b.conns seat) s) held.base
    ∙ at_same base posts told seat (held_in base.conns seat) s held.same in
    record {
      base = c.post_at.ensures.base ∙ held.base;
      same = c.in_ok-post_at.ensures.same ∙ held.same;
      counted = c.in_ok-post_at.ensures.counted;
      posted = ap (posted_over base told (seat + 1) (drop (seat + 1) base.conns)) done
          ∙ sym (over_next base told base.conns seat s within) ∙ held.posted;
    }
