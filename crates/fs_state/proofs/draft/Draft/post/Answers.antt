use Rattle.std.proofs.Common.{◌≡◌, ℕ, ◌+◌, List, [], sym, ap, subst, ◌∙◌}
use Rattle.fs_seats.specs.Seats.{IsEmptyFrom}
use Rattle.fs_state.specs.declared.gift.Given.{Given}
use Rattle.fs_state.specs.declared.post.Post.{Post}
use Rattle.fs_state.specs.Drafts.{Drafted, drafted}
use Rattle.fs_state.specs.Posted.{events_of}
use Rattle.fs_state.specs.Posting.{posts_told, posted_over, with_lists, with_posts, tellings}
use Rattle.fs_state.specs.Switch.{Kept, Switch}
use Rattle.fs_state.specs.Waiting.{Posted, gifts_of_posts, AreCounted}
use Rattle.fs_state.proofs.ListLemmas.{none_listed}
use Rattle.fs_state.proofs.PostLemmas.{all_posted}
use Rattle.fs_state.proofs.draft.Draft.post.Goals as goal

none_counted : (seats : ℕ) (base s : Switch) (posts : List Post) (lists : List Given) → posts ≡ posts_told seats base s → lists ≡ [] →
    AreCounted (events_of posts) lists
none_counted seats base s posts lists tells none =
    subst (λ posts. AreCounted (events_of posts) lists) (sym tells)
    (subst (AreCounted (events_of (posts_told seats base s))) (sym none)
    (none_listed seats base.conns (s.counts.all + 1) (tellings base s)))

done : (seats : ℕ) (base s kept : Switch) (posts : List Post) (lists : List Given) (told : Switch) → IsEmptyFrom seats base.conns →
    kept ≡ base → posts ≡ posts_told seats base s → lists ≡ [] → told ≡ s →
    posted_over kept posts 0 kept.conns (with_lists posts lists told) ≡ with_posts base s
done seats base s kept posts lists told empty same tells none is =
    ap (λ (t : Switch). posted_over t posts 0 t.conns (with_lists posts lists told)) same
    ∙ ap (λ (all : List Given). posted_over base posts 0 base.conns (with_lists posts all told)) none
    ∙ ap (λ (t : Switch). posted_over base posts 0 base.conns (record t { posted = [] })) is
    ∙ ap (λ (some : List Post). posted_over base some 0 base.conns (record s { posted = [] })) tells
    ∙ all_posted seats base s empty

pub post_all-requires : goal.post_all-requires
post_all-requires c =
    none_counted c.filled.result c.take_text-text.new.self.base (drafted c.take_text-text.new.self) c.in_ok-told.told.items c.new-lists.result.items
    c.in_ok-told.ensures c.new-lists.ensures.items

pub returns : goal.returns
returns c =
    let base = c.args.self.now.base in
    let s = drafted c.args.self.now in
    let seats = c.filled.result in
    let told = c.in_ok-told.told.items in
    let lists = c.new-lists.result.items in
    let same : c.core.inside.conns ≡ base.conns =
    ap (λ (k : Kept). k.switch.conns) c.core.view_is ∙ ap (λ (d : Drafted). d.base.conns) c.self.view_is in
    let empty : IsEmptyFrom seats base.conns = subst (IsEmptyFrom seats) same c.filled.ensures.empty in
    let tells : told ≡ posts_told seats base s =
    c.in_ok-told.ensures
    ∙ ap (λ b. posts_told seats b (drafted c.take_text-text.new.self)) c.take_text-text.ensures.base
    ∙ ap (posts_told seats base) c.take_text-text.ensures.same in
    let kept : c.keep_text.new.self.base ≡ base = c.keep_text.ensures.base ∙ c.take_text-text.ensures.base in
    let is : drafted c.keep_text.new.self ≡ s = c.keep_text.ensures.same ∙ c.take_text-text.ensures.same in
    let posted : with_lists c.post_all.new.posts.items c.post_all.new.lists.items (drafted c.post_all.new.self) ≡ with_posts base s =
    c.in_ok-post_all.ensures.posted
    ∙ done seats base s c.keep_text.new.self.base told lists (drafted c.keep_text.new.self) empty kept tells c.new-lists.ensures.items is in (
      c.put_posts.ensures.base ∙ c.post_all.ensures.base ∙ kept,
      c.put_posts.ensures.put
          ∙ ap (λ (p : Posted). let t : Switch = record (drafted c.post_all.new.self) { posted = gifts_of_posts p } in t) c.of.ensures
          ∙ posted,
    )
