use Rattle.std.proofs.Common.{◌≡◌, ℕ, map, ◌+◌, ◌-◌, List, ◌++◌, length, take, drop, sym, ap, subst, ◌∙◌, arith}
use Rattle.std.proofs.Math.Seq.{take-length}
use Rattle.std.proofs.lemmas.List.{take-append-le}
use Rattle.std.proofs.lemmas.Result.{on_ok_weaker}
use Rattle.fs_state.specs.declared.post.Post.{Post}
use Rattle.fs_state.specs.Drafts.{drafted}
use Rattle.fs_state.specs.Posted.{events_of, unread}
use Rattle.fs_state.specs.Posting.{frames_at, frames_within, numbers_at, numbers_within, lists_of, posted_to, room_for, with_lists, with_lost, with_post}
use Rattle.fs_state.specs.Waiting.{AreCounted, readers_of, times}
use Rattle.fs_state.proofs.ListLemmas.{list_posted, list_counted}
use Rattle.fs_state.proofs.PostLemmas.{posted_gone, posted_there}
use Rattle.fs_state.proofs.draft.Draft.post_to.Goals as goal

pub returns-then-not-is_there-clause-posted : goal.returns-then-not-is_there-clause-posted
returns-then-not-is_there-clause-posted c =
    let s = with_lists c.args.posts.now.items c.args.lists.now.items (drafted c.args.self.now) in
    sym (posted_gone c.args.self.now.base (frames_at c.args.seat c.args.posts.now.items) c.args.row.now s
    (sym c.is_there.ensures ∙ c.if-not-is_there.true))

-- a slice of all is all
whole : (new old : List Post) (n : ℕ) → n ≡ length new → take n (new ++ drop (length new) old) ≡ new
whole new old n is = take-append-le n new (drop (length new) old) (omega (arith, is)) ∙ ap (λ n. take n new) is ∙ take-length new

pub returns-clause-counted : goal.returns-clause-counted
returns-clause-counted c =
    let old = c.args.posts.now.items in
    let new = c.numbers_within.new.posts in
    let lists = c.args.lists.now.items in
    let all = whole new old c.args.posts.now.len (omega (arith, c.args.posts.now.ok.0, c.numbers_within.auto.posts)) in
    let value : c.deref_mut.result.now ≡ old = c.deref_mut.ensures.value in
    let waiting = c.in_ok-waiting.waiting in
    let counted = list_counted old new lists c.args.row.now.number waiting (c.in_ok-waiting.ensures.same ∙ ap (map unread) value)
    (record { order = c.requires.order; each = c.requires.each })
    (λ number. c.in_ok-waiting.ensures.readers number ∙ ap (λ posts. readers_of number (events_of posts) + times number waiting) value) in
    on_ok_weaker c.lose.result
    (λ e. subst (λ posts. AreCounted (events_of posts) c.add_list.new.lists.items) (sym all)
    (subst (AreCounted (events_of new)) (sym c.in_ok-add_list.ensures) counted))
    c.lose.ensures.1

pub returns-clause-posted : goal.returns-clause-posted
returns-clause-posted c =
    let base = c.args.self.now.base in
    let was = drafted c.args.self.now in
    let now = drafted c.lose.new.self in
    let seat = c.args.seat in
    let conn = c.args.row.now.number in
    let old = c.args.posts.now.items in
    let new = c.numbers_within.new.posts in
    let lists = c.args.lists.now.items in
    let room = c.room_for-room.result in
    let lost = c.lost_behind-lost.result in
    let texts = frames_at seat old in
    let listed = lists ++ lists_of conn (numbers_within room (numbers_at seat old)) in
    let s = with_lists old lists was in
    let all = whole new old c.args.posts.now.len (omega (arith, c.args.posts.now.ok.0, c.numbers_within.auto.posts)) in
    let value : c.deref_mut.result.now ≡ old = c.deref_mut.ensures.value in
    let put : c.add_list.new.lists.items ≡ listed =
    c.in_ok-add_list.ensures
    ∙ ap (λ w. lists ++ lists_of conn w) (c.in_ok-waiting.ensures.numbers
    ∙ ap (λ posts. numbers_within room (numbers_at seat posts)) value) in
    let given : with_lists new listed was ≡ with_post conn (frames_within room texts) s =
    list_posted old new lists seat room conn was (c.in_ok-waiting.ensures.same ∙ ap (map unread) value) c.requires.order in
    let there : posted_to base texts c.args.row.now s
    ≡ with_lost conn (length texts - room_for base conn) (with_post conn (frames_within (room_for base conn) texts) s) =
    posted_there base texts c.args.row.now s (sym c.is_there.ensures ∙ c.if-not-is_there.false) in
    on_ok_weaker c.lose.result
    (λ e. ap (λ posts. with_lists posts c.add_list.new.lists.items now) all
    ∙ ap (λ ls. with_lists new ls now) put
    ∙ ap (with_lists new listed) e
    ∙ ap (with_lost conn lost) given
    ∙ ap (λ n. with_lost conn n (with_post conn (frames_within room texts) s)) c.lost_behind-lost.ensures
    ∙ ap (λ posts. with_lost conn (length (frames_at seat posts) - room) (with_post conn (frames_within room texts) s)) c.deref.ensures.value
    ∙ ap (λ n. with_lost conn (length texts - n) (with_post conn (frames_within n texts) s)) c.room_for-room.ensures
    ∙ sym there)
    c.lose.ensures.1
