use Rattle.std.proofs.Common.{◌≡◌, ◌+◌, ◌-◌, ◌^◌, ◌<◌, ◌≤◌, ◌++◌, length, get_or, take, ap, ◌∙◌, arith}
use Rattle.std.specs.Prelude.{option_map}
use Rattle.fs_state.specs.declared.delta.Delta.{Delta}
use Rattle.fs_state.specs.Drafts.{Drafted, drafted}
use Rattle.fs_state.specs.Posting.{post_of, posts_told, told_of}
use Rattle.fs_state.specs.Switch.{Kept, Switch}
use Rattle.fs_state.proofs.PostLemmas.{told_whole, posts_left, told_next, told_skip}
use Rattle.fs_state.proofs.draft.Draft.tell_all.Goals as goal
use Rattle.fs_state.proofs.draft.Draft.tell_all.Goals.{in-Some+in_ok-push, in_default}

pub loop-event-init : goal.loop-event-init
loop-event-init c =
    let base = c.args.self.now.base in
    let s = drafted c.args.self.now in
    let kept : c.self.inside.core.now.switch ≡ base = ap (λ (d : Drafted). d.base) c.self.view_is in
    let all : c.all-number.result ≡ base.counts.all =
    c.all-number.ensures ∙ ap (λ (k : Kept). k.switch.counts.all) c.core.view_is ∙ ap (λ (t : Switch). t.counts.all) kept in
    let first : base.counts.all + 0 + 1 ≡ base.counts.all + 1 = omega arith in (
      omega (arith, all),
      ap (λ items. items ++ posts_left c.args.seats base s (base.counts.all + 0 + 1) s.news) c.new-told.ensures.items
          ∙ ap (λ n. posts_left c.args.seats base s n s.news) first
          ∙ told_whole c.args.seats base s,
    )

pub loop-event-preserved : goal.loop-event-preserved
loop-event-preserved c =
    let base = c.args.self.now.base in
    let s = drafted c.args.self.now in
    let posts = c.loop-event.told.items in
    let post = c.in_ok-post.field-0 in
    let event = c.event-item.result in
    let i = c.loop-event.event-index in
    let n = base.counts.all + i + 1 in
    let next_number : c.in_ok-number.number ≡ c.loop-event.number + 1 = c.in_ok-number.ensures.0 in
    let low : c.in_ok-number.number ≤ 2 ^ 64 - 1 = c.in_ok-number.ensures.1 in
    let number : c.in_ok-number.number ≡ n = omega (arith, next_number, c.loop-event.invariant.0) in
    let small : n ≤ 2 ^ 64 - 1 = omega (arith, low, number) in
    let next : base.counts.all + (i + 1) + 1 ≡ n + 1 = omega arith in
    let news : c.as_slice-news.result.now ≡ s.news =
    c.as_slice-news.ensures
    ∙ ap (λ (d : Delta). d.news) c.deref.ensures
    ∙ ap (λ (d : Drafted). d.delta.news) c.self.view_is in
    let within : i < length s.news = omega (arith, c.loop-event-test.true, ap length news) in
    let of = post_of (take c.args.seats base.conns) in
    let tells : post ≡ option_map (of n) (told_of base s n (get_or s.news i event)) =
    c.in_ok-post.ensures
    ∙ ap (λ k. option_map (of k) (told_of base s k event)) number
    ∙ ap (λ event. option_map (of n) (told_of base s n event)) (c.event-item.is ∙ ap (λ events. get_or events i event) news) in
    elim c.match-branch-3.branch [
      | in-Some+in_ok-push w ↦ (
        omega (arith, number),
        rw (w.told-is, w.in_ok-push.ensures.items, next)
            (told_next c.args.seats base s posts (posts_told c.args.seats base s) s.news n i event w.in-Some.post post within small
            c.loop-event.invariant.1 tells w.in-Some.is),
      )
      | in_default w ↦ (
        omega (arith, number),
        rw (w.told-is, next)
            (told_skip c.args.seats base s posts (posts_told c.args.seats base s) s.news n i event post within small
            c.loop-event.invariant.1 tells w.in_default.is),
      )
    ]
