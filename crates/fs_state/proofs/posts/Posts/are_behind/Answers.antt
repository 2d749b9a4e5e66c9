use Rattle.std.proofs.Common.{◌≡◌, ◌+◌, ◌-◌, ◌^◌, ◌≤◌, min, List, length, get_or, ap, subst, ◌∙◌, arith}
use Rattle.std.proofs.lemmas.Bool.{leb-true}
use Rattle.fs_state.specs.declared.post.Post.{Post}
use Rattle.fs_state.specs.Waiting.{Posted, AreNumbered}
use Rattle.fs_state.proofs.ListLemmas.{numbered_between}
use Rattle.fs_state.proofs.posts.Posts.are_behind.Goals as goal

pub returns-then-before-lowest : goal.returns-then-before-lowest
returns-then-before-lowest c =
    let posts = c.self.inside.events.items in
    let low = c.in-Some-Some.lowest.now in
    let high = c.in-Some-Some.highest.now in
    let first : low ≡ get_or posts 0 low =
    c.in-Some-Some.ensures.item.1 ∙ ap (λ (all : List Post). get_or all 0 low) c.deref.ensures.value in
    let last : high ≡ get_or posts (length posts - 1) high =
    c.in-Some-Some.ensures'.item.1 ∙ ap (λ (all : List Post). get_or all (length all - 1) high) c.deref-2.ensures.value in
    λ yes.
    let below : high.number ≤ min (c.args.before + c.args.more) (2 ^ 64 - 1) =
    omega (arith, leb-true high.number c.saturating_add-last.result yes, c.saturating_add-last.ensures) in
    subst (λ (p : Posted). AreNumbered c.args.before c.args.more p.events) c.self.view_is
    (numbered_between c.args.before c.args.more posts low high c.self.invariant.order first last c.if-before-lowest.true below)
