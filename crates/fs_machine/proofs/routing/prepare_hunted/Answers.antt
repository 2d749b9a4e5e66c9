use Rattle.std.proofs.Common.{refl, sym, ap, subst, ◌∙◌}
use Rattle.fs_state.specs.Drafts.{drafted, Fits}
use Rattle.fs_state.specs.Posting.{with_posts}
use Rattle.fs_state.specs.Switch.{Switch, at_moment}
use Rattle.fs_machine.specs.declared.entry.Act.TheVariants.{Work}
use Rattle.fs_machine.specs.declared.reply.Reply.TheVariants.{Worked}
use Rattle.fs_machine.specs.Routes.{IsHunted}
use Rattle.fs_machine.proofs.BringLemmas.{left_comes, entered_steps, entered_contexts}
use Rattle.fs_machine.proofs.routing.prepare_hunted.Goals as goal

pub work_by-requires : goal.work_by-requires
work_by-requires c =
    subst (λ (s : Switch). IsHunted c.args.slot c.args.hunt s)
    (sym (c.advance.ensures.advanced ∙ ap (at_moment c.args.now) c.new-draft.ensures.drafted)) c.requires

pub returns-clause-prepared : goal.returns-clause-prepared
returns-clause-prepared c =
    let s = c.args.core.now.switch in
    let act = Work c.args.slot in
    let delta = c.in_ok-delta.delta in
    let began = drafted c.advance.new.self in
    let left = drafted c.part_left.new.draft in
    let base = c.post.new.self.base in
    let posted = drafted c.post.new.self in
    let based =
    c.in_ok-post.ensures.0
    ∙ (c.in_ok-part_left.ensures.0
    ∙ (c.in_ok-work_by.ensures.0 ∙ (c.advance.ensures.base ∙ c.new-draft.ensures.base))) in
    let begins = c.advance.ensures.advanced ∙ ap (at_moment c.args.now) c.new-draft.ensures.drafted in
    let comes =
    left_comes act began (drafted c.work_by.new.draft) left Worked
    (ap (λ (t : Switch). record { state = t; reply = Worked }) (sym c.in_ok-work_by.ensures.1)) c.in_ok-part_left.ensures.1 in
    let posts =
    c.in_ok-post.ensures.1 ∙ ap (λ (t : Switch). with_posts t left) (sym c.in_ok-post.ensures.0) in
    let made = c.in_ok-delta.ensures.delta in (
      refl,
      record {
        defined = c.in_ok-judge.ensures.defined;
        steps = entered_steps act s base began left posted c.args.now Worked delta based begins comes posts made;
        fits = subst (λ (t : Switch). Fits t delta) based c.in_ok-delta.ensures.fits;
      },
      entered_contexts act s base began left posted c.args.now Worked delta refl based begins comes posts made,
    )
