use Rattle.std.proofs.Common.{sym, ap, subst, ◌∙◌}
use Rattle.fs_state.specs.Drafts.{drafted, Fits}
use Rattle.fs_state.specs.Posting.{with_posts}
use Rattle.fs_state.specs.Switch.{Switch, at_moment}
use Rattle.fs_machine.specs.declared.entry.Entry.{Entry}
use Rattle.fs_machine.specs.Runs.{IsPrepared}
use Rattle.fs_machine.proofs.BringLemmas.{entered_steps, entered_contexts}
use Rattle.fs_machine.proofs.machine.prepare_entry.Goals as goal

pub enter-requires-clause-dialplan : goal.enter-requires-clause-dialplan
enter-requires-clause-dialplan c =
    c.requires.dialplan
    ∙ ap (λ (t : Switch). t.contexts)
    (sym (c.advance.ensures.advanced ∙ ap (at_moment c.args.asked.now.moment) c.new-draft.ensures.drafted))

pub returns : goal.returns
returns c =
    let s = c.args.core.now.switch in
    let asked = c.args.asked.now in
    let delta = c.in_ok-delta.delta in
    let began = drafted c.advance.new.self in
    let done = drafted c.enter.new.draft in
    let base = c.post.new.self.base in
    let posted = drafted c.post.new.self in
    let reply = c.in_ok-entry.reply in
    let based =
    c.in_ok-post.ensures.0 ∙ (c.in_ok-entry.ensures.base ∙ (c.advance.ensures.base ∙ c.new-draft.ensures.base)) in
    let begins = c.advance.ensures.advanced ∙ ap (at_moment asked.moment) c.new-draft.ensures.drafted in
    let posts = c.in_ok-post.ensures.1 ∙ ap (λ (t : Switch). with_posts t done) (sym c.in_ok-post.ensures.0) in
    let made = c.in_ok-delta.ensures.delta in (
      c.in_ok-entry.ensures.entry,
      subst (λ (e : Entry). IsPrepared s e delta reply) (sym c.in_ok-entry.ensures.entry) (record {
        defined = c.requires.defined;
        steps = entered_steps asked.act s base began done posted asked.moment reply delta based begins c.in_ok-entry.ensures.ok posts made;
        fits = subst (λ (t : Switch). Fits t delta) based c.in_ok-delta.ensures.fits;
      }),
      entered_contexts asked.act s base began done posted asked.moment reply delta c.requires.other based begins c.in_ok-entry.ensures.ok posts made,
    )
