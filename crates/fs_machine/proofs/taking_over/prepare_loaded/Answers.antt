use Rattle.std.proofs.Common.{sym, ap, subst, ◌∙◌}
use Rattle.std.specs.Prelude.{Option, List, option_map}
use Rattle.std.specs.Arc.{arc_value}
use Rattle.fs_doc.specs.Dialplans.{Context}
use Rattle.fs_doc.specs.Reading.{Configuration}
use Rattle.fs_doc.specs.declared.fault.DocFault.{DocFault}
use Rattle.fs_state.specs.Drafts.{drafted, Fits}
use Rattle.fs_state.specs.Posting.{with_posts}
use Rattle.fs_state.specs.Switch.{Switch, at_moment}
use Rattle.fs_machine.specs.declared.entry.Act.TheVariants.{Loaded}
use Rattle.fs_machine.specs.declared.note.LoadNote.{LoadNote}
use Rattle.fs_machine.specs.declared.reply.Reply.TheVariants.{Worked}
use Rattle.fs_machine.specs.Loading.{load_at, after_load, IsLoadOf}
use Rattle.fs_machine.proofs.BringLemmas.{left_comes, entered_steps, brought_contexts}
use Rattle.fs_machine.proofs.taking_over.prepare_loaded.Goals as goal

-- what is noted of a load, what was built, and the fault of its document
abbrev Parts : Type 0
Parts = LoadNote × Option (Configuration × List Context) × Option DocFault

pub note_load-requires : goal.note_load-requires
note_load-requires c =
    subst (λ (t : Parts). IsLoadOf t.0 t.1 t.2) (sym c.into_parts-note.ensures) c.requires

pub returns-clause-prepared : goal.returns-clause-prepared
returns-clause-prepared c =
    let s = c.args.core.now.switch in
    let note = c.args.load.note in
    let act = Loaded c.args.job note in
    let delta = c.in_ok-delta.delta in
    let began = drafted c.advance.new.self in
    let noted = drafted c.note_load.new.draft in
    let left = drafted c.part_left.new.draft in
    let base = c.post.new.self.base in
    let posted = drafted c.post.new.self in
    let same = ap (λ (t : Parts). t.0) c.into_parts-note.ensures in
    let based =
    c.in_ok-post.ensures.0
    ∙ (c.in_ok-part_left.ensures.0
    ∙ (c.in_ok-dialplan.ensures.draft.0 ∙ (c.advance.ensures.base ∙ c.new-draft.ensures.base))) in
    let begins = c.advance.ensures.advanced ∙ ap (at_moment c.args.now) c.new-draft.ensures.drafted in
    let notes = c.in_ok-dialplan.ensures.draft.1 ∙ ap (λ (n : LoadNote). after_load n c.args.job began) same in
    let comes =
    left_comes act began noted left Worked (ap (λ (t : Switch). record { state = t; reply = Worked }) (sym notes))
    c.in_ok-part_left.ensures.1 in
    let posts =
    c.in_ok-post.ensures.1 ∙ ap (λ (t : Switch). with_posts t left) (sym c.in_ok-post.ensures.0) in
    let made = c.in_ok-delta.ensures.delta in (
      ap (load_at c.args.now c.args.job) same,
      rw same (record {
        defined = c.in_ok-judge_load.ensures.defined note;
        steps = entered_steps act s base began left posted c.args.now Worked delta based begins comes posts made;
        fits = subst (λ (t : Switch). Fits t delta) based c.in_ok-delta.ensures.fits;
      }),
      brought_contexts s base began noted left posted c.args.now delta (option_map arc_value c.in_ok-dialplan.dialplan) based begins
          c.in_ok-dialplan.ensures.dialplan c.in_ok-part_left.ensures.1 posts made,
    )
