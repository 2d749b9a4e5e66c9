use Rattle.std.proofs.Common.{◌≡◌, ◌==◌, List, length, true, sym, ap, subst, ◌∙◌}
use Rattle.fs_state.specs.declared.event.Event.{Event}
use Rattle.fs_state.specs.declared.delta.Delta.{Delta}
use Rattle.fs_state.specs.Drafts.{Drafted, drafted}
use Rattle.fs_state.specs.Posting.{AreDeaf}
use Rattle.fs_state.specs.Switch.{Switch}
use Rattle.fs_state.proofs.PostLemmas.{untold_deaf, untold_quiet}
use Rattle.fs_state.proofs.draft.Draft.told.Goals as goal
use Rattle.fs_state.proofs.draft.Draft.told.Goals.{then-is_empty-via-then-is_empty, then-is_empty-via-else-is_empty+then-is_deaf}

pub returns-then-is_empty : goal.returns-then-is_empty
returns-then-is_empty c =
    let base = c.args.self.now.base in
    let s = drafted c.args.self.now in
    let kept : c.self.inside.core.now.switch ≡ base = ap (λ (d : Drafted). d.base) c.self.view_is in
    let news : c.as_slice.result.now ≡ s.news =
    c.as_slice.ensures
    ∙ ap (λ (d : Delta). d.news) c.deref.ensures
    ∙ ap (λ (d : Drafted). d.delta.news) c.self.view_is in
    elim c.then-is_empty.branch [
      | then-is_empty-via-then-is_empty w ↦
          let quiet : (length s.news == 0) ≡ true =
          sym (c.is_empty.ensures ∙ ap (λ (events : List Event). length events == 0) news) ∙ w.if-is_empty.true in
          c.new.ensures.items ∙ sym (untold_quiet c.args.seats base s quiet)
      | then-is_empty-via-else-is_empty+then-is_deaf w ↦
          let deaf : AreDeaf base.conns = subst (λ (t : Switch). AreDeaf t.conns) kept (w.is_deaf.ensures w.if-is_deaf.true) in
          c.new.ensures.items ∙ sym (untold_deaf c.args.seats base s deaf)
    ]
