use Rattle.std.proofs.Common.{◌≡◌, ◌+◌, ◌-◌, ◌^◌, min, [], ◌∷◌, ◌++◌, sym, ap, subst, ◌∙◌}
use Rattle.std.specs.Prelude.{List, Option, option_map, unwrap_or}
use Rattle.std.specs.Arc.{arc_value}
use Rattle.std.specs.declared.sync.Arc.{Arc}
use Rattle.fs_doc.specs.Dialplans.{Context}
use Rattle.fs_state.specs.Switch.{Switch, empty, after_entry}
use Rattle.fs_state.specs.Drafts.{after}
use Rattle.fs_state.specs.declared.delta.Delta.{Delta}
use Rattle.fs_machine.specs.declared.entry.Entry.{Entry}
use Rattle.fs_machine.specs.declared.reply.Reply.{Reply}
use Rattle.fs_machine.specs.Entries.{cost_of}
use Rattle.fs_machine.specs.Routes.{AreCountedOn}
use Rattle.fs_machine.specs.Runs.{View, state_of, IsPrepared, BringsContexts}
use Rattle.fs_machine.proofs.RunLemmas.{stands_more, cost_more}
use Rattle.fs_machine.proofs.TouchLemmas.{kept_more}
use Rattle.fs_machine.proofs.machine.Machine.apply.Goals as goal

pub invariant_of-self : goal.invariant_of-self
invariant_of-self c =
    let entry = c.args.change.entry in
    let kept = c.self.inside.core.switch in
    let entries = c.self.inside.journal.entries in
    let parts = c.into_parts-entry.ensures in
    let added = c.add.ensures ∙ ap (λ (t : Entry × Delta × Reply × Option (Arc (List Context) _)). entries ++ t.0 ∷ []) parts in
    let priced = c.apply-blank.ensures.switch ∙ ap (λ cost. after_entry cost (after kept c.into_parts-entry.result.1)) c.cost.ensures.exact in
    let done = priced ∙ ap (λ (t : Entry × Delta × Reply × Option (Arc (List Context) _)). after_entry (cost_of t.0.act) (after kept t.1)) parts in
    let P : View → Type 0 = λ view. IsPrepared (state_of view) entry c.args.change.delta c.args.change.reply in
    let noted = c.deref.ensures ∙ ap (λ (t : Entry × Delta × Reply × Option (Arc (List Context) _)). t.1) parts in
    let counted =
    subst (λ (d : Delta). AreCountedOn kept (after kept d) c.self.inside.touches c.note.new.self) noted c.note.ensures.counted in
    let Q : Switch → Type 0 = λ s. BringsContexts s c.args.change in
    let brought = subst Q (sym c.self.invariant.0.state) (subst (λ (view : View). Q (state_of view)) (sym c.self.view_is) c.requires.contexts) in
    let in_force =
    c.put_in.ensures
    ∙ (ap (λ (contexts : List Context). unwrap_or (option_map arc_value c.into_parts-entry.result.3) contexts) c.self.invariant.2
    ∙ (ap (λ (t : Entry × Delta × Reply × Option (Arc (List Context) _)). unwrap_or (option_map arc_value t.3) kept.contexts) parts ∙ brought)) in
    rw (done, added) (
      stands_more (arc_value c.self.inside.config) kept entries entry c.args.change.delta c.args.change.reply c.self.invariant.0
          (subst P (sym c.self.view_is) c.requires.prepared),
      c.self.invariant.1,
      in_force,
      c.self.invariant.3,
      kept_more (arc_value c.self.inside.config) kept entries entry c.args.change.delta c.args.change.reply c.self.inside.touches
          c.note.new.self c.self.invariant.0 (subst P (sym c.self.view_is) c.requires.prepared) c.self.invariant.4 counted c.note.ensures.all,
    )

pub returns-clause-cost : goal.returns-clause-cost
returns-clause-cost c =
    let entry = c.args.change.entry in
    let kept = c.self.inside.core.switch in
    let entries = c.self.inside.journal.entries in
    let parts = c.into_parts-entry.ensures in
    let added = c.add.ensures ∙ ap (λ (t : Entry × Delta × Reply × Option (Arc (List Context) _)). entries ++ t.0 ∷ []) parts in
    let priced = c.apply-blank.ensures.switch ∙ ap (λ cost. after_entry cost (after kept c.into_parts-entry.result.1)) c.cost.ensures.exact in
    let done = priced ∙ ap (λ (t : Entry × Delta × Reply × Option (Arc (List Context) _)). after_entry (cost_of t.0.act) (after kept t.1)) parts in
    let P : View → Type 0 = λ view. IsPrepared (state_of view) entry c.args.change.delta c.args.change.reply in
    let cost =
    cost_more (empty (arc_value c.self.inside.config)) entries entry c.args.change.delta c.args.change.reply
    (subst P (sym c.self.view_is) c.requires.prepared) in
    let Q : View → Type 0 = λ view. (state_of (record {
      config = arc_value c.self.inside.config;
      journal = c.add.new.self.entries;
      spare = 0;
      ring = c.self.inside.core.ring;
    })).cost ≡ min ((state_of view).cost + cost_of entry.act) (2 ^ 64 - 1) in
    subst Q c.self.view_is (rw added cost)
