use Rattle.std.proofs.Common.{List, sym, ap, subst, ◌∙◌}
use Rattle.fs_doc.specs.Reading.{Configuration}
use Rattle.fs_state.specs.Switch.{Switch, empty}
use Rattle.fs_machine.specs.declared.entry.Entry.{Entry}
use Rattle.fs_machine.specs.Routes.{IsCurrent}
use Rattle.fs_machine.specs.Runs.{View, run_from}
use Rattle.fs_machine.proofs.RouteLemmas.{plan_hunted}
use Rattle.fs_machine.proofs.machine.Machine.prepare_route.Goals as goal

pub prepare_hunted-requires : goal.prepare_hunted-requires
prepare_hunted-requires c =
    let now = c.args.self.now in
    let config =
    ap (λ (m : View). m.config) c.self-2.view_is
    ∙ (c.take_blank.ensures.same.config ∙ ap (λ (m : View). m.config) c.self.view_is) in
    let journal =
    ap (λ (m : View). m.journal) c.self-2.view_is
    ∙ (c.take_blank.ensures.same.journal ∙ (c.make_room.ensures.same ∙ ap (λ (m : View). m.journal) c.self.view_is)) in
    let is =
    c.self-2.invariant.0.state
    ∙ (ap (λ (k : Configuration). run_from (empty k) c.self-2.inside.journal.entries) config
    ∙ ap (λ (j : List Entry). run_from (empty now.config) j) journal) in
    rw c.into_hunt.ensures
    (plan_hunted now.config now.journal c.self-2.inside.core.switch c.args.now c.args.slot c.args.plan is c.requires.suits
    (subst (λ (s : Switch). IsCurrent c.args.now c.args.slot c.args.plan s) (sym is) c.requires.current))
