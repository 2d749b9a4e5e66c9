use Rattle.std.proofs.Common.{ℤ, w64, FitsSigned, rules, sym, ap, subst, ◌∙◌}
use Rattle.std.proofs.lemmas.Int.{to_z-of_z}
use Rattle.std.specs.Arc.{arc_value}
use Rattle.std.specs.Option.{option_copied}
use Rattle.fs_machine.specs.declared.routes.Snapshot.{Snapshot}
use Rattle.fs_machine.specs.Routes.{Shows, routing_in}
use Rattle.fs_machine.specs.Runs.{View}
use Rattle.fs_machine.proofs.RouteLemmas.{shows}
use Rattle.fs_machine.proofs.machine.Machine.snapshot.Goals as goal

pub returns : goal.returns
returns c =
    let kept = c.self.invariant in
    let minute = c.wall_at.result in
    let fits : FitsSigned w64 minute = search rules in
    let seen : ℤ → Snapshot = λ wall. record {
      uuid = c.in_ok-copy.field-0;
      touched = c.of.result;
      reloads = c.reloads.result;
      wall = wall;
      vars = c.in_ok-copy-3.field-0;
      profile = c.in_ok-copy-2.field-0;
      globals = c.in_ok-copy-4.field-0;
      dialplan = c.in_ok-clone.field-0;
    } in
    subst (λ wall. Shows c.args.self.now c.args.now c.args.slot (seen wall)) (sym (to_z-of_z w64 minute fits)) (
    subst (λ (view : View). Shows view c.args.now c.args.slot (seen minute)) c.self.view_is
    (shows (arc_value c.self.inside.config) c.self.inside.core.switch c.self.inside.journal.entries c.self.inside.touches c.self.inside.journal.spare
    c.self.inside.core.ring c.args.now c.args.slot c.in-Some.chan.now (seen minute) kept.0 kept.4
    (sym (ap routing_in c.chan.ensures) ∙ (sym c.to_route.ensures ∙ ap option_copied c.in-Some.is))
    (sym c.may_route.ensures ∙ c.if-not-may_route.false)
    (record { uuid = sym c.in_ok-copy.ensures; vars = sym c.in_ok-copy-3.ensures; profile = sym c.in_ok-copy-2.ensures })
    (sym (c.in_ok-copy-4.ensures ∙ c.globals.ensures)) c.of.ensures c.reloads.ensures c.wall_at.ensures
    (c.in_ok-clone.ensures.cases ∙ kept.2)))
