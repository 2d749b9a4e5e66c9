use Rattle.std.proofs.Common.{sym, ap, ◌∙◌}
use Rattle.std.specs.Prelude.{true}
use Rattle.std.specs.Option.{option_copied}
use Rattle.fs_machine.specs.Routes.{routing_in}
use Rattle.fs_machine.proofs.RouteLemmas.{current_is, never_current, other_current}
use Rattle.fs_machine.proofs.routing.is_there.Goals as goal

pub returns-in_default : goal.returns-in_default
returns-in_default c =
    never_current c.args.core.now.switch c.args.slot c.args.seen.now
    (sym (ap routing_in c.chan.ensures) ∙ (sym c.to_route.ensures ∙ ap option_copied c.in_default.is))

pub returns-then-alike : goal.returns-then-alike
returns-then-alike c =
    current_is c.args.core.now.switch c.args.slot c.in-Some.chan.now c.args.seen.now true c.is_same.result
    (sym (ap routing_in c.chan.ensures) ∙ (sym c.to_route.ensures ∙ ap option_copied c.in-Some.is))
    (rw c.if-alike.true at c.shows-alike.ensures) (rw c.globals.ensures at c.is_same.ensures)

pub returns-else-alike : goal.returns-else-alike
returns-else-alike c =
    rw c.if-alike.false
    (other_current c.args.core.now.switch c.args.slot c.in-Some.chan.now c.args.seen.now
    (sym (ap routing_in c.chan.ensures) ∙ (sym c.to_route.ensures ∙ ap option_copied c.in-Some.is))
    (rw c.if-alike.false at c.shows-alike.ensures))
