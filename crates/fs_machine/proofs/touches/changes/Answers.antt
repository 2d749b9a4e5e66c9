use Rattle.std.proofs.Common.{◌≡◌, sym, ap, ◌∙◌}
use Rattle.std.specs.Prelude.{◌&&◌}
use Rattle.std.specs.Option.{option_copied}
use Rattle.fs_state.specs.Drafts.{after}
use Rattle.fs_machine.specs.Routes.{routing_in}
use Rattle.fs_machine.proofs.TouchLemmas.{both_changed}
use Rattle.fs_machine.proofs.touches.changes.Goals as goal
use Rattle.fs_machine.proofs.touches.changes.Goals.{then-same, else-same}

pub returns : goal.returns
returns c =
    let alike = c.is_as-alike.result in
    let e : c.if-same.result ≡ (c.args.same && alike) = elim c.if-same.branch [
      | then-same w ↦ w.result-is ∙ sym (ap (λ b. b && alike) w.if-same.true)
      | else-same w ↦ w.result-is ∙ (w.if-same.false ∙ sym (ap (λ b. b && alike) w.if-same.false))
    ] in
    rw e
    (both_changed c.args.core.now.switch (after c.args.core.now.switch c.args.delta.now) c.args.slot c.in-Some.before.now c.in-Some-after.after.now c.args.same
    alike
    (sym (ap routing_in c.chan.ensures) ∙ (sym c.to_route.ensures ∙ ap option_copied c.in-Some.is))
    (sym (ap routing_in c.chan_after.ensures) ∙ (sym c.to_route-after.ensures ∙ ap option_copied c.in-Some-after.is))
    c.requires c.is_as-alike.ensures)
