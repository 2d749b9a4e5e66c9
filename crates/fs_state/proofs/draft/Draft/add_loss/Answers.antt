use Rattle.std.proofs.Common.{◌∙◌, ap}
use Rattle.fs_state.specs.Drafts.{with_losses_in}
use Rattle.fs_state.specs.Losses.{with_loss}
use Rattle.fs_state.proofs.draft.Draft.add_loss.Goals as goal

pub returns : goal.returns
returns c = (
  c.put_losses.ensures.base ∙ c.own_losses.ensures.base,
  c.put_losses.ensures.put
      ∙ c.own_losses.ensures.put _
      ∙ ap (λ losses. with_losses_in c.args.self.now losses)
      (c.in_ok-add.ensures.ok ∙ ap (with_loss c.args.conn c.args.events) c.in_ok-losses.ensures.own),
)
