use Rattle.std.proofs.Common.{◌∙◌, ap}
use Rattle.fs_bridge.specs.Bridges.{unbridged}
use Rattle.fs_state.specs.Drafts.{with_bridges_in}
use Rattle.fs_state.proofs.draft.Draft.drop_bridge.Goals as goal

pub returns : goal.returns
returns c = (
  c.put_bridges.ensures.base ∙ c.own_bridges.ensures.base,
  c.put_bridges.ensures.put
      ∙ c.own_bridges.ensures.put _
      ∙ ap (λ bridges. with_bridges_in c.args.self.now bridges)
      (c.unbridge-row.ensures.ended ∙ ap (λ bridges. unbridged c.args.number bridges) c.in_ok-bridges.ensures.own),
)
