use Rattle.std.proofs.Common.{◌∙◌, ap}
use Rattle.fs_bridge.specs.Bridges.{joined}
use Rattle.fs_state.specs.Drafts.{with_bridges_in}
use Rattle.fs_state.proofs.draft.Draft.add_bridge.Goals as goal

pub returns-clause-draft : goal.returns-clause-draft
returns-clause-draft c = (
  c.put_bridges.ensures.base ∙ c.own_bridges.ensures.base,
  c.put_bridges.ensures.put
      ∙ c.own_bridges.ensures.put _
      ∙ ap (λ bridges. with_bridges_in c.args.self.now bridges)
      (c.in_ok-number.ensures.joined
      ∙ ap (λ bridges. joined c.args.caller c.args.answerer c.args.kind bridges) c.in_ok-bridges.ensures.own),
)
