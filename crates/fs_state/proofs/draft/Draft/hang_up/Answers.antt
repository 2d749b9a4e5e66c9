use Rattle.std.proofs.Common.{refl, sym, ◌∙◌}
use Rattle.fs_state.specs.Drafts.{drafted}
use Rattle.fs_state.proofs.HangupLemmas.{nobody_hung}
use Rattle.fs_state.proofs.draft.Draft.hang_up.Goals as goal

pub returns-else-lives : goal.returns-else-lives
returns-else-lives c =
    (refl, nobody_hung c.args.cause c.args.slot (drafted c.args.self.now) (sym c.lives.ensures ∙ c.if-lives.false))
