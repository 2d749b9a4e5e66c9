use Rattle.std.proofs.Common.{◌∙◌, ap}
use Rattle.fs_text.specs.CoreId.{uuid}
use Rattle.fs_text.proofs.core_id.CoreId.uuid_in.Goals as goal

pub returns : goal.returns
unfolding uuid
returns c = c.hyphenated.ensures ∙ ap (λ high. uuid high c.args.n) c.self.view_is
