use Rattle.std.proofs.Common.{◌∙◌}
use Rattle.fs_text.proofs.Offsets.{first_is}
use Rattle.fs_text.proofs.search.offset_of.Goals as goal

pub returns : goal.returns
returns c = c.unwrap_or.ensures ∙ first_is _ _ _ c.memchr.ensures
