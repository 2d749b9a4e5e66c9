use Rattle.std.proofs.Common.{◌∙◌}
use Rattle.fs_text.proofs.Offsets.{first_is}
use Rattle.fs_dial.specs.Legs.{ends_leg}
use Rattle.fs_dial.proofs.leg.endpoint_len.Goals as goal

pub returns-clause-offset : goal.returns-clause-offset
returns-clause-offset c = c.unwrap_or.ensures ∙ first_is ends_leg _ c.memchr2.result c.memchr2.ensures
