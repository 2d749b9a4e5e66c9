use Rattle.std.proofs.Common.{◌∙◌}
use Rattle.fs_text.proofs.Offsets.{first_is}
use Rattle.fs_xml.specs.Entities.{is_special}
use Rattle.fs_xml.proofs.value.plain_len.Goals as goal

pub returns-clause-offset : goal.returns-clause-offset
returns-clause-offset c = c.unwrap_or.ensures ∙ first_is is_special _ c.memchr2.result c.memchr2.ensures
