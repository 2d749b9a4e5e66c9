use Rattle.std.proofs.Common.{arith}
use Rattle.fs_text.specs.Words.{is_byte}
use Rattle.fs_text.proofs.Cuts.{offset_within}
use Rattle.fs_doc.proofs.globals.plain_len.Goals as goal

pub returns-clause-within : goal.returns-clause-within
returns-clause-within c = omega (arith, c.offset_of.ensures, offset_within (is_byte 36) c.args.text.now)
