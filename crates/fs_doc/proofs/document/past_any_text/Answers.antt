use Rattle.std.proofs.Common.{arith}
use Rattle.fs_text.specs.Words.{is_byte}
use Rattle.fs_text.proofs.Cuts.{offset_within}
use Rattle.fs_doc.proofs.document.past_any_text.Goals as goal

pub split_at-requires : goal.split_at-requires
split_at-requires c = omega (arith, c.offset_of.ensures, offset_within (is_byte 60) c.args.text.now)
