use Rattle.std.proofs.Common.{arith}
use Rattle.fs_frame.proofs.ScanLaws.{without_cr-cr, without_cr-other}
use Rattle.fs_frame.proofs.scan.text_len.Goals as goal

pub returns-in-13-clause-text : goal.returns-in-13-clause-text
returns-in-13-clause-text c = without_cr-cr c.args.content.now c.in-13.len_at_least (omega arith)

pub returns-in_default-2-clause-text : goal.returns-in_default-2-clause-text
returns-in_default-2-clause-text c = without_cr-other c.args.content.now (λ some. omega arith)
