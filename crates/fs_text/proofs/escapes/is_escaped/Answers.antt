use Rattle.std.proofs.Common.{false, get_or, refl, arith}
use Rattle.std.proofs.lemmas.Bool.{agree_below_at}
use Rattle.fs_text.specs.declared.escapes.TheConstants.{ESCAPED}
use Rattle.fs_text.specs.Escape.{is_escaped}
use Rattle.fs_text.proofs.escapes.is_escaped.Goals as goal

-- the table is held against the definition at each of the 256 bytes, by computing
pub returns : goal.returns
returns c = rw c.from.ensures (agree_below_at (λ b. get_or ESCAPED b false) is_escaped 256 c.args.byte refl (omega arith))
