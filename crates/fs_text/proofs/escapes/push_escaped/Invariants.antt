use Rattle.std.proofs.Common.{◌≡◌, ◌++◌}
use Rattle.percent_encoding.specs.Iter.{encoded_text}
use Rattle.fs_text.specs.Escape.{escape}
use Rattle.fs_text.proofs.escapes.push_escaped.Given as goal

-- what was added and what is left are all escapes
abbrev pub invariant-loop-piece : goal.invariant-loop-piece
invariant-loop-piece l = l.text.items ++ encoded_text l.piece-iterator ≡ l.fn.text.items ++ escape l.fn.bytes
