use Rattle.std.proofs.Common.{◌≡◌, take}
use Rattle.std.specs.List.{list_any}
use Rattle.fs_text.specs.Escape.{is_escaped}
use Rattle.fs_text.proofs.escapes.has_escaped.Given as goal

-- whether a byte so far is escaped
abbrev pub invariant-loop-byte : goal.invariant-loop-byte
invariant-loop-byte l = l.any ≡ list_any is_escaped (take l.byte-index l.bytes)
