use Rattle.std.proofs.Common.{◌≡◌, ◌+◌, false, drop}
use Rattle.fs_api.specs.Words as spec
use Rattle.fs_api.proofs.words.quoted_len.Given as goal

abbrev pub invariant-loop-offset : goal.invariant-loop-offset
invariant-loop-offset l = spec.quoted_len l.inside (drop l.offset l.text) + l.offset ≡ spec.quoted_len false l.text
