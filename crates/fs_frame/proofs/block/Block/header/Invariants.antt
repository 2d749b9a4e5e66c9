use Rattle.std.proofs.Common.{◌≡◌}
use Rattle.fs_frame.specs.Headers.{header_in, value_among}
use Rattle.fs_frame.proofs.block.Block.header.Given as goal

abbrev pub invariant-loop-other : goal.invariant-loop-other
invariant-loop-other l = value_among l.name l.other-iterator ≡ header_in l.name l.self.bytes.now
