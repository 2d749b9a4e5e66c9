use Rattle.std.proofs.Common.{◌≡◌, ◌++◌, drop}
use Rattle.fs_filter.specs.Chunks.{elements}
use Rattle.fs_filter.proofs.chunks.put_all.Given as goal

-- those so far with those that are left are all
abbrev pub invariant-loop-element : goal.invariant-loop-element
invariant-loop-element g l = l.all.keys ++ drop l.element-index l.element-items ≡ l.fn.all.keys ++ elements l.fn.chunk
