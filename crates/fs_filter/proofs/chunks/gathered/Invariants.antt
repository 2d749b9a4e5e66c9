use Rattle.std.proofs.Common.{◌≡◌, ◌++◌, drop}
use Rattle.fs_filter.specs.Chunks.{joined}
use Rattle.fs_filter.proofs.chunks.gathered.Given as goal

-- those so far with those of the chunks that are left are all
abbrev pub invariant-loop-chunk : goal.invariant-loop-chunk
invariant-loop-chunk g l = l.all.keys ++ joined (drop l.chunk-index l.chunks) ≡ joined l.chunks
