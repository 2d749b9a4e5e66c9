use Rattle.std.proofs.Common.{◌+◌, ◌++◌, drop, ap, sym, subst, ◌∙◌}
use Rattle.std.specs.List.{IsDistinct}
use Rattle.fs_filter.specs.Chunks.{joined}
use Rattle.fs_filter.proofs.ChunkLemmas.{gathered_next, distinct_before}
use Rattle.fs_filter.proofs.chunks.gathered.Goals as goal

pub loop-chunk-preserved : goal.loop-chunk-preserved
loop-chunk-preserved g c =
    ap (λ keys. keys ++ joined (drop (c.loop-chunk.chunk-index + 1) c.args.chunks.now)) c.in_ok-put_all.ensures
    ∙ gathered_next _ _ c.args.chunks.now _ c.chunk-item.result c.loop-chunk-test.true c.chunk-item.is c.loop-chunk.invariant

pub put_all-requires-clause-distinct : goal.put_all-requires-clause-distinct
put_all-requires-clause-distinct g c =
    let eq = g.T.PartialEq.eq in
    distinct_before eq _ (joined (drop (c.loop-chunk.chunk-index + 1) c.args.chunks.now))
    (subst (IsDistinct eq)
    (sym (gathered_next _ _ c.args.chunks.now _ c.chunk-item.result c.loop-chunk-test.true c.chunk-item.is c.loop-chunk.invariant))
    c.requires.distinct)
