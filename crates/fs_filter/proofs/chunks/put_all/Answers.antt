use Rattle.std.proofs.Common.{◌≡◌, ◌+◌, ◌++◌, drop, ap, ◌∙◌, rules}
use Rattle.indexmap.specs.IndexSet.{insert_key}
use Rattle.fs_filter.proofs.ChunkLemmas.{put_next}
use Rattle.fs_filter.proofs.chunks.put_all.Goals as goal

pub loop-element-preserved : goal.loop-element-preserved
loop-element-preserved g c =
    let eq = g.T.PartialEq.eq in
    let same : c.in_ok-clone.field-0 ≡ c.element-item.result = c.requires.clones _ _ (search rules) in
    let items = c.as_slice-element-items.result.now in
    ap (λ keys. keys ++ drop (c.loop-element.element-index + 1) items)
    (c.in_ok-insert.ensures.keys ∙ ap (insert_key eq c.loop-element.all.keys) same)
    ∙ put_next eq g.met.T.Eq.laws _ items _ _ _ c.requires.distinct c.loop-element-test.true c.element-item.is c.loop-element.invariant
