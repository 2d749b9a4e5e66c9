use Rattle.std.proofs.Common.{◌++◌, ap, sym, subst, ◌∙◌}
use Rattle.std.specs.List.{IsDistinct}
use Rattle.fs_filter.specs.Chunks.{elements, joined}
use Rattle.fs_filter.proofs.ChunkLemmas.{joined_cut, joined_more, joined_shared, distinct_behind}
use Rattle.fs_filter.proofs.chunks.with_newest.Goals as goal

pub newest_of-requires-clause-distinct : goal.newest_of-requires-clause-distinct
newest_of-requires-clause-distinct g c =
    let eq = g.T.PartialEq.eq in
    distinct_behind eq (joined c.split_at.result.0.now) _ (subst (IsDistinct eq)
    (sym (joined_cut c.args.chunks.now _ _ _ c.args.element c.split_at.ensures.front c.split_at.ensures.back)) c.requires.distinct)

pub returns : goal.returns
returns g c =
    ap joined c.in_ok-push.ensures.items ∙ joined_more c.in_ok-all.all.items c.in_ok-newest.newest
    ∙ ap (λ keys. keys ++ elements c.in_ok-newest.newest) (joined_shared _ _ c.in_ok-all.ensures.items)
    ∙ ap (λ keys. joined c.split_at.result.0.now ++ keys) c.in_ok-newest.ensures
    ∙ joined_cut c.args.chunks.now _ _ _ c.args.element c.split_at.ensures.front c.split_at.ensures.back
