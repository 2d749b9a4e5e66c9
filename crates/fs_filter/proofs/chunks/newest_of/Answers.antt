use Rattle.std.proofs.Common.{[], ◌∷◌, ap, ◌∙◌}
use Rattle.indexmap.specs.IndexSet.{insert_key}
use Rattle.fs_filter.specs.Chunks.{joined}
use Rattle.fs_filter.proofs.ChunkLemmas.{put_new, distinct_before}
use Rattle.fs_filter.proofs.chunks.newest_of.Goals as goal

pub gathered-requires-clause-distinct : goal.gathered-requires-clause-distinct
gathered-requires-clause-distinct g c =
    distinct_before g.T.PartialEq.eq (joined c.args.chunks.now) (c.args.element ∷ []) c.requires.distinct

pub returns : goal.returns
returns g c =
    let eq = g.T.PartialEq.eq in
    rw c.in_ok-new.ensures.ok (c.in_ok-insert.ensures.keys ∙ ap (λ keys. insert_key eq keys c.args.element) c.in_ok-newest.ensures
    ∙ put_new eq g.met.T.Eq.laws (joined c.args.chunks.now) [] c.args.element c.requires.distinct)
