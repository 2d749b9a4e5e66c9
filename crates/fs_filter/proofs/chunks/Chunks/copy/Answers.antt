use Rattle.std.proofs.Common.{◌≡◌, ◌∙◌, ap, sym, subst}
use Rattle.std.specs.List.{IsDistinct}
use Rattle.fs_filter.specs.Chunks.{joined}
use Rattle.fs_filter.proofs.ChunkLemmas.{joined_shared}
use Rattle.fs_filter.proofs.chunks.Chunks.copy.Goals as goal

pub invariant_of-result : goal.invariant_of-result
invariant_of-result g c =
    let same : joined c.in_ok-chunks.chunks.items ≡ joined c.self.inside.chunks.items =
    joined_shared _ _ c.in_ok-chunks.ensures.items ∙ ap joined c.as_slice.ensures.value in
    subst (IsDistinct g.T.PartialEq.eq) (sym same) c.self.invariant

pub returns : goal.returns
returns g c = joined_shared _ _ c.in_ok-chunks.ensures.items ∙ ap joined c.as_slice.ensures.value ∙ c.self.view_is
