use Rattle.std.proofs.Common.{◌≡◌, [], ◌∷◌, ◌++◌, false, ap, sym, subst, ◌∙◌}
use Rattle.std.specs.List.{list_any, IsDistinct}
use Rattle.fs_filter.specs.Chunks.{joined}
use Rattle.fs_filter.proofs.ChunkLemmas.{distinct_more}
use Rattle.fs_filter.proofs.chunks.Chunks.with.Goals as goal

pub with_newest-requires-clause-distinct : goal.with_newest-requires-clause-distinct
with_newest-requires-clause-distinct g c =
    let eq = g.T.PartialEq.eq in
    let new : false ≡ list_any (eq c.args.element) (joined c.self.inside.chunks.items) =
    sym c.if-has.false ∙ c.has.ensures ∙ ap (list_any (eq c.args.element)) (sym c.self.view_is) in
    subst (λ chunks. IsDistinct eq (joined chunks ++ c.args.element ∷ [])) (sym c.as_slice.ensures.value)
    (distinct_more eq g.met.T.Eq.laws (joined c.self.inside.chunks.items) c.args.element c.self.invariant new)

pub invariant_of-result : goal.invariant_of-result
invariant_of-result g c =
    let eq = g.T.PartialEq.eq in
    let new : false ≡ list_any (eq c.args.element) (joined c.self.inside.chunks.items) =
    sym c.if-has.false ∙ c.has.ensures ∙ ap (list_any (eq c.args.element)) (sym c.self.view_is) in
    subst (IsDistinct eq) (sym (c.in_ok-chunks.ensures ∙ ap (λ chunks. joined chunks ++ c.args.element ∷ []) c.as_slice.ensures.value))
    (distinct_more eq g.met.T.Eq.laws (joined c.self.inside.chunks.items) c.args.element c.self.invariant new)
