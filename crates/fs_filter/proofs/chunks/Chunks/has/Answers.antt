use Rattle.std.proofs.Common.{◌∙◌, ap, rules, tests}
use Rattle.std.specs.List.{list_any}
use Rattle.std.proofs.lemmas.Iterator.{YieldsList-from_slice}
use Rattle.std.proofs.lemmas.Iterator.Search.{any_from_yields_List}
use Rattle.fs_filter.specs.Chunks.{elements}
use Rattle.fs_filter.proofs.ChunkLemmas.{any_joined}
use Rattle.fs_filter.proofs.chunks.Chunks.has.Goals as goal

pub returns : goal.returns
returns g c =
    let same = g.T.PartialEq.eq c.args.element.now in
    any_from_yields_List (λ chunk. list_any same (elements chunk)) _ _ _ c.any.ensures.ran
    (YieldsList-from_slice c.deref.result.now cc) (λ x b q k. search (rules, tests))
    ∙ ap (list_any (λ chunk. list_any same (elements chunk))) c.deref.ensures.value
    ∙ any_joined same c.self.inside.chunks.items ∙ ap (list_any same) c.self.view_is
