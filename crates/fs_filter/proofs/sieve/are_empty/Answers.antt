use Rattle.std.proofs.Common.{◌==◌, length, ◌∙◌, rules, tests}
use Rattle.std.proofs.lemmas.Iterator.{YieldsList-from_slice}
use Rattle.std.proofs.lemmas.Iterator.Search.{all_from_yields_List}
use Rattle.fs_filter.specs.Chunks.{elements}
use Rattle.fs_filter.proofs.ChunkLemmas.{none_joined}
use Rattle.fs_filter.proofs.sieve.are_empty.Goals as goal

pub returns : goal.returns
returns c =
    all_from_yields_List (λ chunk. length (elements chunk) == 0) _ _ _ c.all.ensures.ran (YieldsList-from_slice c.args.chunks.now cc)
    (λ x b q k. search (rules, tests))
    ∙ none_joined c.args.chunks.now
