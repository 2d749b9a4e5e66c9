use Rattle.std.proofs.Common.{◌∙◌, rules, tests}
use Rattle.std.proofs.lemmas.Iterator.{YieldsList-from_slice}
use Rattle.std.proofs.lemmas.Iterator.Search.{any_from_yields_List}
use Rattle.fs_filter.specs.Chunks.{elements}
use Rattle.fs_filter.specs.Subscriptions.{is_asked, same_pair}
use Rattle.fs_filter.proofs.ChunkLemmas.{any_joined}
use Rattle.fs_filter.proofs.sieve.is_asked_in.Goals as goal

pub returns : goal.returns
returns c =
    any_from_yields_List (λ chunk. is_asked (elements chunk) (c.args.name.now, c.args.value.now)) _ _ _ c.any.ensures.ran
    (YieldsList-from_slice c.args.chunks.now cc) (λ x b q k. search (rules, tests))
    ∙ any_joined (same_pair (c.args.name.now, c.args.value.now)) c.args.chunks.now
