use Rattle.std.proofs.Common.{◌∙◌, rules, tests}
use Rattle.std.specs.Str.{bytes_eq}
use Rattle.std.proofs.lemmas.Iterator.{YieldsList-from_slice}
use Rattle.std.proofs.lemmas.Iterator.Search.{any_from_yields_List}
use Rattle.fs_filter.specs.Chunks.{elements}
use Rattle.fs_filter.specs.Subscriptions.{has_text}
use Rattle.fs_filter.proofs.ChunkLemmas.{any_joined}
use Rattle.fs_filter.proofs.subclasses.has_text.Goals as goal

pub returns : goal.returns
returns c =
    any_from_yields_List (λ chunk. has_text (elements chunk) c.args.text.now) _ _ _ c.any.ensures.ran
    (YieldsList-from_slice c.args.known.now cc) (λ x b q k. search (rules, tests))
    ∙ any_joined (λ other. bytes_eq other c.args.text.now) c.args.known.now
