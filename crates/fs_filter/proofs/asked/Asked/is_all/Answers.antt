use Rattle.std.proofs.Common.{ap, ◌∙◌, rules, tests}
use Rattle.std.proofs.lemmas.Iterator.{YieldsList-from_slice}
use Rattle.std.proofs.lemmas.Iterator.Search.{any_from_yields_List}
use Rattle.fs_filter.specs.Asked.{is_all, asks_all}
use Rattle.fs_filter.proofs.AskedLemmas.{any_text}
use Rattle.fs_filter.proofs.asked.Asked.is_all.Goals as goal

pub returns : goal.returns
returns c =
    any_from_yields_List (λ word. is_all word.now) _ _ _ c.any.ensures.ran (YieldsList-from_slice c.self.inside.names.now cc)
    (λ x b q k. search (rules, tests))
    ∙ any_text is_all c.self.inside.names.now ∙ ap asks_all c.self.view_is
