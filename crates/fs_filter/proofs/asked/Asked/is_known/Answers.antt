use Rattle.std.proofs.Common.{ap, ◌∙◌, rules, tests}
use Rattle.std.proofs.lemmas.Iterator.{YieldsList-from_slice}
use Rattle.std.proofs.lemmas.Iterator.Search.{any_from_yields_List}
use Rattle.fs_filter.specs.Asked.{is_known, is_known_word}
use Rattle.fs_filter.proofs.AskedLemmas.{any_text, known_names}
use Rattle.fs_filter.proofs.asked.Asked.is_known.Goals as goal

pub returns-else-is_some : goal.returns-else-is_some
returns-else-is_some c =
    any_from_yields_List (λ word. is_known_word word.now) _ _ _ c.any.ensures.ran (YieldsList-from_slice c.self.inside.names.now cc)
    (λ x b q k. search (rules, tests))
    ∙ any_text is_known_word c.self.inside.names.now ∙ known_names c.self.inside.names.now c.self.inside.subclasses (search (rules, tests))
    ∙ ap is_known c.self.view_is
