use Rattle.std.proofs.Common.{◌||◌, ap, ◌∙◌, rules, tests}
use Rattle.std.specs.Str.{bytes_eq}
use Rattle.std.proofs.lemmas.Iterator.{YieldsList-from_slice}
use Rattle.std.proofs.lemmas.Iterator.Search.{any_from_yields_List}
use Rattle.fs_text.specs.EventName.{event_name}
use Rattle.fs_filter.specs.Asked.{is_all, asks_name}
use Rattle.fs_filter.proofs.AskedLemmas.{any_text}
use Rattle.fs_filter.proofs.asked.Asked.has_name.Goals as goal

pub returns : goal.returns
returns c =
    any_from_yields_List (λ word. is_all word.now || bytes_eq (event_name c.args.name) word.now) _ _ _ c.any.ensures.ran
    (YieldsList-from_slice c.self.inside.names.now cc) (λ x b q k. search (rules, tests))
    ∙ any_text (λ word. is_all word || bytes_eq (event_name c.args.name) word) c.self.inside.names.now
    ∙ ap (λ asked. asks_name asked c.args.name) c.self.view_is
