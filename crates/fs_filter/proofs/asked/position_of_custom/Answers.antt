use Rattle.std.proofs.Common.{◌≡◌, length, unwrap_or, ap, ◌∙◌, rules, tests}
use Rattle.std.specs.List.{position}
use Rattle.std.proofs.lemmas.Iterator.{YieldsList-from_slice}
use Rattle.std.proofs.lemmas.Iterator.Search.{position_from_yields_List}
use Rattle.fs_filter.specs.Asked.{is_custom}
use Rattle.fs_filter.proofs.AskedLemmas.{position_is}
use Rattle.fs_filter.proofs.asked.position_of_custom.Goals as goal

pub returns : goal.returns
returns c =
    let found : c.position.result ≡ position (λ word. is_custom word.now) c.args.words.now =
    position_from_yields_List (λ word. is_custom word.now) _ _ c.position.result c.position.ensures.ran
    (YieldsList-from_slice c.args.words.now cc) (λ x b q k. search (rules, tests)) in
    c.unwrap_or.ensures ∙ ap (λ position. unwrap_or position (length c.args.words.now)) found
    ∙ position_is (λ word. is_custom word.now) c.args.words.now
