use Rattle.std.proofs.Common.{◌||◌, Bool, ap, ◌∙◌, rules, tests}
use Rattle.std.specs.List.{filter}
use Rattle.std.proofs.lemmas.Iterator.{YieldsList-from_map, YieldsList-from_slice, items_from_collect}
use Rattle.std.proofs.lemmas.Iterator.Consumers.{YieldsList-at, YieldsList-from_filter}
use Rattle.fs_text.specs.declared.event_names.EventName.{EventName}
use Rattle.fs_filter.specs.Asked.{asks_name}
use Rattle.fs_filter.specs.Subscriptions.{has_name}
use Rattle.fs_filter.proofs.subs.with_names.Goals as goal

pub returns : goal.returns
returns c =
    let kept : EventName → Bool = λ name. has_name c.args.names.now name || asks_name c.args.asked.now name in
    rw c.in_ok-all.was at (items_from_collect _ c.collect.ensures.ran
    (YieldsList-from_filter _ kept
    (YieldsList-at c.filter.ensures.source
    (YieldsList-from_map _ (λ row. row.0) (YieldsList-from_slice c.table.result.now cc) c.map.ensures.closure
    (λ x r q k. search rules)))
    c.filter.ensures.closure (λ x r q k. search (rules, tests))))
    ∙ ap (filter kept) c.table.ensures.values
