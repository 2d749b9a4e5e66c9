use Rattle.std.proofs.Common.{not, ap, ◌∙◌, rules, tests}
use Rattle.std.proofs.lemmas.Fn.{filter_same}
use Rattle.fs_filter.specs.Asked.{lent}
use Rattle.fs_filter.specs.Subscriptions.{is_meant, without_filter}
use Rattle.fs_filter.proofs.filters.Filters.remove.Goals as goal

pub returns-clause-rest : goal.returns-clause-rest
returns-clause-rest c =
    filter_same _ (λ pair. not (is_meant c.args.header.now (lent c.args.value) pair)) _ (λ x b f' k. search (rules, tests)) _ _
    c.retain.ensures.filtered
    ∙ ap (λ filters. without_filter filters c.args.header.now (lent c.args.value)) c.self.view_is
