use Rattle.std.proofs.Common.{◌≡◌, not, ap, ◌∙◌, rules, tests}
use Rattle.std.proofs.lemmas.Fn.{filter_same}
use Rattle.fs_filter.specs.Asked.{texts, asked_of, asked_in, asks_name}
use Rattle.fs_filter.specs.Subscriptions.{without_names, unsubscribed}
use Rattle.fs_filter.proofs.SubscriptionLemmas.{unsubscribed_is}
use Rattle.fs_filter.proofs.subs.Subs.nix.Goals as goal

pub returns-clause-ok : goal.returns-clause-ok
returns-clause-ok c =
    let asked : c.of-asked.result ≡ asked_in c.args.names.now =
    c.of-asked.ensures ∙ ap asked_of (ap texts c.as_slice.ensures.value ∙ c.in_ok-words.ensures) in
    let names : c.retain.new.self.items ≡ without_names c.of-asked.result c.self.inside.names.items =
    filter_same _ (λ name. not (asks_name c.of-asked.result name)) _ (λ x b f' k. search (rules, tests)) _ _
    c.retain.ensures.filtered in
    unsubscribed_is _ _ _ _ _ _ _ _ asked names c.in_ok-self-inside.ensures ∙ ap (unsubscribed (asked_in c.args.names.now)) c.self.view_is
