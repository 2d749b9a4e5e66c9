use Rattle.std.proofs.Common.{◌≡◌, ap, ◌∙◌}
use Rattle.fs_filter.specs.Asked.{texts, asked_of, asked_in}
use Rattle.fs_filter.specs.Subscriptions.{with_names, subscribed}
use Rattle.fs_filter.proofs.SubscriptionLemmas.{subscribed_is}
use Rattle.fs_filter.proofs.subs.Subs.subscribe.Goals as goal

pub returns-clause-ok : goal.returns-clause-ok
returns-clause-ok c =
    let asked : c.of-asked.result ≡ asked_in c.args.names.now =
    c.of-asked.ensures ∙ ap asked_of (ap texts c.as_slice.ensures.value ∙ c.in_ok-words.ensures) in
    let names : c.in_ok-names.names.items ≡ with_names c.of-asked.result c.self.inside.names.items =
    c.in_ok-names.ensures ∙ ap (with_names c.of-asked.result) c.as_slice-2.ensures.value in
    subscribed_is _ _ _ _ _ _ _ _ _ asked names c.in_ok-self-inside.ensures c.is_known-known.ensures
    ∙ ap (subscribed (asked_in c.args.names.now)) c.self.view_is
