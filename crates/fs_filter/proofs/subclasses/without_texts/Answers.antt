use Rattle.std.proofs.Common.{◌≡◌, [], not, filter, subst, ap, ◌∙◌, IfOk, rules, tests}
use Rattle.std.specs.List.{list_any}
use Rattle.std.specs.Str.{bytes_eq}
use Rattle.std.proofs.lemmas.Fn.{filter_same}
use Rattle.fs_text.specs.Texts.{Text}
use Rattle.fs_filter.specs.Asked.{texts}
use Rattle.fs_filter.specs.Subscriptions.{has_text, with_texts, without_texts}
use Rattle.fs_filter.proofs.SetLemmas.{text_is_added}
use Rattle.fs_filter.proofs.SubscriptionLemmas.{same_among}
use Rattle.fs_filter.proofs.subclasses.without_texts.Goals as goal

pub returns : goal.returns
returns c =
    let others = texts c.args.others.now in
    let taken : (text : Text) → list_any (bytes_eq text) c.in_ok-taken.taken ≡ has_text others text =
    (λ text. same_among c.in_ok-taken.taken text
    ∙ ap (λ known. has_text known text) (c.in_ok-taken.ensures ∙ ap (λ known. with_texts known others) c.new.ensures)
    ∙ text_is_added others [] text) in
    let rest : c.retain.new.self.keys ≡ without_texts c.args.known.now others =
    filter_same _ (λ text. not (list_any (bytes_eq text) c.in_ok-taken.taken)) _ (λ x b f' k. search (rules, tests)) _ _
    c.retain.ensures.filtered
    ∙ ap (filter (λ text. not (list_any (bytes_eq text) c.in_ok-taken.taken))) c.in_ok-rest.ensures
    ∙ (λ j. filter (λ text. not (taken text j)) c.args.known.now) in
    subst (λ keys. IfOk c.of.result (λ chunks. chunks ≡ keys)) rest c.of.ensures
