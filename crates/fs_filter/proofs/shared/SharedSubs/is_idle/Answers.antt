use Rattle.std.proofs.Common.{sym, ap, ◌∙◌, unwrap_or, option_map}
use Rattle.std.specs.Arc.{arc_value}
use Rattle.fs_filter.specs.Subscriptions.{Subscription, has_event, nothing}
use Rattle.fs_filter.proofs.SubscriptionLemmas.{hears_same}
use Rattle.fs_filter.proofs.shared.SharedSubs.is_idle.Goals as goal

pub returns-in-Some : goal.returns-in-Some
returns-in-Some c =
    λ idle name subclass.
    let base : Subscription = unwrap_or (option_map arc_value c.self.inside.shared) nothing in
    ap (λ s. has_event s name subclass) (sym c.self.view_is) ∙ hears_same base c.self.inside.filters name subclass
    ∙ ap (λ shared. has_event (unwrap_or (option_map arc_value shared) nothing) name subclass) c.in-Some.is
    ∙ ap (λ s. has_event s name subclass) (sym c.deref.ensures) ∙ c.is_idle.ensures idle name subclass
