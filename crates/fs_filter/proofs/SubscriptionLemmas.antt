-- What one more subscription leaves.
use Rattle.std.proofs.Common.{◌≡◌, ◌==◌, ◌||◌, Bool, false, cond, ℕ, ◌+◌, ◌<◌, List, [], ◌∷◌, ◌++◌, drop, length, get_or, Some}
use Rattle.std.proofs.Common.{refl, sym, ap, ◌∙◌, drop-cons, add-one, Bor}
use Rattle.std.specs.Cmp.Lexicographic.{nat_list_eq_equiv}
use Rattle.std.specs.List.{list_any}
use Rattle.std.specs.Str.{bytes_eq}
use Rattle.std.proofs.lemmas.Bool.{false≢true}
use Rattle.indexmap.specs.IndexSet.{insert_key}
use Rattle.fs_text.specs.Texts.{Text}
use Rattle.fs_text.specs.declared.event_names.EventName.{EventName}
use Rattle.fs_text.specs.declared.event_names.EventName.TheVariants.{Custom}
use Rattle.fs_filter.specs.Asked.{Asked, texts, is_known}
use Rattle.fs_filter.specs.Subscriptions.{Subclasses, These, with_names, with_subclasses, without_names, without_subclasses}
use Rattle.fs_filter.specs.Subscriptions.{has_event, has_text, with_texts, without_behind, without_texts, Filters, has_pair, lets_through, Subscription}
use Rattle.fs_filter.specs.Subscriptions.{subscribed, unsubscribed}

-- with something behind `CUSTOM` it is taken out of a list
pub taken_out : (behind : List (Bor Text)) (known : List Text) → false ≡ (length behind == 0) →
    These (without_texts known (texts behind)) ≡ without_behind (Some (texts behind)) (These known)
taken_out [] known some = absurd (false≢true some)
taken_out (text ∷ behind) known some = refl

-- where there are filters one of them has to fit
pub one_fits : (filters : Filters) (headers : List (Text × Text)) → false ≡ (length filters == 0) →
    list_any (has_pair headers) filters ≡ lets_through filters headers
one_fits filters headers some = rw (← some) refl

-- each part with what is asked for
pub subscribed_is : (asked whole : Asked) (names all : List EventName) (subclasses more : Subclasses) (listening known : Bool)
    (filters : Filters) →
    asked ≡ whole → all ≡ with_names asked names → more ≡ with_subclasses asked subclasses → known ≡ is_known asked →
    record { names = all; subclasses = more; listening = listening || known; filters = filters }
    ≡ subscribed whole (record { names = names; subclasses = subclasses; listening = listening; filters = filters })
subscribed_is asked whole names all subclasses more listening known filters is there behind knows =
    let of : List EventName → Subclasses → Bool → Subscription = λ n s k.
    record { names = n; subclasses = s; listening = listening || k; filters = filters } in
    ap (λ n. of n more known) there ∙ ap (λ s. of (with_names asked names) s known) behind
    ∙ ap (of (with_names asked names) (with_subclasses asked subclasses)) knows
    ∙ ap (λ a. subscribed a (record { names = names; subclasses = subclasses; listening = listening; filters = filters })) is

-- each part without it
pub unsubscribed_is : (asked whole : Asked) (names left : List EventName) (subclasses less : Subclasses) (listening : Bool)
    (filters : Filters) →
    asked ≡ whole → left ≡ without_names asked names → less ≡ without_subclasses asked subclasses →
    record { names = left; subclasses = less; listening = listening; filters = filters }
    ≡ unsubscribed whole (record { names = names; subclasses = subclasses; listening = listening; filters = filters })
unsubscribed_is asked whole names left subclasses less listening filters is there behind = rw (← is, there, behind) refl

-- a text is among these from either side
pub same_among : (known : List Text) (text : Text) → list_any (bytes_eq text) known ≡ has_text known text
same_among [] text = refl
same_among (other ∷ known) text = (λ j. nat_list_eq_equiv.symm text other j || same_among known text j)

-- the next text, if it is new
pub with_next : (known whole : List Text) (others : List (Bor Text)) (i : ℕ) (d : Bor Text) → i < length others →
    with_texts known (texts (drop i others)) ≡ whole →
    with_texts (insert_key bytes_eq known (get_or others i d).now) (texts (drop (i + 1) others)) ≡ whole
with_next known whole others i d below so_far =
    let text = get_or others i d in
    let next : drop i others ≡ text ∷ drop (i + 1) others = drop-cons others i d below ∙ ap (λ n. text ∷ drop n others) (sym (add-one i)) in
    ap (λ there. with_texts (cond there known (known ++ text.now ∷ [])) (texts (drop (i + 1) others))) (same_among known text.now)
    ∙ ap (λ l. with_texts known (texts l)) (sym next) ∙ so_far

-- what events are subscribed does not hang on the filters
pub hears_same : (s : Subscription) (filters : Filters) (name : EventName) (subclass : Text) →
    has_event (record s { filters = filters }) name subclass ≡ has_event s name subclass
hears_same s filters Custom subclass = refl
hears_same s filters _ subclass = refl
