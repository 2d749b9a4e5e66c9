-- What subscriptions come to, for each name and each subclass.
use Rattle.std.proofs.Common.{◌≡◌, ◌==◌, ◌||◌, ◌&&◌, not, Bool, true, false, cond, List, [], ◌∷◌, ◌++◌, Option, None, Some}
use Rattle.std.proofs.Common.{unwrap_or, refl, sym, ap, ◌∙◌}
use Rattle.std.specs.List.{list_any, filter}
use Rattle.std.specs.Str.{bytes_eq}
use Rattle.std.proofs.Math.Bool.{and-false, and-true, or-false, or-true}
use Rattle.std.proofs.lemmas.Bool.Decides.{Decides-eqb}
use Rattle.std.proofs.lemmas.List.Folds.{list_any-append}
use Rattle.std.proofs.lemmas.Slice.Eq.{bytes_eq-Decides}
use Rattle.fs_text.specs.Texts.{Text}
use Rattle.fs_text.specs.EventName.{all_events, event_row, event_number}
use Rattle.fs_text.specs.declared.event_names.EventName.{EventName}
use Rattle.fs_text.specs.declared.event_names.EventName.TheVariants.{Custom}
use Rattle.fs_text.proofs.TheTables.{event_table}
use Rattle.fs_filter.specs.Asked.{asks_all, asks_name}
use Rattle.fs_filter.specs.Subscriptions.{Subclasses, All, These, has_name, has_text, has_subclass, with_texts, without_texts}
use Rattle.fs_filter.specs.Subscriptions.{with_behind, without_behind}
use Rattle.fs_filter.specs.Laws.{NameIsAdded, NameIsTaken, SubclassIsAdded, SubclassIsTaken, AllAreTaken, is_alone}

-- ---- what a filter keeps

-- one more element, which passes or not, and is the one that is looked for or not
one_more : (found passes kept rest all : Bool) → (found ≡ true → passes ≡ kept) → rest ≡ (all && kept) →
    cond passes (found || rest) rest ≡ ((found || all) && kept)
one_more true true kept rest all same h = same refl
one_more true false kept rest all same h = h ∙ ap (λ b. all && b) (sym (same refl)) ∙ and-false all ∙ same refl
one_more false true kept rest all same h = h
one_more false false kept rest all same h = h

-- what is looked for is among what a filter keeps where it was there and passes
found_kept : {X : Type 0} (looked passes : X → Bool) (kept : Bool) → ((x : X) → looked x ≡ true → passes x ≡ kept) → (xs : List X) →
    list_any looked (filter passes xs) ≡ (list_any looked xs && kept)
found_kept looked passes kept same [] = refl
found_kept looked passes kept same (x ∷ xs) =
    by (passes x) ∙ one_more (looked x) (passes x) kept _ _ (same x) (found_kept looked passes kept same xs)
  where
    by : (b : Bool) → list_any looked (cond b (x ∷ filter passes xs) (filter passes xs))
        ≡ cond b (looked x || list_any looked (filter passes xs)) (list_any looked (filter passes xs))
    by true = refl
    by false = refl

-- ---- names

same_name : (one other : EventName) → (event_number one == event_number other) ≡ true → one ≡ other
same_name one other same = event_table.numbers one other ((Decides-eqb (event_number one) (event_number other)).0 same)

each_is_there : (name : EventName) → has_name all_events name ≡ true
unfolding event_row
each_is_there Custom = refl
each_is_there _ = refl

pub name_is_added : NameIsAdded
name_is_added asked s name =
    let kept : EventName → Bool = λ n. has_name s.names n || asks_name asked n in
    found_kept (λ n. event_number n == event_number name) kept (kept name) (λ n same. ap kept (same_name n name same)) all_events
    ∙ ap (λ b. b && kept name) (each_is_there name)

pub name_is_taken : NameIsTaken
name_is_taken asked s name =
    let kept : EventName → Bool = λ n. not (asks_name asked n) in
    found_kept (λ n. event_number n == event_number name) kept (kept name) (λ n same. ap kept (same_name n name same)) s.names

-- ---- subclasses

same_text : (one other : Text) → bytes_eq one other ≡ true → one ≡ other
same_text one other same = (bytes_eq-Decides one other).0 same

-- a text is among these with the new ones where it is among either
pub text_is_added : (texts known : List Text) (text : Text) →
    has_text (with_texts known texts) text ≡ (has_text known text || has_text texts text)
text_is_added [] known text = sym (or-false (has_text known text))
text_is_added (new ∷ texts) known text =
    text_is_added texts (cond (has_text known new) known (known ++ new ∷ [])) text ∙ by (has_text known new) refl
  where
    ends : (a b c : Bool) → ((a || (b || false)) || c) ≡ (a || (b || c))
    ends true b c = refl
    ends false true c = refl
    ends false false c = refl

    there : (b : Bool) → bytes_eq new text ≡ b → has_text known new ≡ true →
        (has_text known text || has_text texts text) ≡ (has_text known text || (b || has_text texts text))
    there true same h = rw (← same_text new text same, h) refl
    there false same h = refl

    by : (b : Bool) → has_text known new ≡ b →
        (has_text (cond b known (known ++ new ∷ [])) text || has_text texts text)
        ≡ (has_text known text || (bytes_eq new text || has_text texts text))
    by true h = there (bytes_eq new text) refl h
    by false h =
        ap (λ b. b || has_text texts text) (list_any-append (λ other. bytes_eq other text) known (new ∷ []))
        ∙ ends (has_text known text) (bytes_eq new text) (has_text texts text)

text_is_taken : (texts known : List Text) (text : Text) →
    has_text (without_texts known texts) text ≡ (has_text known text && not (has_text texts text))
text_is_taken texts known text =
    let kept : Text → Bool = λ other. not (has_text texts other) in
    found_kept (λ other. bytes_eq other text) kept (kept text) (λ other same. ap kept (same_text other text same)) known

added : (all : Bool) (behind : Option (List Text)) (subclasses : Subclasses) (text : Text) →
    has_subclass (cond all All (with_behind behind subclasses)) text
    ≡ (has_subclass subclasses text || (all || has_text (unwrap_or behind []) text))
added true behind subclasses text = sym (or-true (has_subclass subclasses text))
added false None subclasses text = sym (or-false (has_subclass subclasses text))
added false (Some texts) All text = refl
added false (Some texts) (These known) text = text_is_added texts known text

taken : (all : Bool) (behind : Option (List Text)) (known : List Text) (text : Text) →
    has_subclass (cond all (These []) (without_behind behind (These known))) text
    ≡ (has_text known text && not ((all || is_alone behind) || (all || has_text (unwrap_or behind []) text)))
taken true behind known text = sym (and-false (has_text known text))
taken false None known text = sym (and-true (has_text known text))
taken false (Some []) known text = sym (and-false (has_text known text))
taken false (Some (new ∷ texts)) known text = text_is_taken (new ∷ texts) known text

all_taken : (all : Bool) (behind : Option (List Text)) (text : Text) →
    has_subclass (cond all (These []) (without_behind behind All)) text ≡ not (all || is_alone behind)
all_taken true behind text = refl
all_taken false None text = refl
all_taken false (Some []) text = refl
all_taken false (Some (new ∷ texts)) text = refl

pub subclass_is_added : SubclassIsAdded
subclass_is_added asked s text = added (asks_all asked) asked.subclasses s.subclasses text

pub subclass_is_taken : SubclassIsTaken
subclass_is_taken asked s known text is = rw is (taken (asks_all asked) asked.subclasses known text)

pub all_are_taken : AllAreTaken
all_are_taken asked s text is = rw is (all_taken (asks_all asked) asked.subclasses text)
