-- What begins with a text begins with what that text begins with.
use Rattle.std.proofs.Common.{◌≡◌, ℕ, true, List, [], ◌∷◌, ◌++◌, length, drop, Vec, Global, refl, ap, ◌∙◌, subst, append_assoc, nat_eq}
use Rattle.std.proofs.Common.{take, get_or, ◌<◌, ◌+◌}
use Rattle.std.specs.List.{All, starts_with}
use Rattle.std.proofs.lemmas.Bool.Decides.{Decides-eqb}
use Rattle.std.proofs.lemmas.List.{take-append-drop}
use Rattle.std.proofs.lemmas.List.Elements.{All-more}
use Rattle.std.proofs.lemmas.List.Folds.{Any-from_list_any}
use Rattle.std.proofs.lemmas.Slice.Eq.{starts_is}
use Rattle.fs_lead.specs.Leads.{begins_with_any}

pub begins_through : (value text shared : List ℕ) → starts_with nat_eq value text ≡ true → starts_with nat_eq text shared ≡ true →
    starts_with nat_eq value shared ≡ true
begins_through value text shared p q =
    let outer = (starts_is Decides-eqb value text _ refl).0 p in
    let inner = (starts_is Decides-eqb text shared _ refl).0 q in
    (starts_is Decides-eqb value shared _ refl).1 (drop (length shared) text ++ drop (length text) value)
    (outer ∙ ap (λ t. t ++ drop (length text) value) inner ∙ append_assoc shared _ _)

-- each of these texts begins with the shared one
pub record AllBegin (shared : List ℕ) (texts : List (Vec ℕ Global)) : Type 0 where
  pub each : All (λ text. starts_with nat_eq text.items shared ≡ true) texts

all_begin_through : (texts : List (Vec ℕ Global)) (before shared : List ℕ) → AllBegin before texts →
    starts_with nat_eq before shared ≡ true →
    AllBegin shared texts
all_begin_through texts before shared p q = record { each = λ k d lt. begins_through _ before shared (p.each k d lt) q }

pub one_begins : (texts : List (Vec ℕ Global)) (shared value : List ℕ) → All (λ text. starts_with nat_eq text.items shared ≡ true) texts →
    begins_with_any texts value ≡ true → starts_with nat_eq value shared ≡ true
one_begins texts shared value all h =
    let found = Any-from_list_any _ texts h in
    begins_through value found.1.items shared found.4
    (subst (λ (text : Vec ℕ Global). starts_with nat_eq text.items shared ≡ true) found.3 (all found.0 found.1 found.2))

pub kept_alone : (kept : List (Vec ℕ Global)) (text : Vec ℕ Global) (value : List ℕ) → kept ≡ text ∷ [] →
    starts_with nat_eq value text.items ≡ true →
    begins_with_any kept value ≡ true
kept_alone kept text value is begins = rw (is, begins) refl

-- a text begins with its first bytes
pub front_begins : (text front : List ℕ) (i : ℕ) → front ≡ take i text → starts_with nat_eq text front ≡ true
front_begins text front i is =
    (starts_is Decides-eqb text front _ refl).1 (drop i text) (rw is (rw take-append-drop refl))

-- ---- as many of the texts as were looked at

pub more_begin : (texts : List (Vec ℕ Global)) (i : ℕ) (d : Vec ℕ Global) (before shared : List ℕ) → i < length texts →
    AllBegin before (take i texts) →
    starts_with nat_eq before shared ≡ true → starts_with nat_eq (get_or texts i d).items shared ≡ true →
    AllBegin shared (take (i + 1) texts)
more_begin texts i d before shared lt p q here = record {
  each =
      All-more (λ text. starts_with nat_eq text.items shared ≡ true) texts i d lt
      (all_begin_through (take i texts) before shared p q).each here;
}
