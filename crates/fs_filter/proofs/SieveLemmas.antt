-- What filters say that see headers one by one is what they say of all of them.
use Rattle.std.proofs.Common.{◌≡◌, ◌||◌, Bool, true, false, List, [], ◌∷◌, refl, ap, sym, ◌∙◌}
use Rattle.std.specs.List.{list_any}
use Rattle.fs_text.specs.Headers.{taking}
use Rattle.fs_text.specs.Texts.{Text}
use Rattle.fs_filter.specs.Subscriptions.{Filters, Sieve, sieve_of, sifted, is_asked, same_pair, has_pair, lets_through}

or_assoc : (a b c : Bool) → ((a || b) || c) ≡ (a || (b || c))
or_assoc true b c = refl
or_assoc false b c = refl

or_false : (a : Bool) → (a || false) ≡ a
or_false true = refl
or_false false = refl

or_swap : (a b p q : Bool) → ((a || b) || (p || q)) ≡ ((a || p) || (b || q))
or_swap true b p q = refl
or_swap false true true q = refl
or_swap false true false q = refl
or_swap false false true q = refl
or_swap false false false q = refl

-- no header is any filter
none_seen : (filters : Filters) → list_any (has_pair []) filters ≡ false
none_seen [] = refl
none_seen (filter ∷ filters) = none_seen filters

-- one more header is a filter, or one of the others is
one_more : (header : Text × Text) (headers : List (Text × Text)) (filters : Filters) →
    list_any (has_pair (header ∷ headers)) filters ≡ (is_asked filters header || list_any (has_pair headers) filters)
one_more header headers [] = refl
one_more header headers (filter ∷ filters) =
    ap (λ more. (same_pair header filter || has_pair headers filter) || more) (one_more header headers filters)
    ∙ or_swap (same_pair header filter) (has_pair headers filter) (is_asked filters header) (list_any (has_pair headers) filters)

-- what was let through before, or is by one of these
sifted_open : (headers : List (Text × Text)) (sieve : Sieve) →
    (taking sifted headers sieve).passed ≡ (sieve.passed || list_any (has_pair headers) sieve.filters)
sifted_open [] sieve = sym (ap (λ none. sieve.passed || none) (none_seen sieve.filters) ∙ or_false sieve.passed)
sifted_open (header ∷ headers) sieve =
    sifted_open headers (sifted header sieve)
    ∙ or_assoc sieve.passed (is_asked sieve.filters header) (list_any (has_pair headers) sieve.filters)
    ∙ ap (λ more. sieve.passed || more) (sym (one_more header headers sieve.filters))

-- filters that saw all of these let through what they let through of all of them at once
pub sifted_lets : (headers : List (Text × Text)) (filters : Filters) →
    (taking sifted headers (sieve_of filters)).passed ≡ lets_through filters headers
sifted_lets headers filters = sifted_open headers (sieve_of filters)

-- once they let through they do so
pub passed_lets : (headers : List (Text × Text)) (filters : Filters) → (sieve_of filters).passed ≡ true → lets_through filters headers ≡ true
passed_lets headers filters passed = ap (λ passed. passed || list_any (has_pair headers) filters) passed
