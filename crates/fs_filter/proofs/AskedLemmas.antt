-- Words that are lent.
use Rattle.std.proofs.Common.{◌≡◌, ℕ, ◌+◌, ◌||◌, Bool, false, cond, not, List, [], ◌∷◌, take, drop, length, ◌≤◌, ltb, Option}
use Rattle.std.proofs.Common.{None, Some, is_some, unwrap_or, option_map}
use Rattle.std.proofs.Common.{refl, sym, ap, ◌∙◌, arith, Bor}
use Rattle.std.specs.List.{list_any, position, position_or_len}
use Rattle.std.proofs.lemmas.Bool.{false≢true}
use Rattle.std.proofs.lemmas.Bool.Decides.{nat_tests}
use Rattle.std.proofs.lemmas.List.Sums.{prefix_len-le-length}
use Rattle.std.proofs.lemmas.List.{take-map, drop-map}
use Rattle.fs_text.specs.Texts.{Text}
use Rattle.fs_filter.specs.Asked.{texts, asked_of, behind_first, is_custom, is_known, is_known_word}

-- some word passes a test
pub any_text : (p : Text → Bool) (words : List (Bor Text)) → list_any (λ word. p word.now) words ≡ list_any p (texts words)
any_text p [] = refl
any_text p (word ∷ words) = ap (λ rest. p word.now || rest) (any_text p words)

-- the position of the first that passes
pub text_position : (p : Text → Bool) (words : List (Bor Text)) → position_or_len (λ word. p word.now) words ≡ position_or_len p (texts words)
text_position p [] = refl
text_position p (word ∷ words) = ap (λ rest. cond (not (p word.now)) (1 + rest) 0) (text_position p words)

-- the position, or the length where none passes
pub position_is : (p : Bor Text → Bool) (words : List (Bor Text)) → unwrap_or (position p words) (length words) ≡ position_or_len p words
position_is p words = by (position_or_len p words) (length words) (prefix_len-le-length (λ word. not (p word)) words)
  where
    by : (position len : ℕ) → position ≤ len → unwrap_or (cond (ltb position len) (Some position) None) len ≡ position
    by position len h = grind (arith, nat_tests)

-- what stands before the first `CUSTOM` and behind it
pub cut_at_custom : (words : List (Bor Text)) (position : ℕ) (names from : List (Bor Text)) (subclasses : Option (Bor (List (Bor Text)))) →
    position ≡ position_or_len is_custom (texts words) → names ≡ take position words → from ≡ drop position words →
    option_map (λ s. texts s.now) subclasses ≡ behind_first (texts from) →
    record { names = texts names; subclasses = option_map (λ s. texts s.now) subclasses } ≡ asked_of (texts words)
cut_at_custom words position names from subclasses is front back behind =
    let first : texts names ≡ take (position_or_len is_custom (texts words)) (texts words) =
    ap texts front ∙ sym (take-map (λ word. word.now) position words) ∙ ap (λ n. take n (texts words)) is in
    let rest : texts from ≡ drop (position_or_len is_custom (texts words)) (texts words) =
    ap texts back ∙ sym (drop-map (λ word. word.now) position words) ∙ ap (λ n. drop n (texts words)) is in
    rw (first, behind, rest) refl

-- where no `CUSTOM` stands there, a known name is one of the names
pub known_names : (names : List (Bor Text)) (subclasses : Option (Bor (List (Bor Text)))) → is_some subclasses ≡ false →
    list_any is_known_word (texts names)
    ≡ is_known (record { names = texts names; subclasses = option_map (λ s. texts s.now) subclasses })
known_names names None none = refl
known_names names (Some s) none = absurd (false≢true (sym none))
