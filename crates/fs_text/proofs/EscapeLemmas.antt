-- The set of the code holds the bytes of the definition, so that both escape alike.
use Rattle.std.proofs.Common.{◌≡◌, ◌<◌, ◌≤◌, ◌&&◌, ◌||◌, ℕ, Bool, true, false, List, [], ◌∷◌, nat_lt, nat_le, All, refl, sym, ◌∙◌, inl, inr}
use Rattle.std.proofs.Common.{arith, Result, Ok, Err, IfOk}
use Rattle.std.specs.List.{list_any}
use Rattle.std.proofs.lemmas.Bool.{agree_below_at, cases_lt, or_parts}
use Rattle.std.proofs.lemmas.Bool.Decides.{nat_tests}
use Rattle.percent_encoding.specs.AsciiSet.{should_percent_encode}
use Rattle.percent_encoding.specs.Percent.{percent_encode, percent_decode}
use Rattle.percent_encoding.proofs.PercentLemmas.{IsByte, IsEscapeByte, All-percent_encode, round_trip}
use Rattle.fs_text.specs.declared.escapes.TheConstants.{MARKS}
use Rattle.fs_text.specs.Escape.{is_escaped, IsClean, escape}

escaped_above : (b : ℕ) → 128 ≤ b → should_percent_encode MARKS b ≡ is_escaped b
unfolding should_percent_encode
escaped_above b above =
    let not_ascii : nat_lt b 128 ≡ false = grind (arith, nat_tests) in
    let not_low : nat_lt b 32 ≡ false = grind (arith, nat_tests) in
    let high : nat_lt 126 b ≡ true = grind (arith, nat_tests) in
    rw (not_ascii, not_low, high) refl

-- the two tests of a byte agree
same_test : (b : ℕ) → should_percent_encode MARKS b ≡ is_escaped b
unfolding should_percent_encode
same_test b =
    elim (cases_lt b 128) [
      | inl ascii ↦ agree_below_at (should_percent_encode MARKS) is_escaped 128 b refl ascii
      | inr above ↦ escaped_above b above
    ]

pub percent_encode-is-escape : (text : List ℕ) → percent_encode MARKS text ≡ escape text
unfolding percent_encode escape
percent_encode-is-escape [] = refl
percent_encode-is-escape (b ∷ rest) = rw (same_test b, percent_encode-is-escape rest) refl

-- text with no byte that is escaped stays as it is
pub escape_of_kept : (text : List ℕ) → list_any is_escaped text ≡ false → escape text ≡ text
unfolding escape
escape_of_kept [] none = refl
escape_of_kept (b ∷ rest) none =
    let both = or_parts (is_escaped b) (list_any is_escaped rest) none in
    rw (both.0, escape_of_kept rest both.1) refl

-- an upper-case digit of an escape
is_digit : ℕ → Bool
is_digit b = (nat_le 48 b && nat_le b 57) || (nat_le 65 b && nat_le b 70)

digit_is_kept : (b : ℕ) → b < 128 → is_digit b ≡ true → is_escaped b ≡ false
unfolding is_digit
digit_is_kept b small digit =
    let both = agree_below_at (λ b. is_digit b && is_escaped b) (λ _. false) 128 b refl small in
    rw digit at both

escape_byte_is_clean : (b : ℕ) → IsEscapeByte b → IsClean b
unfolding is_digit
escape_byte_is_clean b (inl percent) = inl percent
escape_byte_is_clean b (inr (inl decimal)) = inr (digit_is_kept b (omega arith) (grind (arith, nat_tests)))
escape_byte_is_clean b (inr (inr letter)) = inr (digit_is_kept b (omega arith) (grind (arith, nat_tests)))

escape_is_clean : (text : List ℕ) → All IsClean (escape text)
escape_is_clean text =
    rw (← percent_encode-is-escape text)
    (All-percent_encode IsClean MARKS text (λ b kept. inr (sym (same_test b) ∙ kept)) escape_byte_is_clean)

-- what is an escape has clean bytes alone
pub clean_from_escaped : {E : Type 0} (r : Result (List ℕ) E) (text : List ℕ) → IfOk r (λ t. t ≡ escape text) → IfOk r (All IsClean)
clean_from_escaped (Ok t) text same = rw same (escape_is_clean text)
clean_from_escaped (Err e) text same = tt

-- an escaped text says what it was
pub percent_decode-escape : (text : List ℕ) → All IsByte text → percent_decode (escape text) ≡ text
percent_decode-escape text bytes = rw (← percent_encode-is-escape text) (round_trip MARKS text refl bytes)
