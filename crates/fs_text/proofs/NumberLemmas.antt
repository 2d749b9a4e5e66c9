-- What a text of digits reads as.
use Rattle.std.proofs.Common.{◌≡◌, ◌<◌, ◌≤◌, ◌^◌, ℕ, true, false, List, length, rules, refl, sym, ap, ◌∙◌, Some, None, Result, Ok, Err}
use Rattle.std.proofs.Common.{arith, inl, inr}
use Rattle.std.specs.Char.{is_ascii_digit}
use Rattle.std.specs.List.{list_all}
use Rattle.std.specs.Result.{result_ok, MatchResult, IsOk}
use Rattle.std.specs.Fmt.{decimal}
use Rattle.std.specs.Str.{IsUtf8}
use Rattle.std.specs.Str.Parse.{digits_value, ParsesUnsigned}
use Rattle.std.proofs.lemmas.Bool.{cases_Bool}
use Rattle.std.proofs.lemmas.Bool.Decides.{nat_tests}
use Rattle.std.proofs.lemmas.Str.Parse.{IsNumeralModel, numerals_by_value, parse_digits}
use Rattle.std.proofs.lemmas.Fmt.{IsAscii-from_digits, digits_decimal, digits_value-decimal, decimal_nonempty, length-decimal-le}
use Rattle.std.proofs.lemmas.Str.{IsUtf8-from_ascii}
use Rattle.fs_text.specs.Number.{is_u64, read_u64}

digits : IsNumeralModel (λ text. list_all is_ascii_digit text ≡ true) (digits_value 10)
digits = numerals_by_value _ (search rules)

pub digits_are_text : (text : List ℕ) → list_all is_ascii_digit text ≡ true → IsUtf8 text
digits_are_text text all = IsUtf8-from_ascii text (IsAscii-from_digits text (digits.to text all))

pub too_long : (text : List ℕ) → 20 < length text → None ≡ read_u64 text
unfolding read_u64
too_long text long = grind (arith, nat_tests)

pub not_digits : (text : List ℕ) → list_all is_ascii_digit text ≡ false → None ≡ read_u64 text
unfolding read_u64
not_digits text other = grind (arith, nat_tests)

fits : (text : List ℕ) → is_u64 text ≡ true → Some (digits_value 10 text) ≡ read_u64 text
unfolding read_u64
fits text does = rw does refl

fits_not : (text : List ℕ) → is_u64 text ≡ false → None ≡ read_u64 text
unfolding read_u64
fits_not text does_not = rw does_not refl

-- a text of at most 20 digits that std's reading took
pub parsed_is : {E : Type 0} (text : List ℕ) (r : Result ℕ E) → length text ≤ 20 → list_all is_ascii_digit text ≡ true
    → ParsesUnsigned 64 10 text r → result_ok r ≡ read_u64 text
parsed_is {E} text (Ok n) short all parses =
    let says = parse_digits digits {E = E} 64 text (Ok n) parses all in
    let does : is_u64 text ≡ true = grind (arith, nat_tests) in
    ap Some says.1 ∙ fits text does
parsed_is {E} text (Err e) short all parses =
    let says = parse_digits digits {E = E} 64 text (Err e) parses all in
    elim (cases_Bool (is_u64 text)) [
      | inl does ↦ absurd (says (grind (arith, nat_tests), grind (arith, nat_tests)))
      | inr does_not ↦ fits_not text does_not
    ]

-- text is read as text
pub text_is_ok : {T E : Type 0} (r : Result T E) (Same : T → Type 0) (Bad : E → Type 0) (text : List ℕ)
    → MatchResult r Same (λ e. ¬ (IsUtf8 text) × Bad e) → IsUtf8 text → IsOk r
text_is_ok (Ok s) Same Bad text cases is_text = search rules
text_is_ok (Err e) Same Bad text cases is_text = absurd (cases.0 is_text)

-- a number reads back from its digits
pub read_u64-decimal : (n : ℕ) → n < 2 ^ 64 → read_u64 (decimal n) ≡ Some n
read_u64-decimal n small =
    let all = digits_decimal digits n small in
    let value = digits_value-decimal digits n small in
    let some = decimal_nonempty n small in
    let short = length-decimal-le 20 n (omega arith) (omega arith) small in
    let does : is_u64 (decimal n) ≡ true = grind (arith, nat_tests) in
    sym (fits (decimal n) does) ∙ ap Some value
