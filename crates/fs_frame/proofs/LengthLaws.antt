-- The length that a value says.
use Rattle.std.proofs.Common.{◌≡◌, ◌≤◌, ◌<◌, ◌^◌, ℕ, Bool, true, false, List, length, nat_le, Option, Some, None, refl, arith, rules, codes}
use Rattle.std.specs.Char.{is_ascii_digit}
use Rattle.std.specs.List.{list_all}
use Rattle.std.specs.Str.Parse.{digits_value}
use Rattle.std.proofs.lemmas.Bool.{leb-true}
use Rattle.std.proofs.lemmas.Bool.Decides.{nat_tests}
use Rattle.std.proofs.lemmas.Str.Parse.{IsNumeralModel, numerals_by_value, digits_value_short}
use Rattle.fs_text.specs.Texts.{Text}
use Rattle.fs_text.specs.Number.{read_u64}
use Rattle.fs_frame.specs.Headers.{length_in, length_by, header_in, declared_by}
use Rattle.fs_frame.specs.declared.length.Declared.TheVariants.{Length, Malformed}

digits : IsNumeralModel (λ text. list_all is_ascii_digit text ≡ true) (digits_value 10)
digits = numerals_by_value _ (search rules)

-- too many digits
pub length_in-long : (text : Text) → 10 < length text → Malformed ≡ length_in text
unfolding length_in
length_in-long text long = grind (arith, nat_tests)

-- so few digits as a length may have say less than 10^10
few_digits : (text : Text) → length text ≤ 10 → list_all is_ascii_digit text ≡ true → digits_value 10 text < 10 ^ 10
few_digits text few all = digits_value_short digits text 10 all few

-- what is read of them is the length
pub length_in-some : (text : Text) (n : ℕ) → length text ≤ 10 → Some n ≡ read_u64 text → Length n ≡ length_in text
unfolding length_in read_u64
length_in-some text n few read = grind (arith, nat_tests)

pub length_in-none : (text : Text) → length text ≤ 10 → None ≡ read_u64 text → Malformed ≡ length_in text
unfolding length_in read_u64
length_in-none text few read = step (list_all is_ascii_digit text) refl
  where
    step : (b : Bool) → list_all is_ascii_digit text ≡ b → Malformed ≡ length_in text
    step true all = let small : digits_value 10 text < 10 ^ 10 = few_digits text few all in grind (arith, nat_tests)
    step false other = grind (arith, nat_tests)

-- a length that is declared has no more digits
pub length_in-short : (text : Text) (n : ℕ) → length_in text ≡ Length n → n < 10 ^ 10
unfolding length_in
length_in-short text n is = step (list_all is_ascii_digit text) refl (nat_le 1 (length text)) refl (nat_le (length text) 10) refl
  where
    step : (a : Bool) → list_all is_ascii_digit text ≡ a → (b : Bool) → nat_le 1 (length text) ≡ b → (c : Bool) →
        nat_le (length text) 10 ≡ c → n < 10 ^ 10
    step true all true some true few =
        let here : Length (digits_value 10 text) ≡ Length n = rw (some, few, all) at is in
        let same : digits_value 10 text ≡ n = cc in
        rw (← same) (few_digits text (leb-true (length text) 10 few) all)
    step false all true some true few = let no : Malformed ≡ Length n = rw (some, few, all) at is in cc
    step all is_all true some false many = let no : Malformed ≡ Length n = rw (some, many) at is in cc
    step all is_all false none few is_few = let no : Malformed ≡ Length n = rw none at is in cc

pub declared_by-short : (head : List ℕ) (n : ℕ) → declared_by head ≡ Length n → n < 10 ^ 10
unfolding declared_by
declared_by-short head n is = step (header_in (codes "Content-Length") head) is
  where
    step : (value : Option Text) → length_by value ≡ Length n → n < 10 ^ 10
    step None here = let same : 0 ≡ n = cc in rw (← same) (omega arith)
    step (Some value) here = length_in-short value n here
