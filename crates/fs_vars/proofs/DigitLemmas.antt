-- The number that up to 9 digits write.
use Rattle.std.proofs.Common.{◌≡◌, ℕ, ◌<◌, ◌≤◌, ◌^◌, Bool, true, false, cond, ◌&&◌, nat_le, nat_lt, List, length, Some, None, IfSome, refl}
use Rattle.std.proofs.Common.{arith, rules}
use Rattle.std.specs.Char.{is_ascii_digit}
use Rattle.std.specs.List.{list_all}
use Rattle.std.specs.Str.Parse.{digits_value}
use Rattle.std.proofs.lemmas.Bool.{le-leb, lt-ltb}
use Rattle.std.proofs.lemmas.Str.Parse.{IsNumeralModel, numerals_by_value, digits_value_short}
use Rattle.fs_text.specs.Number.{read_u64}
use Rattle.fs_vars.specs.Parts.{size_in}

digits : IsNumeralModel (λ ds. list_all is_ascii_digit ds ≡ true) (digits_value 10)
digits = numerals_by_value _ (search rules)

-- up to 9 digits are read as any number is
pub read_size : (text : List ℕ) → length text ≤ 9 → read_u64 text ≡ size_in text
unfolding read_u64
read_size text short =
    rw (le-leb (length text) 20 (omega arith), le-leb (length text) 9 short)
    (by (nat_le 1 (length text)) (list_all is_ascii_digit text) refl)
  where
    value : ℕ
    value = digits_value 10 text

    by : (some all : Bool) → list_all is_ascii_digit text ≡ all
        → cond (some && true && all && nat_lt value (2 ^ 64)) (Some value) None ≡ cond (some && true && all) (Some value) None
    by false all e = refl
    by true false e = refl
    by true true e = rw (lt-ltb value (2 ^ 64) (omega (arith, digits_value_short digits text 9 e short)))

-- and are less than a thousand million
pub small_size : (text : List ℕ) → length text ≤ 9 → IfSome (size_in text) (λ n. n < 1000000000)
small_size text short = by (nat_le 1 (length text)) (nat_le (length text) 9) (list_all is_ascii_digit text) refl
  where
    by : (some few all : Bool) → list_all is_ascii_digit text ≡ all →
        IfSome (cond (some && few && all) (Some (digits_value 10 text)) None) (λ n. n < 1000000000)
    by true true true e = digits_value_short digits text 9 e short
    by true true false e = tt
    by true false all e = tt
    by false few all e = tt
