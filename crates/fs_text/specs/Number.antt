-- Numbers as decimal digits.
use Rattle.std.specs.Prelude.{ℕ, ◌^◌, List, Option, Some, None, Bool, ◌&&◌, if◌then◌else◌, length, nat_lt, nat_le}
use Rattle.std.specs.Char.{is_ascii_digit}
use Rattle.std.specs.List.{list_all}
use Rattle.std.specs.Str.Parse.{digits_value}

-- 1 to 20 digits whose value fits 64 bits
abbrev pub is_u64 : List ℕ → Bool
is_u64 text =
    nat_le 1 (length text) && nat_le (length text) 20 && list_all is_ascii_digit text && nat_lt (digits_value 10 text) (2 ^ 64)

-- the number that such a text says
unfoldable pub read_u64 : List ℕ → Option ℕ
read_u64 text = if is_u64 text then Some (digits_value 10 text) else None
