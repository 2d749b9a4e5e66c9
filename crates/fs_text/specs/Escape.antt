-- How the values of headers are escaped.
use Rattle.std.specs.Prelude.{◌≡◌, ◌⊎◌, ◌==◌, ◌||◌, false, ℕ, List, [], ◌∷◌, Bool, codes, if◌then◌else◌, nat_lt}
use Rattle.std.specs.List.{flat_map, list_any}
use Rattle.percent_encoding.specs.Percent.{percent_sign, percent_encode_byte}

-- the marks that are escaped, beside all that is not printable ASCII
abbrev pub marks : List ℕ
marks = codes " \"#%&+:;<=>?@[\\]^`{|}"

-- the byte is escaped
abbrev pub is_escaped : ℕ → Bool
is_escaped b = nat_lt b 32 || nat_lt 126 b || list_any (λ m. m == b) marks

-- a byte that an escaped text may have
abbrev pub IsClean : ℕ → Type 0
IsClean b = (b ≡ percent_sign) ⊎ (is_escaped b ≡ false)

-- `%` and two upper-case digits, or the byte itself
abbrev pub escape_of_byte : ℕ → List ℕ
escape_of_byte b = if is_escaped b then percent_encode_byte b else b ∷ []

-- the escapes of all bytes, one after the other
unfoldable pub escape : List ℕ → List ℕ
escape text = flat_map escape_of_byte text
