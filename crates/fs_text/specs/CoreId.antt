-- The identifiers of a switch.
use Rattle.std.specs.Prelude.{◌≡◌, ◌<◌, ◌+◌, ◌*◌, ◌/◌, ◌%◌, ◌^◌, ◌==◌, ℕ, Bool, false, List, Option, None, Some}
use Rattle.std.specs.Int.{to_be_bytes, from_be_bytes, w128}
use Rattle.std.specs.Option.{option_map}
use Rattle.uuid.specs.Text.{hyphenated_text, lower, parsed}

-- the lower-case hyphenated text of the 128-bit number with these halves
unfoldable pub uuid_text : ℕ → ℕ → List ℕ
uuid_text high low = hyphenated_text lower (to_be_bytes w128 (high * 2 ^ 64 + low))

-- the identifier of this number: the high half is the core's, the low half 2^63 and the number
unfoldable pub uuid : ℕ → ℕ → List ℕ
uuid core n = uuid_text core (2 ^ 63 + n)

-- the high half of the UUID that a text says in any of its forms
unfoldable pub high_of : List ℕ → Option ℕ
high_of text = option_map (λ bytes. from_be_bytes w128 bytes / 2 ^ 64) (parsed text)

-- the high half of a UUID of version 8, which RFC 9562 has in these four bits
abbrev pub IsCore : ℕ → Type 0
IsCore core = (core < 2 ^ 64) × (core / 2 ^ 12 % 16 ≡ 8)

-- the text is the identifier of number 0 of this core
abbrev pub IsCoreText : ℕ → List ℕ → Type 0
IsCoreText core text = IsCore core × (text ≡ uuid core 0)

-- the text is a UUID whose high half is the core's
abbrev pub Owns : ℕ → List ℕ → Type 0
Owns core text = high_of text ≡ Some core

-- a high half that is there is the core's
abbrev pub is_half_of : ℕ → Option ℕ → Bool
is_half_of core None = false
is_half_of core (Some high) = high == core

-- whether it is
abbrev pub owns : ℕ → List ℕ → Bool
owns core text = is_half_of core (high_of text)

-- the core of a switch whose configuration names none
abbrev pub default_core : ℕ
default_core = 0x4653_0000_0000_8000
