-- What a value says, once its entities are decoded.
use Rattle.std.specs.Prelude.{◌==◌, ℕ, zero, suc, ◌+◌, ◌-◌, ◌*◌, min, Bool, ◌&&◌, ◌||◌, nat_lt, nat_le, if◌then◌else◌, List, [], ◌∷◌, ◌++◌}
use Rattle.std.specs.Prelude.{length, drop, Option, None, Some, Result, Ok, Err, codes, encode_utf8}
use Rattle.std.specs.Option.{option_and_then, option_map}
use Rattle.std.specs.Str.{bytes_eq}
use Rattle.std.specs.List.{before_first, position_or_len}
use Rattle.std.specs.Borrow.{Bor}
use Rattle.memchr.specs.Find.{is_byte2}
use Rattle.fs_text.specs.Words.{halves_of}
use Rattle.fs_xml.specs.Results.{◌>>=◌}
use Rattle.fs_xml.specs.declared.stop.ValueFault.{ValueFault}
use Rattle.fs_xml.specs.declared.stop.ValueFault.TheVariants.{Raw, BadEntity}
use Rattle.fs_xml.specs.declared.stop.ValueStop.{ValueStop}
use Rattle.fs_xml.specs.Answers.{ValueGives}
use Rattle.fs_xml.specs.Bytes.{offset}

-- ---- one entity

-- the value of a digit, up to 15
unfoldable pub digit_value : ℕ → Option ℕ
digit_value b =
    if nat_le 48 b && nat_le b 57 then Some (b - 48)
    else if nat_le 97 b && nat_le b 102 then Some (b - 87)
    else if nat_le 65 b && nat_le b 70 then Some (b - 55)
    else None

-- the value of a digit of a base
unfoldable pub digit_in : ℕ → ℕ → Option ℕ
digit_in base b = option_and_then (λ v. if nat_lt v base then Some v else None) (digit_value b)

-- the number that digits write behind those of n, or 1,114,112 where it is greater
abbrev pub number_on : ℕ → ℕ → List ℕ → Option ℕ
number_on base n [] = Some n
number_on base n (b ∷ digits) = option_and_then (λ v. number_on base (min (n * base + v) 1114112) digits) (digit_in base b)

-- a Unicode scalar value other than 0
unfoldable pub is_character : ℕ → Bool
is_character n = nat_lt 0 n && (nat_lt n 55296 || (nat_lt 57343 n && nat_lt n 1114112))

-- the character of a number of one digit or more
unfoldable pub character_of : ℕ → List ℕ → Option ℕ
character_of base [] = None
character_of base (b ∷ digits) = option_and_then (λ n. if is_character n then Some n else None) (number_on base 0 (b ∷ digits))

-- the number behind `#`
unfoldable pub numbered_character : List ℕ → Option ℕ
numbered_character [] = None
numbered_character (b ∷ digits) = if b == 120 then character_of 16 digits else character_of 10 (b ∷ digits)

-- the character that stands between `&` and `;`
unfoldable pub entity : List ℕ → Option ℕ
entity [] = None
entity (b ∷ name) =
    if b == 35 then numbered_character name
    else if bytes_eq (b ∷ name) (codes "lt") then Some 60
    else if bytes_eq (b ∷ name) (codes "gt") then Some 62
    else if bytes_eq (b ∷ name) (codes "amp") then Some 38
    else if bytes_eq (b ∷ name) (codes "quot") then Some 34
    else if bytes_eq (b ∷ name) (codes "apos") then Some 39
    else None

-- ---- a value

-- `&` and `<`
abbrev pub is_special : ℕ → Bool
is_special = is_byte2 38 60

-- the text so far with what comes of the front of a value, and the rest of the value, if any
abbrev pub Decoded : Type 0
Decoded = Result (List ℕ × Option (List ℕ)) ValueFault

abbrev pub rest_seen : Option (Bor (List ℕ)) → Option (List ℕ)
rest_seen rest = option_map (λ r. r.now) rest

-- a call leaves this text and answers this rest, as a step says
abbrev pub StepGives : List ℕ → Result (Option (Bor (List ℕ))) ValueStop → Decoded → Type 0
StepGives text result step = ValueGives (λ rest. (text, rest_seen rest)) result step

-- the character of an entity
abbrev pub character_added : List ℕ → ℕ → Option ℕ → List ℕ → Decoded
character_added so_far at None rest = Err (BadEntity at)
character_added so_far at (Some c) rest = Ok (so_far ++ encode_utf8 c, Some rest)

-- an entity, once it was cut off at its `;`
abbrev pub entity_on : List ℕ → ℕ → Option (List ℕ × List ℕ) → Decoded
entity_on so_far at None = Err (BadEntity at)
entity_on so_far at (Some halves) = character_added so_far at (entity halves.0) halves.1

-- an entity, from behind its `&`
unfoldable pub entity_at : List ℕ → ℕ → List ℕ → Decoded
entity_at so_far at bytes = entity_on so_far at (halves_of 59 bytes)

-- a `<` or an entity; a `<` is a fault unless it is allowed
unfoldable pub special_at : Bool → ℕ → List ℕ → List ℕ → Decoded
special_at raw end so_far [] = Ok (so_far, None)
special_at raw end so_far (b ∷ rest) =
    if b == 38 then entity_at so_far (offset end (b ∷ rest)) rest
    else if raw then Ok (so_far ++ b ∷ [], Some rest)
    else Err Raw

-- the bytes up to the first `&` or `<`, and that
unfoldable pub value_step : Bool → ℕ → List ℕ → List ℕ → Decoded
value_step raw end so_far bytes =
    special_at raw end (so_far ++ before_first is_special bytes) (drop (position_or_len is_special bytes) bytes)

abbrev pub Values : Type 0
Values = Result (List ℕ) ValueFault

abbrev pub value_on : (List ℕ → List ℕ → Values) → List ℕ × Option (List ℕ) → Values
value_on read (so_far, None) = Ok so_far
value_on read (so_far, Some rest) = read so_far rest

-- with no more than so many specials
abbrev pub value_within : ℕ → Bool → ℕ → List ℕ → List ℕ → Values
value_within zero raw end so_far bytes = Err Raw
value_within (suc more) raw end so_far bytes =
    value_step raw end so_far bytes >>= λ x. value_on (λ next rest. value_within more raw end next rest) x

-- the text of a value that ends at an offset
unfoldable pub value_text : Bool → ℕ → List ℕ → Values
value_text raw end bytes = value_within (length bytes + 1) raw end [] bytes
