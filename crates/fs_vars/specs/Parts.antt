-- The part of a value that a reference asks for.
use Rattle.std.specs.Prelude.{ℕ, zero, suc, ◌-◌, Bool, ◌&&◌, nat_eq, nat_le, if◌then◌else◌, ℤ, pos, negsuc, neg_ℤ, length, take, drop}
use Rattle.std.specs.Prelude.{Option, None, Some, option_map, option_and_then, codes}
use Rattle.std.specs.Char.{is_ascii_digit}
use Rattle.std.specs.List.{starts_with, list_all}
use Rattle.std.specs.Str.Parse.{digits_value}
use Rattle.fs_text.specs.Words.{halves_of}
use Rattle.fs_text.specs.Texts.{Text}
use Rattle.fs_vars.specs.declared.part.Part.{Part}

-- 1 to 9 digits
abbrev pub is_size : Text → Bool
is_size text = nat_le 1 (length text) && nat_le (length text) 9 && list_all is_ascii_digit text

-- the number that these write
abbrev pub size_in : Text → Option ℕ
size_in text = if is_size text then Some (digits_value 10 text) else None

-- the number that an optional minus and 1 to 9 digits write
abbrev pub number_in : Text → Option ℤ
number_in text =
    if starts_with nat_eq text (codes "-") then option_map (λ n. neg_ℤ (pos n)) (size_in (drop 1 text)) else option_map pos (size_in text)

-- the part of this offset that has as many bytes as the text writes
abbrev pub part_from : ℤ → Text → Option Part
part_from offset text = option_map (λ len. record { offset = offset; len = Some len }) (number_in text)

-- what a text writes, from what stands before and behind its colon, if it has one
abbrev pub part_between : Text → Option (Text × Text) → Option Part
part_between text None = option_map (λ offset. record { offset = offset; len = None }) (number_in text)
part_between text (Some (offset, len)) = option_and_then (λ n. part_from n len) (number_in offset)

-- an offset alone, or an offset and a length with a colon between them
abbrev pub part_in : Text → Option Part
part_in text = part_between text (halves_of 58 text)

-- the bytes from an offset on, where a negative one counts from the end; past either end it is that end
abbrev pub from_offset : ℤ → Text → Text
from_offset (pos n) value = drop n value
from_offset (negsuc n) value = drop (length value - suc n) value

-- the first bytes, of that number; all of them where there is no length, where it is 0 or less, and where it is past the end
abbrev pub first_bytes : Option ℤ → Text → Text
first_bytes None text = text
first_bytes (Some (pos zero)) text = text
first_bytes (Some (pos (suc n))) text = take (suc n) text
first_bytes (Some (negsuc n)) text = text

-- the part of a value
abbrev pub part_of : Part → Text → Text
part_of part value = first_bytes part.len (from_offset part.offset value)
