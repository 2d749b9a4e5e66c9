-- The header lines of a block, and the length that they declare for its body.
use Rattle.std.specs.Prelude.{ℕ, Bool, ◌&&◌, ◌||◌, ◌==◌, nat_le, List, [], ◌∷◌, length, Option, None, Some, find, codes, if◌then◌else◌}
use Rattle.std.specs.Char.{is_ascii_digit}
use Rattle.std.specs.List.{list_all, cons_option}
use Rattle.std.specs.Option.{option_map}
use Rattle.std.specs.Str.{str_eq_ignore_ascii_case}
use Rattle.std.specs.Str.Parse.{digits_value}
use Rattle.fs_text.specs.Texts.{Text}
use Rattle.fs_text.specs.Words.{halves_of}
use Rattle.fs_frame.specs.Lines.{text_of, has_text, lines_of, behind_command}
use Rattle.fs_frame.specs.declared.length.Declared.{Declared}
use Rattle.fs_frame.specs.declared.length.Declared.TheVariants.{Length, Malformed}

-- a blank: space, tab, CR or LF
abbrev pub is_blank : ℕ → Bool
is_blank byte = byte == 32 || byte == 9 || byte == 13 || byte == 10

-- the text without the blanks in front
abbrev pub from_first : Text → Text
from_first [] = []
from_first (byte ∷ text) = if is_blank byte then from_first text else byte ∷ text

-- the text without the blanks at its end
abbrev pub up_to_last : Text → Text
up_to_last [] = []
up_to_last (byte ∷ text) = if list_all is_blank (byte ∷ text) then [] else byte ∷ up_to_last text

-- the text without the blanks round it
abbrev pub trimmed : Text → Text
trimmed text = up_to_last (from_first text)

-- the name and the value that stand round the first colon of a text, the value without the blanks round it
unfoldable pub header_of : Text → Option (Text × Text)
header_of text = option_map (λ halves. (halves.0, trimmed halves.1)) (halves_of 58 text)

-- the headers of lines, up to the first line without a text: a line without a colon is none
abbrev pub headers_among : List (List ℕ) → List (Text × Text)
headers_among [] = []
headers_among (line ∷ lines) = if has_text line then cons_option (header_of (text_of line)) (headers_among lines) else []

-- the headers of a block, in order: those of the lines behind its command line
unfoldable pub headers_of : List ℕ → List (Text × Text)
headers_of block = headers_among (behind_command (lines_of block))

-- the value of the first header with this name, in which letters of either case are the same
abbrev pub value_among : Text → List (Text × Text) → Option Text
value_among name headers = option_map (λ header. header.1) (find (λ header. str_eq_ignore_ascii_case header.0 name) headers)

-- such a value of a block
unfoldable pub header_in : Text → List ℕ → Option Text
header_in name block = value_among name (headers_of block)

-- the length that 1 to 10 digits say
unfoldable pub length_in : Text → Declared
length_in text =
    if nat_le 1 (length text) && nat_le (length text) 10 && list_all is_ascii_digit text then Length (digits_value 10 text) else Malformed

-- the length of the body by the value that says it, if one does: none without
abbrev pub length_by : Option Text → Declared
length_by None = Length 0
length_by (Some value) = length_in value

-- the length of the body that a head declares
unfoldable pub declared_by : List ℕ → Declared
declared_by head = length_by (header_in (codes "Content-Length") head)
