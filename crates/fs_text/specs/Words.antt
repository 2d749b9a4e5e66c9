-- How a text is cut at a byte, and into words.
use Rattle.std.specs.Prelude.{ℕ, ◌==◌, nat_le, Bool, not, if◌then◌else◌, List, drop, length, Option, None, Some}
use Rattle.std.specs.List.{before_first, after_first, position_or_len, list_any}

-- the byte is this one
abbrev pub is_byte : ℕ → ℕ → Bool
is_byte byte b = b == byte

-- what stands before the first such byte: the whole text where it has none
abbrev pub before_byte : ℕ → List ℕ → List ℕ
before_byte byte text = before_first (is_byte byte) text

-- what stands behind it: nothing where the text has none
abbrev pub behind_byte : ℕ → List ℕ → List ℕ
behind_byte byte text = after_first (is_byte byte) text

-- what stands before and behind the first such byte, if there is one
unfoldable pub halves_of : ℕ → List ℕ → Option (List ℕ × List ℕ)
halves_of byte text = if list_any (is_byte byte) text then Some (before_byte byte text, behind_byte byte text) else None

-- ---- `name=value`

-- the name: all of the text where it has no `=`
abbrev pub name_in : List ℕ → List ℕ
name_in text = before_byte 61 text

-- the value: empty where the text has no `=`
abbrev pub value_in : List ℕ → List ℕ
value_in text = behind_byte 61 text

-- ---- words, with spaces between them

abbrev pub is_other : ℕ → Bool
is_other byte = not (is_byte 32 byte)

-- the text from its first byte on that is no space
abbrev pub without_spaces : List ℕ → List ℕ
without_spaces text = drop (position_or_len is_other text) text

-- the first word of a text that begins with no space
abbrev pub word_of : List ℕ → List ℕ
word_of text = before_byte 32 text

-- what stands behind that word and the spaces behind it
abbrev pub behind_word : List ℕ → List ℕ
behind_word text = without_spaces (behind_byte 32 text)

-- it can be an extension, a context or a dialplan of a channel: it has at most 256 bytes
abbrev pub is_short : List ℕ → Bool
is_short word = nat_le (length word) 256
