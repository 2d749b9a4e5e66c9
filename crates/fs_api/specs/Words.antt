-- Words in which single quotes protect spaces.
use Rattle.std.specs.Prelude.{ℕ, ◌+◌, ◌==◌, Bool, false, not, ◌&&◌, if◌then◌else◌, [], ◌∷◌, length, take, drop}
use Rattle.std.specs.List.{position_or_len}
use Rattle.fs_text.specs.Words.{is_byte, without_spaces}
use Rattle.fs_text.specs.Texts.{Text}

abbrev pub is_quote : ℕ → Bool
is_quote byte = byte == 39

-- how many bytes stand before the first space outside quotes; an unclosed quote runs to the end
abbrev pub quoted_len : Bool → Text → ℕ
quoted_len inside [] = 0
quoted_len inside (byte ∷ bytes) =
    if is_quote byte then quoted_len (not inside) bytes + 1
    else (if is_byte 32 byte && not inside then 0 else quoted_len inside bytes + 1)

abbrev pub quoted_word : Text → Text
quoted_word text = take (quoted_len false text) text

abbrev pub behind_quoted : Text → Text
behind_quoted text = without_spaces (drop (quoted_len false text) text)

-- the text behind a first quote, where the next quote is its last byte
abbrev pub unquoted_behind : Text → Text → Text
unquoted_behind word inner =
    if position_or_len is_quote inner + 1 == length inner then take (position_or_len is_quote inner) inner else word

-- a word that is in quotes as a whole, without them; any other as it is
abbrev pub unquoted : Text → Text
unquoted [] = []
unquoted (byte ∷ inner) = if is_quote byte then unquoted_behind (byte ∷ inner) inner else byte ∷ inner
