-- What a value says, once the globals are put in place of their references.
use Rattle.std.specs.Prelude.{◌≡◌, ℕ, ◌+◌, Bool, ◌&&◌, nat_eq, if◌then◌else◌, [], ◌++◌, length, take, drop, Option, None, Some, unwrap_or}
use Rattle.std.specs.Prelude.{Ok, codes}
use Rattle.std.specs.List.{starts_with, list_any, before_first, position_or_len}
use Rattle.std.specs.Borrow.{Bor}
use Rattle.fs_text.specs.Words.{is_byte}
use Rattle.fs_text.specs.Texts.{Text}
use Rattle.fs_vars.specs.Pairs.{Pairs, value_of}
use Rattle.fs_vars.specs.Expansion.{Piece, by_pieces, is_brace}
use Rattle.fs_xml.specs.Entities.{Values, value_text}
use Rattle.fs_xml.specs.Results.{◌>>=◌}

-- a `$${` stands in front
abbrev pub begins_global : Text → Bool
begins_global text = starts_with nat_eq text (codes "$${")

-- a reference to a global stands in front: `$${`, and a `}` somewhere behind it
abbrev pub has_global : Text → Bool
has_global text = begins_global text && list_any is_brace (drop 3 text)

-- the name that it has between its braces
abbrev pub global_name : Text → Text
global_name text = before_first is_brace (drop 3 text)

-- a reference, which gives the value of its name, or nothing; or one byte as it stands
unfoldable pub global_front : Pairs → Text → Piece
global_front globals text =
    if has_global text then record { text = unwrap_or (value_of globals (global_name text)) []; len = length (global_name text) + 4 }
    else record { text = take 1 text; len = 1 }

-- the text with each reference replaced; what comes of it is not read again
unfoldable pub replaced : Pairs → Text → Text
replaced globals text = by_pieces (global_front globals) 0 text

-- the rest of a text with each reference replaced, if there is a rest
abbrev pub rest_replaced : Pairs → Option (Bor Text) → Text
rest_replaced globals None = []
rest_replaced globals (Some rest) = replaced globals rest.now

-- a call that had this front and this text leaves a longer front and the rest: together they give the same
abbrev pub Replaces : Pairs → Text → Text → Text → Option (Bor Text) → Type 0
Replaces globals old text new rest = new ++ rest_replaced globals rest ≡ old ++ replaced globals text

-- how many bytes stand before the first `$`
abbrev pub plain_len : Text → ℕ
plain_len text = position_or_len (is_byte 36) text

-- the text of a value, whose entities are decoded first; in a foreign element a `<` is allowed and nothing is replaced
unfoldable pub value_read : Bool → Pairs → ℕ → Text → Values
value_read foreign globals end value = value_text foreign end value >>= λ text. Ok (if foreign then text else replaced globals text)
