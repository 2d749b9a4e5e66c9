-- What a text is expanded to.
use Rattle.std.specs.Prelude.{◌≡◌, ◌==◌, ℕ, zero, suc, ◌+◌, ◌-◌, Bool, false, ◌&&◌, ◌||◌, nat_eq, if◌then◌else◌, [], ◌∷◌, ◌++◌, length}
use Rattle.std.specs.Prelude.{take, drop, Option, None, Some, is_some, unwrap_or, codes}
use Rattle.std.specs.List.{starts_with, list_any, before_first}
use Rattle.fs_text.specs.Words.{is_byte, before_byte, behind_byte}
use Rattle.fs_text.specs.Texts.{Text}
use Rattle.fs_vars.specs.declared.part.Part.{Part}
use Rattle.fs_vars.specs.Pairs.{Pairs, value_of}
use Rattle.fs_vars.specs.Parts.{part_in, part_of}

-- ---- one reference, between its braces

-- the part that is asked for behind the first colon
abbrev pub asked_part : Text → Option Part
asked_part inside = part_in (behind_byte 58 inside)

-- the name: what stands before that colon, or all of it where no part is asked for
abbrev pub asked_name : Text → Text
asked_name inside = if is_some (asked_part inside) then before_byte 58 inside else inside

abbrev pub is_call : ℕ → Bool
is_call b = b == 40 || b == 36

-- a part of a value, or all of it
abbrev pub part_or_whole : Option Part → Text → Text
part_or_whole None value = value
part_or_whole (Some part) value = part_of part value

-- what a reference gives: the value of its name, or the asked part of it, or no bytes where there is no such name; nothing is given
-- for a name that has `(` or `$`
unfoldable pub value_asked : Pairs → Text → Option Text
value_asked known inside =
    if list_any is_call (asked_name inside) then None
    else Some (part_or_whole (asked_part inside) (unwrap_or (value_of known (asked_name inside)) []))

-- what a reference stands for: what it gives, or else itself as it is written
unfoldable pub meaning : Pairs → Text → Text
meaning known inside = unwrap_or (value_asked known inside) (codes "${" ++ inside ++ codes "}")

-- a name that means nothing but itself: without `:`, `(` and `$`
pub record IsPlainName (name : Text) : Type 0 where
  pub no_colon : list_any (is_byte 58) name ≡ false
  pub no_call : list_any is_call name ≡ false

-- ---- a text

abbrev pub is_brace : ℕ → Bool
is_brace b = b == 125

-- a `$` behind a backslash stands in front
abbrev pub has_escape : Text → Bool
has_escape text = starts_with nat_eq text (codes "\\$")

-- a reference stands in front: `${`, and a `}` somewhere behind it
abbrev pub has_reference : Text → Bool
has_reference text = starts_with nat_eq text (codes "${") && list_any is_brace (drop 2 text)

-- what it has between its braces
abbrev pub inside_of : Text → Text
inside_of text = before_first is_brace (drop 2 text)

-- what comes of the front of a text, and how many bytes of the text that front has
pub record Piece : Type 0 where
  pub text : Text
  pub len : ℕ

-- an escaped `$`, a reference, or one byte as it stands
unfoldable pub front : Pairs → Text → Piece
front known text =
    if has_escape text then record { text = codes "$"; len = 2 }
    else if has_reference text then record { text = meaning known (inside_of text); len = length (inside_of text) + 3 }
    else record { text = take 1 text; len = 1 }

-- a text piece by piece, where the number says how many more of its bytes belong to the piece before
abbrev pub by_pieces : (Text → Piece) → ℕ → Text → Text
by_pieces piece skip [] = []
by_pieces piece (suc skip) (b ∷ text) = by_pieces piece skip text
by_pieces piece zero (b ∷ text) = (piece (b ∷ text)).text ++ by_pieces piece ((piece (b ∷ text)).len - 1) text

-- the whole text, expanded
unfoldable pub expanded : Pairs → Text → Text
expanded known text = by_pieces (front known) 0 text
