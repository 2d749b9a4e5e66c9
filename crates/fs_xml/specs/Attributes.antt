-- One attribute of a tag, or the end of the tag.
use Rattle.std.specs.Prelude.{◌==◌, ℕ, ◌-◌, Bool, if◌then◌else◌, List, [], ◌∷◌, length, Option, None, Some, Result, Ok, Err}
use Rattle.fs_text.specs.Words.{halves_of}
use Rattle.fs_xml.specs.Results.{◌>>=◌}
use Rattle.fs_xml.specs.declared.attribute.Attr.{Attr}
use Rattle.fs_xml.specs.declared.attribute.Part.{Part}
use Rattle.fs_xml.specs.declared.attribute.Part.TheVariants as part
use Rattle.fs_xml.specs.declared.attribute.Ending.{Ending}
use Rattle.fs_xml.specs.declared.attribute.Ending.TheVariants.{Opens, Closes}
use Rattle.fs_xml.specs.declared.stop.TagStop.{TagStop}
use Rattle.fs_xml.specs.declared.stop.TagStop.TheVariants.{Cut, Bad}
use Rattle.std.specs.Borrow.{Bor}
use Rattle.fs_xml.specs.Bytes.{is_blank, is_quote, is_name_byte, begins_name, past, name_of, offset}

-- an attribute as it is written: where its name begins, its name, its value between the quotes, and where the value ends
pub record Written : Type 0 where
  pub at : ℕ
  pub name : List ℕ
  pub value : List ℕ
  pub end : ℕ

-- one attribute, the end of the tag, or an attribute that is malformed, with the tag's end behind it
pub data TagPart : Type 0 where
  Has : Written → TagPart
  Ends : Ending → TagPart
  Broken : (at : ℕ) → TagPart

abbrev pub written_of : Attr → Written
written_of a = record { at = a.at; name = a.name.now; value = a.value.now; end = a.end }

abbrev pub tag_part_of : Part → TagPart
tag_part_of (part.Attr a) = Has (written_of a)
tag_part_of (part.End ending) = Ends ending
tag_part_of (part.Malformed at) = Broken at

-- what is read, and the rest
abbrev pub TagParts : Type 0
TagParts = Result (TagPart × List ℕ) TagStop

abbrev pub part_seen : Part × Bor (List ℕ) → TagPart × List ℕ
part_seen x = (tag_part_of x.0, x.1.now)

-- what stands behind the tag's `>`; inside quotes, which it may begin in, neither `>` nor `<` counts
abbrev pub tag_end : Option ℕ → List ℕ → Result (List ℕ) TagStop
tag_end quote [] = Err Cut
tag_end None (b ∷ rest) =
    if b == 62 then Ok rest
    else if b == 60 then Err Bad
    else if is_quote b then tag_end (Some b) rest
    else tag_end None rest
tag_end (Some quote) (b ∷ rest) = if b == quote then tag_end None rest else tag_end (Some quote) rest

-- behind a malformed attribute the tag is read to its end
unfoldable pub broken_at : ℕ → List ℕ → TagParts
broken_at at bytes = tag_end None bytes >>= λ rest. Ok (Broken at, rest)

-- a value, once it was cut off at its quote
abbrev pub valued_on : ℕ → ℕ → List ℕ → Option (List ℕ × List ℕ) → TagParts
valued_on end at name None = Err Cut
valued_on end at name (Some halves) =
    Ok (Has (record { at = at; name = name; value = halves.0; end = offset end halves.1 - 1 }), halves.1)

-- the value up to its quote
unfoldable pub valued_at : ℕ → ℕ → List ℕ → ℕ → List ℕ → TagParts
valued_at end at name quote bytes = valued_on end at name (halves_of quote bytes)

-- the quote behind `=`
unfoldable pub quoted_at : ℕ → ℕ → List ℕ → List ℕ → TagParts
quoted_at end at name [] = Err Cut
quoted_at end at name (b ∷ rest) = if is_quote b then valued_at end at name b rest else broken_at at (b ∷ rest)

-- the `=` behind a name
unfoldable pub equals_at : ℕ → ℕ → List ℕ → List ℕ → TagParts
equals_at end at name [] = Err Cut
equals_at end at name (b ∷ rest) = if b == 61 then quoted_at end at name (past is_blank rest) else broken_at at (b ∷ rest)

-- an attribute, from its name on
unfoldable pub named_at : ℕ → List ℕ → TagParts
named_at end bytes = equals_at end (offset end bytes) (name_of bytes) (past is_blank (past is_name_byte bytes))

-- the `>` behind a `/`
unfoldable pub slash_at : List ℕ → TagParts
slash_at [] = Err Cut
slash_at (b ∷ rest) = if b == 62 then Ok (Ends Closes, rest) else Err Bad

-- what stands behind the blanks, of which there are none where it is glued to what stands before
unfoldable pub part_on : ℕ → Bool → List ℕ → TagParts
part_on end glued [] = Err Cut
part_on end glued (b ∷ rest) =
    if b == 62 then Ok (Ends Opens, rest)
    else if b == 47 then slash_at rest
    else if begins_name b then (if glued then broken_at (offset end (b ∷ rest)) (b ∷ rest) else named_at end (b ∷ rest))
    else Err Bad

unfoldable pub part_at : ℕ → List ℕ → TagParts
part_at end bytes = part_on end (length (past is_blank bytes) == length bytes) (past is_blank bytes)
