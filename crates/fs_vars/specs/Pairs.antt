-- Named values in order, and what setting and unsetting a name leaves.
use Rattle.std.specs.Prelude.{ℕ, Bool, not, if◌then◌else◌, List, [], ◌∷◌, map, filter, Option, None, Some}
use Rattle.std.specs.Global.{Vec}
use Rattle.std.specs.List.{IsDistinct}
use Rattle.std.specs.Map.{keys_of}
use Rattle.std.specs.Str.{bytes_eq}
use Rattle.fs_text.specs.Texts.{Text}

-- names with their values, in order
abbrev pub Pairs : Type 0
Pairs = List (Text × Text)

-- the same bytes
abbrev pub same_text : Text → Text → Bool
same_text = bytes_eq

-- the first value under a name
abbrev pub value_of : Pairs → Text → Option Text
value_of [] name = None
value_of (pair ∷ pairs) name = if same_text name pair.0 then Some pair.1 else value_of pairs name

-- a name that is there gets the value in its place; a new name goes last
abbrev pub with_value : Pairs → Text → Text → Pairs
with_value [] name value = (name, value) ∷ []
with_value (pair ∷ pairs) name value =
    if same_text name pair.0 then (pair.0, value) ∷ pairs else pair ∷ with_value pairs name value

-- the pairs of all other names
abbrev pub without : Pairs → Text → Pairs
without pairs name = filter (λ pair. not (same_text name pair.0)) pairs

-- no two pairs have one name
abbrev pub AreDistinct : Pairs → Type 0
AreDistinct pairs = IsDistinct same_text (keys_of pairs)

-- the entries of a table, with each key as its text
abbrev pub pairs_of : List (Vec ℕ × Text) → Pairs
pairs_of entries = map (λ entry. (entry.0.items, entry.1)) entries

-- the keys of a table's entries are the same text
abbrev pub same_key : Vec ℕ → Vec ℕ → Bool
same_key a b = same_text a.items b.items
