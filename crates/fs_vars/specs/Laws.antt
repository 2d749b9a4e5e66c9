-- What an expansion comes to, case by case.
use Rattle.std.specs.Prelude.{◌≡◌, ℕ, [], ◌∷◌, ◌++◌, true, false, Some, unwrap_or, codes}
use Rattle.std.specs.List.{list_any}
use Rattle.fs_text.specs.Texts.{Text}
use Rattle.fs_vars.specs.declared.part.Part.{Part}
use Rattle.fs_vars.specs.Pairs.{Pairs, value_of}
use Rattle.fs_vars.specs.Parts.{part_in, part_of}
use Rattle.fs_vars.specs.Expansion.{expanded, meaning, asked_name, has_escape, has_reference, is_brace, is_call, IsPlainName}

-- an escaped `$` gives `$`
abbrev pub EscapeGivesDollar : Type 0
EscapeGivesDollar = (known : Pairs) (rest : Text) → expanded known (codes "\\$" ++ rest) ≡ codes "$" ++ expanded known rest

-- a reference in front gives what it means
abbrev pub ReferenceGivesMeaning : Type 0
ReferenceGivesMeaning =
    (known : Pairs) (inside rest : Text) → list_any is_brace inside ≡ false
    → expanded known (codes "${" ++ inside ++ codes "}" ++ rest) ≡ meaning known inside ++ expanded known rest

-- any other byte in front stands as it is
abbrev pub OtherStands : Type 0
OtherStands =
    (known : Pairs) (b : ℕ) (rest : Text) → has_escape (b ∷ rest) ≡ false → has_reference (b ∷ rest) ≡ false
    → expanded known (b ∷ rest) ≡ b ∷ expanded known rest

-- a plain name means its first value, or nothing
abbrev pub NameMeansValue : Type 0
NameMeansValue = (known : Pairs) (name : Text) → IsPlainName name → meaning known name ≡ unwrap_or (value_of known name) []

-- with an offset, or an offset and a length, behind a colon it means that part of the value
abbrev pub PartMeansPart : Type 0
PartMeansPart =
    (known : Pairs) (name asked : Text) (part : Part) → IsPlainName name → part_in asked ≡ Some part
    → meaning known (name ++ codes ":" ++ asked) ≡ part_of part (unwrap_or (value_of known name) [])

-- a name with `(` or `$` stands as it is written
abbrev pub CallStands : Type 0
CallStands =
    (known : Pairs) (inside : Text) → list_any is_call (asked_name inside) ≡ true
    → meaning known inside ≡ codes "${" ++ inside ++ codes "}"
