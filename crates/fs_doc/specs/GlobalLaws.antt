-- What a text with its globals says, case by case.
use Rattle.std.specs.Prelude.{◌≡◌, ℕ, false, nat_eq, [], ◌∷◌, ◌++◌, drop, unwrap_or, codes}
use Rattle.std.specs.List.{starts_with, list_any}
use Rattle.fs_text.specs.Texts.{Text}
use Rattle.fs_vars.specs.Pairs.{Pairs, value_of}
use Rattle.fs_vars.specs.Expansion.{is_brace}
use Rattle.fs_doc.specs.Values.{replaced}

-- no text gives no text
abbrev pub NothingGivesNothing : Type 0
NothingGivesNothing = (globals : Pairs) → replaced globals [] ≡ []

-- a byte that begins no `$${` stands as it is
abbrev pub OtherByteStays : Type 0
OtherByteStays =
    (globals : Pairs) (b : ℕ) (rest : Text) →
    starts_with nat_eq (b ∷ rest) (codes "$${") ≡ false → replaced globals (b ∷ rest) ≡ b ∷ replaced globals rest

-- `$${`, what stands up to the first `}`, and that `}` give the value of the global of that name, or nothing; what was put in is not
-- read again
abbrev pub ReferenceGivesItsValue : Type 0
ReferenceGivesItsValue =
    (globals : Pairs) (name rest : Text) → list_any is_brace name ≡ false →
    replaced globals (codes "$${" ++ name ++ codes "}" ++ rest) ≡ unwrap_or (value_of globals name) [] ++ replaced globals rest

-- a `$${` without its `}` stands as it is, with all that stands behind it
abbrev pub UnclosedStays : Type 0
UnclosedStays =
    (globals : Pairs) (text : Text) → list_any is_brace text ≡ false → replaced globals (codes "$${" ++ text) ≡ codes "$${" ++ text

-- a text in which no `$${` begins stands as it is
abbrev pub PlainTextStays : Type 0
PlainTextStays =
    (globals : Pairs) (text : Text) → ((n : ℕ) → starts_with nat_eq (drop n text) (codes "$${") ≡ false) → replaced globals text ≡ text
