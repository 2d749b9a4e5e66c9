-- The groups of a match in the data of an action.
use Rattle.std.specs.Prelude.{◌≡◌, ◌==◌, ℕ, ◌-◌, Bool, ◌&&◌, if◌then◌else◌, [], ◌∷◌, ◌++◌, Option, None, Some}
use Rattle.std.specs.Char.{is_ascii_digit}
use Rattle.std.specs.List.{slice_index_or}
use Rattle.fs_text.specs.Texts.{Text}
use Rattle.fs_plan.specs.Matching.{Groups}

-- a `$` and a digit
abbrev pub names_group : ℕ → ℕ → Bool
names_group b d = b == 36 && is_ascii_digit d

-- the text of the group that a digit names
abbrev pub group_named : Groups → ℕ → Text
group_named groups d = slice_index_or groups (d - 48) []

-- a text with each `$` and digit replaced by the text of that group
abbrev pub with_groups : Groups → Text → Text
with_groups groups [] = []
with_groups groups (b ∷ []) = b ∷ []
with_groups groups (b ∷ d ∷ text) =
    if names_group b d then group_named groups d ++ with_groups groups text else b ∷ with_groups groups (d ∷ text)

-- a call that had this front and this text leaves a longer front and a rest: together they give the same
abbrev pub PutsIn : Groups → Text → Text → Text → Text → Type 0
PutsIn groups old text new left = new ++ with_groups groups left ≡ old ++ with_groups groups text

-- without groups the text stands as it is
unfoldable pub substituted : Option Groups → Text → Text
substituted None text = text
substituted (Some groups) text = with_groups groups text
