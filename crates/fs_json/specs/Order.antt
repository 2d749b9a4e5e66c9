-- Fields by name.
use Rattle.std.specs.Prelude.{[], ◌∷◌}
use Rattle.std.specs.declared.cmp.Ordering.{Ordering}
use Rattle.std.specs.Cmp.Lexicographic.{slice_cmp}
use Rattle.std.specs.Ordering.{nat_cmp, match_ordering}
use Rattle.fs_text.specs.Texts.{Text}
use Rattle.fs_json.specs.Fields.{Pairs}

-- which of two texts comes first, in byte order
abbrev pub text_cmp : Text → Text → Ordering
text_cmp = slice_cmp nat_cmp

-- with one more field, where its name puts it; where one has that name, its value is replaced
abbrev pub with_field : Text × Text → Pairs → Pairs
with_field field [] = field ∷ []
with_field field (other ∷ more) =
    match_ordering (text_cmp field.0 other.0) (field ∷ other ∷ more) ((other.0, field.1) ∷ more) (other ∷ with_field field more)

-- with several, one after the other
abbrev pub with_fields : Pairs → Pairs → Pairs
with_fields [] pairs = pairs
with_fields (field ∷ fields) pairs = with_fields fields (with_field field pairs)

-- fields by name, in byte order
unfoldable pub by_name : Pairs → Pairs
by_name fields = with_fields fields []
