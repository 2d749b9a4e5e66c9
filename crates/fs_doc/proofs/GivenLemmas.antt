-- The entries of a map of attributes as names and texts.
use Rattle.std.proofs.Common.{◌≡◌, Bool, true, false, cond, List, [], ◌∷◌, ◌++◌, map, None, Some, refl, ap, Bor}
use Rattle.std.specs.Str.{bytes_eq}
use Rattle.std.specs.Map.{lookup}
use Rattle.indexmap.specs.IndexMap.{insert_entry}
use Rattle.fs_text.specs.Texts.{Text}
use Rattle.fs_vars.specs.Pairs.{value_of}

abbrev Entries : Type 0
Entries = List (Bor Text × Text)

abbrev pub pair_of : Bor Text × Text → Text × Text
pair_of entry = (entry.0.now, entry.1)

pub value_is : (name : Text) (es : Entries) → lookup (λ key. bytes_eq name key.now) es ≡ value_of (map pair_of es) name
value_is name [] = refl
value_is name (e ∷ es) = ap (cond (bytes_eq name e.0.now) (Some e.1)) (value_is name es)

-- an entry of a new name goes last
pub new_last : (key : Bor Text) (text : Text) (es : Entries) → value_of (map pair_of es) key.now ≡ None
    → map pair_of (insert_entry (λ a b. bytes_eq a.now b.now) es key text) ≡ map pair_of es ++ (key.now, text) ∷ []
new_last key text [] h = refl
new_last key text (e ∷ es) h = by (bytes_eq key.now e.0.now) h (new_last key text es)
  where
    more : Entries
    more = insert_entry (λ a b. bytes_eq a.now b.now) es key text

    by : (t : Bool) → cond t (Some e.1) (value_of (map pair_of es) key.now) ≡ None
        → (value_of (map pair_of es) key.now ≡ None → map pair_of more ≡ map pair_of es ++ (key.now, text) ∷ [])
        → map pair_of (cond t ((e.0, text) ∷ es) (e ∷ more)) ≡ (e.0.now, e.1) ∷ (map pair_of es ++ (key.now, text) ∷ [])
    by true found rest = absurd (cc)
    by false none rest = ap (λ xs. (e.0.now, e.1) ∷ xs) (rest none)
