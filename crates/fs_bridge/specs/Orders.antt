-- Things that are told of slots, in order of these.
use Rattle.std.specs.Prelude.{ℕ, ◌==◌, nat_lt, Bool, if◌then◌else◌, List, [], fold, count_by, insert}
use Rattle.std.specs.List.{list_any}

-- one of them is told of the slot
abbrev pub has_slot : {T : Type 0} → ℕ → List (ℕ × T) → Bool
has_slot slot things = list_any (λ thing. thing.0 == slot) things

-- with one more, behind those of lesser slots; nothing more where one is told of its slot
unfoldable pub placed : {T : Type 0} → List (ℕ × T) → ℕ × T → List (ℕ × T)
placed things thing =
    if has_slot thing.0 things then things else insert things (count_by (λ other. nat_lt other.0 thing.0) things) thing

-- in order of their slots, and of each slot the first
abbrev pub in_order : {T : Type 0} → List (ℕ × T) → List (ℕ × T)
in_order things = fold placed [] things
