-- The keys that slots hold: who holds one, who may, and what holding and releasing make of them.
use Rattle.std.specs.Prelude.{ℕ, ◌==◌, nat_lt, Bool, not, ◌&&◌, if◌then◌else◌, List, [], ◌∷◌, ◌++◌, filter, length}
use Rattle.std.specs.List.{list_any}
use Rattle.std.specs.Str.{bytes_eq}
use Rattle.fs_text.specs.Texts.{Text}
use Rattle.fs_limit.specs.declared.hold.Hold.{Hold}

-- all holds, in the order in which they were taken
abbrev pub Holds : Type 0
Holds = List Hold

-- a hold is of the key of this realm and identifier
abbrev pub is_of : Text → Text → Hold → Bool
is_of realm id hold = bytes_eq hold.realm realm && bytes_eq hold.id id

-- it is one of this slot
abbrev pub has_slot : ℕ → Hold → Bool
has_slot slot hold = hold.slot == slot

-- it is the one of this key by this slot
abbrev pub is_hold : Text → Text → ℕ → Hold → Bool
is_hold realm id slot hold = is_of realm id hold && has_slot slot hold

-- a slot holds a key
abbrev pub has : Text → Text → ℕ → Holds → Bool
has realm id slot holds = list_any (is_hold realm id slot) holds

-- all holds of a key
abbrev pub holders : Text → Text → Holds → List Hold
holders realm id holds = filter (is_of realm id) holds

-- those of a key by other slots than this one
abbrev pub others : Text → Text → ℕ → Holds → List Hold
others realm id slot holds = filter (λ hold. is_of realm id hold && not (has_slot slot hold)) holds

-- all holds of a slot
abbrev pub held_by : ℕ → Holds → List Hold
held_by slot holds = filter (has_slot slot) holds

-- ---- holding

-- a slot may hold a key: fewer than `max` others do
abbrev pub may_hold : Text → Text → ℕ → ℕ → Holds → Bool
may_hold realm id max slot holds = nat_lt (length (others realm id slot holds)) max

-- a hold is added: the slot may hold the key, and does not yet
abbrev pub adds_hold : Text → Text → ℕ → ℕ → Holds → Bool
adds_hold realm id max slot holds = may_hold realm id max slot holds && not (has realm id slot holds)

-- the hold of a key by a slot
abbrev pub new_hold : Text → Text → ℕ → Hold
new_hold realm id slot = record { realm = realm; id = id; slot = slot }

-- with that hold behind the others, if it is added
abbrev pub after_hold : Text → Text → ℕ → ℕ → Holds → Holds
after_hold realm id max slot holds =
    if adds_hold realm id max slot holds then holds ++ new_hold realm id slot ∷ [] else holds

-- ---- releasing

-- without the holds of a slot
abbrev pub after_release : ℕ → Holds → Holds
after_release slot holds = filter (λ hold. not (has_slot slot hold)) holds
