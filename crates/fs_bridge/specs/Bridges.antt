-- The bridges that stand: their rows, and what joining and ending make of these.
use Rattle.std.specs.Prelude.{ℕ, ◌+◌, ◌^◌, ◌==◌, nat_lt, Bool, not, ◌||◌, List, [], ◌∷◌, ◌++◌, filter, Option}
use Rattle.std.specs.List.{find}
use Rattle.fs_bridge.specs.declared.row.Row.{Row}
use Rattle.fs_bridge.specs.declared.row.BridgeKind.{BridgeKind}

-- the rows of the bridges that stand, in order of their numbers, and how many numbers were drawn
pub record BridgeRows : Type 0 where
  pub rows : List Row
  pub drawn : ℕ

-- no bridge was joined
abbrev pub no_bridges : BridgeRows
no_bridges = record { rows = []; drawn = 0 }

-- there is a number for one more
abbrev pub has_number_left : BridgeRows → Bool
has_number_left bridges = nat_lt (bridges.drawn + 1) (2 ^ 64)

-- a slot is one of the two legs
abbrev pub has_leg : ℕ → Row → Bool
has_leg slot row = row.caller == slot || row.answerer == slot

-- it is the bridge of this number
abbrev pub has_number : ℕ → Row → Bool
has_number number row = row.number == number

-- the bridge that a slot is a leg of
abbrev pub part_of : ℕ → BridgeRows → Option Row
part_of slot bridges = find (has_leg slot) bridges.rows

-- the bridge of a number
abbrev pub numbered : ℕ → BridgeRows → Option Row
numbered number bridges = find (has_number number) bridges.rows

-- the bridge that is joined next
abbrev pub next_row : ℕ → ℕ → BridgeKind → BridgeRows → Row
next_row caller answerer kind bridges =
    record { number = bridges.drawn + 1; caller = caller; answerer = answerer; kind = kind }

-- with that bridge
abbrev pub joined : ℕ → ℕ → BridgeKind → BridgeRows → BridgeRows
joined caller answerer kind bridges =
    record { rows = bridges.rows ++ next_row caller answerer kind bridges ∷ []; drawn = bridges.drawn + 1 }

-- without the bridge of a number
abbrev pub unbridged : ℕ → BridgeRows → BridgeRows
unbridged number bridges = record bridges { rows = filter (λ row. not (has_number number row)) bridges.rows }
