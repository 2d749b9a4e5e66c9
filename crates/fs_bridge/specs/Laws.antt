-- What holds of all bridges that stand, and of every change of them.
use Rattle.std.specs.Prelude.{◌≡◌, ◌≢◌, ◌<◌, ◌≤◌, ℕ, Option, None, Some, if◌then◌else◌, All, count_by}
use Rattle.std.specs.List.{AllPairs}
use Rattle.fs_bridge.specs.declared.row.Row.{Row}
use Rattle.fs_bridge.specs.declared.row.BridgeKind.{BridgeKind}
use Rattle.fs_bridge.specs.Bridges.{BridgeRows, has_leg, has_number, part_of, next_row, joined, unbridged}

-- its number was drawn, and its legs are two
pub record IsRow (drawn : ℕ) (row : Row) : Type 0 where
  pub first : 1 ≤ row.number
  pub last : row.number ≤ drawn
  pub apart : row.caller ≢ row.answerer

-- what holds of the bridges that stand
pub record IsSound (bridges : BridgeRows) : Type 0 where
  pub rows : All (IsRow bridges.drawn) bridges.rows
  pub order : AllPairs (λ row later. row.number < later.number) bridges.rows
  -- a slot is a leg of one of them at most
  pub one : (slot : ℕ) → count_by (has_leg slot) bridges.rows ≤ 1

-- once a bridge is joined, its two legs are part of it, and each other slot is part of what it was part of before
abbrev pub JoinedArePart : Type 0
JoinedArePart =
    (caller answerer slot : ℕ) (kind : BridgeKind) (bridges : BridgeRows) →
    part_of caller bridges ≡ None → part_of answerer bridges ≡ None →
    part_of slot (joined caller answerer kind bridges)
    ≡ (if has_leg slot (next_row caller answerer kind bridges)
    then Some (next_row caller answerer kind bridges)
    else part_of slot bridges)

-- a bridge, if there is one, but not the one of a number
abbrev pub unless_numbered : ℕ → Option Row → Option Row
unless_numbered number None = None
unless_numbered number (Some row) = if has_number number row then None else Some row

-- once a bridge has ended, no slot is part of it, and each slot that was part of another one is still
abbrev pub EndedIsLeft : Type 0
EndedIsLeft =
    (number slot : ℕ) (bridges : BridgeRows) → IsSound bridges →
    part_of slot (unbridged number bridges) ≡ unless_numbered number (part_of slot bridges)
