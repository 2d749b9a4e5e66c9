-- What a hangup asks of a switch, and what a switch answers.
use Rattle.std.specs.Prelude.{◌≡◌, ◌≢◌, ◌≤◌, ℕ, eqb, Bool, true, List, Option, Some, IsSome, All}
use Rattle.std.specs.List.{IsDistinct}
use Rattle.fs_vars.specs.Variables.{Variables}
use Rattle.fs_bridge.specs.declared.row.Row.{Row}
use Rattle.fs_bridge.specs.Bridges.{has_leg}

-- the channels of a switch, by their slots
pub record World : Type 0 where
  -- the slots are those from 1 to this one
  pub slots : ℕ
  pub live : ℕ → Bool
  pub vars : ℕ → Option Variables
  -- the other end of a loopback channel
  pub partner : ℕ → Option ℕ
  -- the living legs of the origination that it owns, in order of their positions
  pub legs : ℕ → List ℕ
  -- the bridge that it is part of
  pub row : ℕ → Option Row

-- there is such a slot
pub record IsSlot (w : World) (slot : ℕ) : Type 0 where
  pub first : 1 ≤ slot
  pub last : slot ≤ w.slots

-- a live channel is a leg of this bridge, of which it tells: the legs are two, they live, and both tell of it
pub record IsRowOf (w : World) (slot : ℕ) (row : Row) : Type 0 where
  pub leg : has_leg slot row ≡ true
  pub apart : row.caller ≢ row.answerer
  pub caller : w.live row.caller ≡ true
  pub answerer : w.live row.answerer ≡ true
  pub caller_tells : w.row row.caller ≡ Some row
  pub answerer_tells : w.row row.answerer ≡ Some row

-- what holds of all that a switch answers
pub record AreLines (w : World) : Type 0 where
  pub live : (slot : ℕ) → w.live slot ≡ true → IsSlot w slot
  pub vars : (slot : ℕ) → w.live slot ≡ true → IsSome (w.vars slot)
  pub partner : (slot other : ℕ) → w.partner slot ≡ Some other → IsSlot w other
  pub legs : (slot : ℕ) → All (IsSlot w) (w.legs slot)
  pub differ : (slot : ℕ) → IsDistinct eqb (w.legs slot)
  pub caller : (slot : ℕ) (row : Row) → w.row slot ≡ Some row → IsSlot w row.caller
  pub answerer : (slot : ℕ) (row : Row) → w.row slot ≡ Some row → IsSlot w row.answerer
  pub row : (slot : ℕ) (row : Row) → w.live slot ≡ true → w.row slot ≡ Some row → IsRowOf w slot row
