-- What holds of the rounds of a hangup, and of the bridges that end by it.
use Rattle.std.specs.Prelude.{◌≡◌, ◌≤◌, ◌↔◌, ℕ, true, false, Some, count_by}
use Rattle.fs_text.specs.declared.causes.Cause.{Cause}
use Rattle.fs_bridge.specs.declared.row.Row.{Row}
use Rattle.fs_bridge.specs.declared.after.After.{After}
use Rattle.fs_bridge.specs.Bridges.{has_leg}
use Rattle.fs_bridge.specs.Worlds.{World, AreLines}
use Rattle.fs_bridge.specs.Orders.{has_slot}
use Rattle.fs_bridge.specs.Closure.{Member, Members, AreNamed, members_of, closure_of}
use Rattle.fs_bridge.specs.Hangups.{IsOneOf}
use Rattle.fs_bridge.specs.Rounds.{IsLeft, IsNoLater, IsInRound}

-- ---- the rounds

-- whoever hangs up is in a round, of that cause
abbrev pub EachIsInARound : Type 0
EachIsInARound =
    (w : World) (named : Members) (m : Member) → AreNamed w named → IsOneOf m (members_of w named) →
    (n : ℕ) × IsInRound w named n m

-- whoever is in a round hangs up, of that cause
abbrev pub EachOfARoundHangsUp : Type 0
EachOfARoundHangsUp =
    (w : World) (named : Members) (n : ℕ) (m : Member) → AreLines w → AreNamed w named →
    IsInRound w named n m → IsOneOf m (members_of w named)

-- nobody is in two rounds, nor in one of two causes
abbrev pub OneRoundAndCause : Type 0
OneRoundAndCause =
    (w : World) (named : Members) (slot n other : ℕ) (cause its : Cause) → AreNamed w named →
    IsInRound w named n (slot, cause) → IsInRound w named other (slot, its) → (n ≡ other) × (cause ≡ its)

-- ---- the bridges that end

-- a bridge ends of the cause of the leg that died first: of its legs that hang up, the one in the earlier round, or in
-- one round the one in the lesser slot
pub record EndsOf (w : World) (named : Members) (row : Row) (cause : Cause) : Type 0 where
  pub leg : ℕ
  pub round : ℕ
  pub bridge : w.row leg ≡ Some row
  pub died : IsInRound w named round (leg, cause)
  pub first : (other later : ℕ) (its : Cause) → has_leg other row ≡ true → IsInRound w named later (other, its) →
      IsNoLater round leg later other

-- a bridge is among those that end, with a cause, exactly where it ends of that cause
abbrev pub EachEndsOfTheFirst : Type 0
EachEndsOfTheFirst =
    (w : World) (named : Members) (row : Row) (cause : Cause) → AreLines w → AreNamed w named →
    IsOneOf (row, cause) (closure_of w named).ended ↔ EndsOf w named row cause

-- a bridge of a live channel ends exactly where one of its legs hangs up
abbrev pub EndsWithALeg : Type 0
EndsWithALeg =
    (w : World) (named : Members) (slot : ℕ) (row : Row) → AreLines w → AreNamed w named →
    w.live slot ≡ true → w.row slot ≡ Some row →
    ((cause : Cause) × IsOneOf (row, cause) (closure_of w named).ended)
    ↔ ((leg : ℕ) × (has_leg leg row ≡ true) × (has_slot leg (members_of w named) ≡ true))

-- no slot is a leg of two of those that end, so no bridge ends twice
abbrev pub NoBridgeEndsTwice : Type 0
NoBridgeEndsTwice =
    (w : World) (named : Members) (slot : ℕ) → AreLines w → AreNamed w named →
    count_by (λ end. has_leg slot end.0) (closure_of w named).ended ≤ 1

-- ---- who outlives a bridge

-- whoever is left by one who hangs up, and does not hang up, outlives a bridge to do what it then does, and nobody else
abbrev pub SurvivorsAreLeft : Type 0
SurvivorsAreLeft =
    (w : World) (named : Members) (slot : ℕ) (after : After) → AreLines w → AreNamed w named →
    IsOneOf (slot, after) (closure_of w named).survivors
    ↔ ((by : Member) × IsOneOf by (members_of w named) × IsLeft w by slot after × (has_slot slot (members_of w named) ≡ false))
