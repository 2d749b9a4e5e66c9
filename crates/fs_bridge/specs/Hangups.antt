-- What holds of all who hang up.
use Rattle.std.specs.Prelude.{◌≡◌, ◌≤◌, ◌⊎◌, ◌↔◌, ◌==◌, ℕ, true, false, None, List, [], ◌∷◌, count_by}
use Rattle.fs_bridge.specs.Worlds.{World, AreLines}
use Rattle.fs_bridge.specs.Orders.{has_slot}
use Rattle.fs_bridge.specs.Closure.{Member, Members, AreNamed, drags, hangup_cause, members_of, closure_of}
use Rattle.fs_bridge.specs.declared.after.After.{After}

-- it is one of them
abbrev pub IsOneOf : {X : Type 0} → X → List X → Type 0
IsOneOf x [] = ⊥
IsOneOf x (y ∷ ys) = (x ≡ y) ⊎ IsOneOf x ys

-- one of the members drags it
pub record IsDragged (w : World) (members : Members) (m : Member) : Type 0 where
  pub by : Member
  pub member : IsOneOf by members
  pub dragged : IsOneOf m (drags w by)

-- whoever hangs up is named, or dragged by one who hangs up
abbrev pub EachIsNamedOrDragged : Type 0
EachIsNamedOrDragged =
    (w : World) (named : Members) (m : Member) → IsOneOf m (members_of w named) →
    IsOneOf m named ⊎ IsDragged w (members_of w named) m

-- nobody hangs up twice
abbrev pub NobodyTwice : Type 0
NobodyTwice = (w : World) (named : Members) (slot : ℕ) → count_by (λ m. m.0 == slot) (members_of w named) ≤ 1

-- whoever lives and is dragged by one who hangs up, hangs up
abbrev pub EachDraggedHangsUp : Type 0
EachDraggedHangsUp =
    (w : World) (named : Members) (m : Member) → AreLines w → AreNamed w named →
    IsDragged w (members_of w named) m → w.live m.0 ≡ true → has_slot m.0 (members_of w named) ≡ true

-- who hangs up by the closure is who does round by round
abbrev pub RoundsAreMembers : Type 0
RoundsAreMembers =
    (w : World) (named : Members) (m : Member) →
    IsOneOf m (closure_of w named).members ↔ IsOneOf m (members_of w named)

-- nobody who outlives a bridge hangs up
abbrev pub NoSurvivorHangsUp : Type 0
NoSurvivorHangsUp =
    (w : World) (named : Members) (survivor : ℕ × After) → AreLines w → AreNamed w named →
    IsOneOf survivor (closure_of w named).survivors →
    (has_slot survivor.0 (members_of w named) ≡ false) × (hangup_cause survivor.1 ≡ None)
