-- What holds of all who hang up where some channels leave, of the bridges that end by that, and of who outlives them.
use Rattle.std.specs.Prelude.{◌≡◌, ◌≤◌, ◌<◌, ◌⊎◌, ◌↔◌, ℕ, eqb, true, false, None, Some, List, [], ◌++◌, All, count_by}
use Rattle.std.specs.List.{IsDistinct, AllPairs}
use Rattle.fs_text.specs.declared.causes.Cause.{Cause}
use Rattle.fs_text.specs.declared.causes.Cause.TheVariants.{NormalClearing}
use Rattle.fs_bridge.specs.declared.row.Row.{Row}
use Rattle.fs_bridge.specs.declared.after.After.{After}
use Rattle.fs_bridge.specs.declared.after.After.TheVariants.{Hangup}
use Rattle.fs_bridge.specs.Bridges.{has_leg}
use Rattle.fs_bridge.specs.Worlds.{World, AreLines}
use Rattle.fs_bridge.specs.Orders.{has_slot}
use Rattle.fs_bridge.specs.Closure.{Member, Members, AreNamed, hangup_cause, closure_of}
use Rattle.fs_bridge.specs.Hangups.{IsOneOf}
use Rattle.fs_bridge.specs.Rounds.{IsLeft, IsInRound}
use Rattle.fs_bridge.specs.Endings.{EndsOf}
use Rattle.fs_bridge.specs.Leaving.{leaver, parted_world, first_round, closure_of_leaving}

-- ---- who hangs up, and who leaves

-- those who hang up first, and those who leave: all live, no two of one list are one, and there are none of the one or of the other
pub record AreLeaving (w : World) (first : Members) (left : List ℕ) : Type 0 where
  pub named : AreNamed w first
  pub live : All (λ slot. w.live slot ≡ true) left
  pub differ : IsDistinct eqb left
  pub alone : (first ≡ []) ⊎ (left ≡ [])

-- where nobody leaves, it comes to what the hangup of the others does
abbrev pub NobodyLeaves : Type 0
NobodyLeaves =
    (w : World) (first : Members) →
    closure_of_leaving w first [] ≡ record { parted = []; ends = closure_of w first; leavers = [] }

-- ---- who is left

-- one who leaves has a bridge whose other leg is this channel, which does not leave, too, and does this
pub record IsLeftBehind (w : World) (left : List ℕ) (slot : ℕ) (after : After) : Type 0 where
  pub by : ℕ
  pub leaves : IsOneOf by left
  pub other : IsLeft w (leaver by) slot after
  pub stays : ¬ IsOneOf slot left

-- in round 0 are those who hang up first, and those who are left and do not outlive it
abbrev pub FirstAreNamedOrLeft : Type 0
FirstAreNamedOrLeft =
    (w : World) (first : Members) (left : List ℕ) (m : Member) →
    IsOneOf m (first_round w first left) ↔ (IsOneOf m first ⊎ IsLeftBehind w left m.0 (Hangup m.1))

-- whoever is left and hangs up does so of a normal clearing
abbrev pub LeftClear : Type 0
LeftClear = (w : World) (left : List ℕ) (slot : ℕ) (cause : Cause) → IsLeftBehind w left slot (Hangup cause) → cause ≡ NormalClearing

-- ---- the rounds

-- once the bridges that are left have ended, a channel is left by another exactly where it is now, by a bridge of which nobody who leaves
-- is a leg
abbrev pub OthersStand : Type 0
OthersStand =
    (w : World) (left : List ℕ) (by : Member) (slot : ℕ) (after : After) →
    IsLeft (parted_world w left) by slot after
    ↔ ((is : IsLeft w by slot after) × ((leg : ℕ) → IsOneOf leg left → has_leg leg is.row ≡ false))

-- once the bridges that are left have ended, a switch answers as before; and those of round 0 live, and no two of them are in one slot.
-- So what holds of a hangup holds there.
abbrev pub LeavingIsAHangup : Type 0
LeavingIsAHangup =
    (w : World) (first : Members) (left : List ℕ) → AreLines w → AreLeaving w first left →
    AreLines (parted_world w left) × AreNamed (parted_world w left) (first_round w first left)

-- a channel hangs up in this round, of this cause, where the bridges that are left drag nobody
abbrev pub HangsUpIn : World → Members → List ℕ → ℕ → Member → Type 0
HangsUpIn w first left n m = IsInRound (parted_world w left) (first_round w first left) n m

-- whoever hangs up is in a round, of that cause, and whoever is in a round hangs up
abbrev pub MembersAreOfRounds : Type 0
MembersAreOfRounds =
    (w : World) (first : Members) (left : List ℕ) (m : Member) → AreLines w → AreLeaving w first left →
    IsOneOf m (closure_of_leaving w first left).ends.members ↔ ((n : ℕ) × HangsUpIn w first left n m)

-- nobody is in two rounds, nor in one of two causes
abbrev pub OfOneRoundAndCause : Type 0
OfOneRoundAndCause =
    (w : World) (first : Members) (left : List ℕ) (slot n other : ℕ) (cause its : Cause) → AreLines w → AreLeaving w first left →
    HangsUpIn w first left n (slot, cause) → HangsUpIn w first left other (slot, its) → (n ≡ other) × (cause ≡ its)

-- ---- the bridges that end

-- a bridge is among those that end as they are left exactly where one who leaves is part of it, and ends of a normal clearing
abbrev pub PartedAreLeft : Type 0
PartedAreLeft =
    (w : World) (first : Members) (left : List ℕ) (row : Row) (cause : Cause) → AreLines w → AreLeaving w first left →
    IsOneOf (row, cause) (closure_of_leaving w first left).parted
    ↔ ((slot : ℕ) × IsOneOf slot left × (w.row slot ≡ Some row) × (cause ≡ NormalClearing))

-- these stand in order of their numbers
abbrev pub PartedAreInOrder : Type 0
PartedAreInOrder =
    (w : World) (first : Members) (left : List ℕ) →
    AllPairs (λ end later. end.0.number ≤ later.0.number) (closure_of_leaving w first left).parted

-- each other one ends of the cause of the leg that died first
abbrev pub OthersEndOfTheFirst : Type 0
OthersEndOfTheFirst =
    (w : World) (first : Members) (left : List ℕ) (row : Row) (cause : Cause) → AreLines w → AreLeaving w first left →
    IsOneOf (row, cause) (closure_of_leaving w first left).ends.ended
    ↔ EndsOf (parted_world w left) (first_round w first left) row cause

-- a bridge of a live channel ends exactly where one of its legs leaves or hangs up
abbrev pub EndsWithALegOrLeaver : Type 0
EndsWithALegOrLeaver =
    (w : World) (first : Members) (left : List ℕ) (slot : ℕ) (row : Row) → AreLines w → AreLeaving w first left →
    w.live slot ≡ true → w.row slot ≡ Some row →
    ((cause : Cause)
    × (IsOneOf (row, cause) (closure_of_leaving w first left).parted
    ⊎ IsOneOf (row, cause) (closure_of_leaving w first left).ends.ended))
    ↔ ((leg : ℕ) × (has_leg leg row ≡ true)
    × (IsOneOf leg left ⊎ (has_slot leg (closure_of_leaving w first left).ends.members ≡ true)))

-- no slot is a leg of two of those that end, so no bridge ends twice
abbrev pub NoneEndsTwice : Type 0
NoneEndsTwice =
    (w : World) (first : Members) (left : List ℕ) (slot : ℕ) → AreLines w → AreLeaving w first left →
    count_by (λ end. has_leg slot end.0)
    ((closure_of_leaving w first left).parted ++ (closure_of_leaving w first left).ends.ended) ≤ 1

-- ---- who lives on

-- whoever is left by one who leaves or hangs up, and does not hang up, outlives a bridge to do what it then does, and nobody else
abbrev pub OthersSurvive : Type 0
OthersSurvive =
    (w : World) (first : Members) (left : List ℕ) (slot : ℕ) (after : After) → AreLines w → AreLeaving w first left →
    IsOneOf (slot, after) (closure_of_leaving w first left).ends.survivors
    ↔ ((IsLeftBehind w left slot after
    ⊎ ((by : Member) × IsOneOf by (closure_of_leaving w first left).ends.members × IsLeft (parted_world w left) by slot after))
    × (has_slot slot (closure_of_leaving w first left).ends.members ≡ false))

-- nobody who outlives a bridge leaves one, or is told to hang up
abbrev pub SurvivorsStay : Type 0
SurvivorsStay =
    (w : World) (first : Members) (left : List ℕ) (survivor : ℕ × After) → AreLines w → AreLeaving w first left →
    IsOneOf survivor (closure_of_leaving w first left).ends.survivors →
    (¬ IsOneOf survivor.0 left) × (hangup_cause survivor.1 ≡ None)

-- whoever leaves and does not hang up lives on, and nobody else
abbrev pub LeaversLive : Type 0
LeaversLive =
    (w : World) (first : Members) (left : List ℕ) (slot : ℕ) →
    IsOneOf slot (closure_of_leaving w first left).leavers
    ↔ (IsOneOf slot left × (has_slot slot (closure_of_leaving w first left).ends.members ≡ false))

-- these stand in order of slots, each once
abbrev pub LeaversAreInOrder : Type 0
LeaversAreInOrder =
    (w : World) (first : Members) (left : List ℕ) →
    AllPairs (λ slot later. slot < later) (closure_of_leaving w first left).leavers
