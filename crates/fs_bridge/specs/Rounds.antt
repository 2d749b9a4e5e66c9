-- In which round of a hangup a channel hangs up, and of which cause, told apart from the lists of the closure.
use Rattle.std.specs.Prelude.{◌≡◌, ◌<◌, ◌≤◌, ◌⊎◌, ℕ, zero, suc, true, Some}
use Rattle.fs_text.specs.declared.causes.Cause.{Cause}
use Rattle.fs_text.specs.declared.causes.Cause.TheVariants.{OriginatorCancel}
use Rattle.fs_vars.specs.Variables.{Variables}
use Rattle.fs_bridge.specs.declared.row.Row.{Row}
use Rattle.fs_bridge.specs.declared.after.After.{After}
use Rattle.fs_bridge.specs.declared.after.After.TheVariants.{Hangup}
use Rattle.fs_bridge.specs.After.{after_bridge}
use Rattle.fs_bridge.specs.Worlds.{World}
use Rattle.fs_bridge.specs.Closure.{Member, Members, peer_in}
use Rattle.fs_bridge.specs.Hangups.{IsOneOf}

-- ---- who drags whom

-- in which way a member drags a channel: as the other end of its loopback channel, as a leg of its origination, or as
-- the other leg of its bridge
pub data Way : Type 0 where
  Partner : Way
  Origination : Way
  Peer : Way

-- the order in which these count
abbrev pub rank : Way → ℕ
rank Partner = 0
rank Origination = 1
rank Peer = 2

-- a slot is that of the other leg of a member's bridge, which by its own variables does this once the member dies
pub record IsLeft (w : World) (by : Member) (slot : ℕ) (after : After) : Type 0 where
  pub row : Row
  pub vars : Variables
  pub bridge : w.row by.0 ≡ Some row
  pub peer : slot ≡ peer_in row by.0
  pub own : w.vars slot ≡ Some vars
  pub does : after_bridge row slot vars by.1 ≡ after

-- a member drags a channel in this way, of this cause
abbrev pub DragsBy : World → Way → Member → Member → Type 0
DragsBy w Partner by m = (w.partner by.0 ≡ Some m.0) × (m.1 ≡ by.1)
DragsBy w Origination by m = IsOneOf m.0 (w.legs by.0) × (m.1 ≡ OriginatorCancel)
DragsBy w Peer by m = IsLeft w by m.0 (Hangup m.1)

-- a pair of numbers comes before another, or is the same: the first numbers decide, and where they are equal the second
abbrev pub IsNoLater : (first second other_first other_second : ℕ) → Type 0
IsNoLater first second other_first other_second =
    (first < other_first) ⊎ ((first ≡ other_first) × (second ≤ other_second))

-- one of a round drags a channel, and no other that drags it does so from a lesser slot, nor from that slot in an
-- earlier way
pub record IsDraggedFirst (w : World) (Round : Member → Type 0) (m : Member) : Type 0 where
  pub by : Member
  pub way : Way
  pub one : Round by
  pub drags : DragsBy w way by m
  pub first : (other : Member) (also : Way) (cause : Cause) → Round other → DragsBy w also other (m.0, cause) →
      IsNoLater by.0 (rank way) other.0 (rank also)

-- ---- the rounds

-- a channel lives, has hung up neither before a round nor in it, and is dragged by that round, first of this cause
pub record HangsUpNext (w : World) (Before : ℕ → Type 0) (Round : Member → Type 0) (m : Member) : Type 0 where
  pub lives : w.live m.0 ≡ true
  pub before : ¬ Before m.0
  pub in_it : (cause : Cause) → ¬ Round (m.0, cause)
  pub first : IsDraggedFirst w Round m

abbrev mutual
  -- a channel hangs up in this round, of this cause: round 0 is of those that are named
  pub IsInRound : World → Members → ℕ → Member → Type 0
  IsInRound w named zero m = IsOneOf m named
  IsInRound w named (suc n) m = HangsUpNext w (IsBefore w named n) (IsInRound w named n) m

  -- the channel in a slot hangs up before this round
  pub IsBefore : World → Members → ℕ → ℕ → Type 0
  IsBefore w named zero slot = ⊥
  IsBefore w named (suc n) slot = IsBefore w named n slot ⊎ ((cause : Cause) × IsInRound w named n (slot, cause))
