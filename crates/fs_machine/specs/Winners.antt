-- When a channel is to be joined to the leg that has won what it dialed.
use Rattle.std.specs.Prelude.{◌≡◌, ℕ, true, None, Some, slice_get}
use Rattle.std.specs.Option.{option_and_then}
use Rattle.fs_orig.specs.declared.orig.Orig.{Orig}
use Rattle.fs_orig.specs.declared.verdict.Verdict.TheVariants.{Won}
use Rattle.fs_orig.specs.Verdicts.{verdict_of}
use Rattle.fs_state.specs.Switch.{Switch, chan_at, orig_of, without_orig}
use Rattle.fs_state.specs.Bridging.{can_join}
use Rattle.fs_machine.specs.declared.attempts.WonLeg.{WonLeg}
use Rattle.fs_machine.specs.Attempts.{awaits, won_leg, after_losses, death_of}
use Rattle.fs_machine.specs.Bridging.{after_win_told}

-- The origination of a number is won by this leg, as a switch stands at its moment. Once the others have lost the race, the leg lives, and the
-- channel in a slot waits for the origination.
pub record IsWonFor (s : Switch) (slot number : ℕ) (leg : WonLeg) : Type 0 where
  pub orig : Orig
  pub there : orig_of s number ≡ Some orig
  pub position : ℕ
  pub won : verdict_of s.moment orig ≡ Won position
  pub is : option_and_then won_leg (slice_get orig.legs position) ≡ Some leg
  pub lives : death_of (chan_at (after_losses position orig.legs s) leg.slot) ≡ None
  pub waits : awaits slot number (after_losses position orig.legs s) ≡ true

-- a channel for which an origination is won can be joined to the leg, as it comes to that
pub record WinnersCanJoin (s : Switch) : Type 0 where
  pub each : (slot number : ℕ) (leg : WonLeg) (won : IsWonFor s slot number leg) →
      can_join slot leg.slot (after_win_told slot (without_orig number (after_losses won.position won.orig.legs s))) ≡ true
