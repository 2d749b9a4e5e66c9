-- A leg that has won what a channel dials can be joined to that channel.
use Rattle.std.proofs.Common.{◌≡◌, ◌≢◌, ℕ, ◌+◌, ◌^◌, true, List, map, Option, None, Some, unwrap_or, option_and_then, is_some, refl}
use Rattle.std.proofs.Common.{sym, ap, ◌∙◌}
use Rattle.std.specs.Prelude.{nat_lt}
use Rattle.std.proofs.lemmas.Bool.{eqb-true, false≢true}
use Rattle.std.proofs.lemmas.Option.{none-some, same_Some}
use Rattle.fs_text.specs.declared.causes.Cause.TheVariants.{LoseRace}
use Rattle.fs_bridge.specs.Bridges.{has_number_left}
use Rattle.fs_bridge.specs.declared.row.Row.{Row}
use Rattle.fs_chan.specs.declared.chan.Chan.{Chan}
use Rattle.fs_chan.specs.Bridging.{awaited_by}
use Rattle.fs_chan.specs.Changes.{is_live}
use Rattle.fs_orig.specs.declared.leg.OrigLeg.{OrigLeg}
use Rattle.fs_orig.specs.Legs.{is_at}
use Rattle.fs_state.specs.Switch.{Switch, chan_at, bridge_at}
use Rattle.fs_state.specs.Hangups.{lives}
use Rattle.fs_state.specs.Bridging.{can_join}
use Rattle.fs_state.proofs.LegTables.{berthed}
use Rattle.fs_machine.specs.Attempts.{awaits}
use Rattle.fs_machine.proofs.Kept.{raced, HasWon}
use Rattle.fs_machine.proofs.DrawnLemmas.{hung_drawn}
use Rattle.fs_machine.proofs.LegLemmas.{roles_of, IsLegOf, LegsStand}
use Rattle.fs_machine.proofs.LegHangups.{winning_leg}
use Rattle.fs_machine.proofs.BondTables.{Bonds}
use Rattle.fs_machine.proofs.BondHangups.{leg_held}
use Rattle.fs_machine.proofs.AwaitedLemmas.{Awaits}
use Rattle.fs_machine.proofs.CanLemmas.{can_join_by}

-- the channel in a slot waits for an origination
record IsWaitingFor (s : Switch) (slot orig : ℕ) : Type 0 where
  chan : Chan
  there : chan_at s slot ≡ Some chan
  waits : awaited_by chan ≡ Some orig

number_is : (orig : ℕ) (found : Option ℕ) → is_at orig found ≡ true → found ≡ Some orig
number_is orig None is = absurd (false≢true is)
number_is orig (Some other) is = ap Some (eqb-true other orig is)

is_waiting_for : (s : Switch) (slot orig : ℕ) → awaits slot orig s ≡ true → IsWaitingFor s slot orig
is_waiting_for s slot orig is = by (chan_at s slot) refl is
  where
    by : (found : Option Chan) → chan_at s slot ≡ found → is_at orig (option_and_then awaited_by found) ≡ true → IsWaitingFor s slot orig
    by None there is = absurd (false≢true is)
    by (Some c) there is = record { chan = c; there = there; waits = number_is orig (awaited_by c) is }

-- one that waits for an origination, and a live leg of it
module _ (s : Switch) (slot leg orig : ℕ) (left : has_number_left s.bridges ≡ true) (bonds : Bonds s) (owners : Awaits s)
    (one : IsWaitingFor s slot orig) (other : Chan) (there : chan_at s leg ≡ Some other) (live : is_live other ≡ true)
    (names : other.leg_of ≡ Some orig) where
  differ : slot ≢ leg
  differ same =
      let is : one.chan ≡ other = same_Some one.chan other (sym one.there ∙ (ap (chan_at s) same ∙ there)) in
      let free : awaited_by other ≡ None = (bonds.apt leg other there).free (ap is_some names) in
      none-some orig (sym free ∙ (ap awaited_by (sym is) ∙ one.waits))

  -- neither is in a bridge
  waits_alone : bridge_at s slot ≡ None
  waits_alone = by (bridge_at s slot) refl
    where
      by : (found : Option Row) → bridge_at s slot ≡ found → found ≡ None
      by None part = refl
      by (Some row) part =
          absurd (none-some orig (sym ((leg_held s slot row bonds part).dials one.chan one.there) ∙ one.waits))

  leg_alone : bridge_at s leg ≡ None
  leg_alone = by (bridge_at s leg) refl
    where
      by : (found : Option Row) → bridge_at s leg ≡ found → found ≡ None
      by None part = refl
      by (Some row) part = absurd (none-some orig (sym ((leg_held s leg row bonds part).lone other there) ∙ names))

  both_join : can_join slot leg s ≡ true
  both_join =
      can_join_by slot leg s differ (ap lives one.there ∙ owners.live slot orig one.chan one.there one.waits) (ap lives there ∙ live)
      waits_alone leg_alone left

pub winner_joins : (before : Switch) (slot orig : ℕ) (leg : OrigLeg) (slots : List ℕ) → LegsStand (roles_of before) →
    has_number_left before.bridges ≡ true → HasWon before orig leg slots → Bonds (raced slots before) → Awaits (raced slots before) →
    awaits slot orig (raced slots before) ≡ true →
    can_join slot (unwrap_or leg.slot 0) (raced slots before) ≡ true
winner_joins before slot orig leg slots stand left won bonds owners waits =
    let s : Switch = raced slots before in
    let still : has_number_left s.bridges ≡ true =
    ap (λ drawn. nat_lt (drawn + 1) (2 ^ 64)) (hung_drawn (map (λ loser. (loser, LoseRace)) slots) before) ∙ left in
    let stands : IsLegOf s.channels (berthed orig leg.slot) = winning_leg before orig leg slots won stand in
    let at : chan_at s (unwrap_or leg.slot 0) ≡ Some stands.chan =
    ap (λ (which : Option ℕ). chan_at s (unwrap_or which 0)) stands.is ∙ stands.there in
    both_join s slot (unwrap_or leg.slot 0) orig still bonds owners (is_waiting_for s slot orig waits) stands.chan at stands.live stands.names
