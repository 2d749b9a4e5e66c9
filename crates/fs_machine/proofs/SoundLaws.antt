-- The state behind every run is sound.
use Rattle.std.proofs.Common.{◌≡◌, ℕ, true, List, map, Option, None, Some, slice_get, option_map, option_and_then, unwrap_or, refl, sym, ap, ◌∙◌}
use Rattle.std.proofs.lemmas.Option.{none-some, same_Some}
use Rattle.fs_text.specs.declared.causes.Cause.TheVariants.{LoseRace}
use Rattle.fs_bridge.specs.Closure.{Members}
use Rattle.fs_orig.specs.declared.leg.OrigLeg.{OrigLeg}
use Rattle.fs_orig.specs.Legs.{living_slots}
use Rattle.fs_orig.proofs.VerdictLemmas.{winner_lives}
use Rattle.fs_doc.specs.Reading.{Configuration}
use Rattle.fs_doc.specs.Limits.{IsWithin}
use Rattle.fs_state.specs.Switch.{Switch, empty, chan_at, without_orig, at_moment}
use Rattle.fs_state.specs.Bridging.{can_join}
use Rattle.fs_machine.specs.declared.attempts.WonLeg.{WonLeg}
use Rattle.fs_machine.specs.Attempts.{won_in, won_leg, others, after_losses, death_of}
use Rattle.fs_machine.specs.Bridging.{after_win_told}
use Rattle.fs_machine.specs.declared.entry.Entry.{Entry}
use Rattle.fs_machine.specs.Runs.{run_from, IsRunFrom, StandsFor}
use Rattle.fs_machine.specs.Sound.{HasLeg, IsSound}
use Rattle.fs_machine.specs.Winners.{IsWonFor, WinnersCanJoin}
use Rattle.fs_machine.proofs.Kept.{raced, HasWon}
use Rattle.fs_machine.proofs.TryWalk.{others_lose}
use Rattle.fs_machine.proofs.WonLemmas.{can_join_touches, win_told_kept}
use Rattle.fs_machine.proofs.JoinableLemmas.{winner_joins}
use Rattle.fs_machine.proofs.BondTables.{NoSlot}
use Rattle.fs_machine.proofs.BondHangups.{hung_bonds}
use Rattle.fs_machine.proofs.AwaitedLemmas.{hung_await}
use Rattle.fs_machine.proofs.StandingLemmas.{Standing, at_its_moment, number_left, standing_run}
use Rattle.fs_machine.proofs.SoundLemmas.{partners_agree, live_has_partner, profiles_are_short, identifiers_differ, run_has_legs}
use Rattle.fs_machine.proofs.SoundLemmas.{run_legs_undecided, failures_are_told, run_rows_agree, run_waits_bridged, owners_wait}
use Rattle.fs_machine.proofs.SoundLemmas.{run_holders_agree}
use Rattle.fs_machine.proofs.OwedLaws.{run_is_owed}
use Rattle.fs_machine.proofs.OutboxMoves.{events_are_few}
use Rattle.fs_machine.proofs.StillMoves.{stopped_is_over, is_still}

-- the state behind every run is
pub sound_run : (config : Configuration) (entries : List Entry) → IsWithin config → IsRunFrom (empty config) entries →
    IsSound (run_from (empty config) entries)
sound_run config entries within run = record {
  partners = partners_agree config entries;
  live = live_has_partner config entries within run;
  profiles = profiles_are_short config entries within run;
  identifiers = identifiers_differ config entries within run;
  legs = run_has_legs config entries within run;
  undecided = run_legs_undecided config entries within run;
  failures = failures_are_told config entries within run;
  rows = run_rows_agree config entries within run;
  bridged = run_waits_bridged config entries within run;
  owners = owners_wait config entries within run;
  controllers = run_holders_agree config entries within run;
  owed = run_is_owed config entries within run;
  events = events_are_few config entries within run;
  still = λ stops. is_still (run_from (empty config) entries) (stopped_is_over config entries run stops);
  numbers = number_left (run_from (empty config) entries) (standing_run config entries within run);
}

-- and so is that of a machine
pub sound_state : (config : Configuration) (kept : Switch) (journal : List Entry) → IsWithin config → StandsFor config kept journal →
    IsSound (run_from (empty config) journal)
sound_state config kept journal within stands = sound_run config journal within stands.defined

-- ---- who has won

-- the leg of a won origination
record IsWonLeg (found : Option OrigLeg) (leg : WonLeg) : Type 0 where
  its : OrigLeg
  at : found ≡ Some its
  slot : its.slot ≡ Some leg.slot

won_leg_is : (found : Option OrigLeg) (leg : WonLeg) → option_and_then won_leg found ≡ Some leg → IsWonLeg found leg
won_leg_is None leg is = absurd (none-some leg is)
won_leg_is (Some its) leg is = by its.slot refl is
  where
    by : (slot : Option ℕ) → its.slot ≡ slot → option_map (won_in its) slot ≡ Some leg → IsWonLeg (Some its) leg
    by None none is = absurd (none-some leg is)
    by (Some slot) at is = record {
      its = its;
      at = refl;
      slot = at ∙ ap (λ (won : WonLeg). Some won.slot) (same_Some (won_in its slot) leg is);
    }

winner_can : (s : Switch) → Standing s → (slot number : ℕ) (leg : WonLeg) (won : IsWonFor s slot number leg) →
    can_join slot leg.slot (after_win_told slot (without_orig number (after_losses won.position won.orig.legs s))) ≡ true
winner_can s h slot number leg won =
    let w : IsWonLeg (slice_get won.orig.legs won.position) leg =
    won_leg_is (slice_get won.orig.legs won.position) leg won.is in
    let slots : List ℕ = living_slots (others won.position won.orig.legs) in
    let has : HasLeg s number w.its =
    record {
      orig = won.orig;
      there = won.there;
      position = won.position;
      at = w.at;
      lives = winner_lives s.moment won.position won.orig w.its won.won w.at;
    } in
    let at : unwrap_or w.its.slot 0 ≡ leg.slot = ap (λ (found : Option ℕ). unwrap_or found 0) w.slot in
    let wins : HasWon s number w.its slots =
    record {
      has = has;
      survives = ap (λ (seat : ℕ). death_of (chan_at (raced slots s) seat)) at ∙ won.lives;
      others = others_lose s number w.its has;
    } in
    let named : Members = map (λ loser. (loser, LoseRace)) slots in
    let joins : can_join slot (unwrap_or w.its.slot 0) (raced slots s) ≡ true =
    winner_joins s slot number w.its slots h.legs (number_left s h) wins (hung_bonds named s h.bonds) (hung_await NoSlot named s h.waits) won.waits in
    win_told_kept (λ (t : Switch). can_join slot leg.slot t ≡ true) (can_join_touches slot leg.slot) slot
    (without_orig number (raced slots s))
    (ap (λ (seat : ℕ). can_join slot seat (raced slots s)) (sym at) ∙ joins)

pub winners_join : (config : Configuration) (entries : List Entry) (moment : ℕ) → IsWithin config → IsRunFrom (empty config) entries →
    WinnersCanJoin (at_moment moment (run_from (empty config) entries))
winners_join config entries moment within run = record {
  each = winner_can (at_moment moment (run_from (empty config) entries))
      (at_its_moment moment (run_from (empty config) entries) (standing_run config entries within run));
}
