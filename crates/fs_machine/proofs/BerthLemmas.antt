-- Whatever channel names an origination is a living leg of it, behind a hangup and behind channels that leave.
use Rattle.std.proofs.Common.{◌≡◌, ◌≢◌, ℕ, Bool, true, false, if◌then◌else◌, List, [], ◌∷◌, ◌++◌, map, Option, None, Some, is_some}
use Rattle.std.proofs.Common.{option_and_then, ◌⊎◌, inl, inr, refl, sym, ap, subst, ◌∙◌, true≢false}
use Rattle.std.proofs.lemmas.Bool.{cases_eq, false≢true}
use Rattle.std.proofs.lemmas.List.Elements.{filter_passes}
use Rattle.std.proofs.lemmas.Option.{none-some, same_Some}
use Rattle.fs_text.specs.declared.causes.Cause.{Cause}
use Rattle.fs_text.specs.declared.causes.Cause.TheVariants.{OriginatorCancel}
use Rattle.fs_text.specs.declared.states.State.TheVariants.{CsHangup}
use Rattle.fs_bridge.specs.declared.after.After.TheVariants.{Hangup}
use Rattle.fs_bridge.specs.declared.row.Row.{Row}
use Rattle.fs_bridge.specs.Closure.{Member, Members, by_partner, by_origination, by_peer, cancelled, peer_in, members_of, closure_of}
use Rattle.fs_bridge.specs.Hangups.{IsOneOf}
use Rattle.fs_bridge.specs.Leaving.{parted_world, first_round}
use Rattle.fs_bridge.specs.Leavings.{IsLeftBehind}
use Rattle.fs_bridge.specs.Orders.{has_slot}
use Rattle.fs_bridge.specs.Worlds.{World, IsSlot}
use Rattle.fs_bridge.proofs.DragLemmas.{one_front, one_back}
use Rattle.fs_bridge.proofs.OnceLemmas.{has_order}
use Rattle.fs_bridge.proofs.PartLemmas.{all_from_one, first_are_named_or_left}
use Rattle.fs_bridge.proofs.SettledLemmas.{AreSlots, AreLive, dragged_hang_up}
use Rattle.fs_chan.specs.declared.chan.Chan.{Chan}
use Rattle.fs_chan.specs.Bridging.{awaited_by, at_leisure}
use Rattle.fs_chan.specs.Changes.{is_live, hung_up}
use Rattle.fs_orig.specs.declared.orig.Orig.{Orig}
use Rattle.fs_orig.specs.Changes.{with_answer, with_death}
use Rattle.fs_orig.specs.Legs.{living_slots}
use Rattle.fs_seats.specs.Seats.{held_in, with_held}
use Rattle.fs_seats.specs.Rows.{with_row, without_row}
use Rattle.fs_seats.proofs.TableLemmas.{IsWrittenOrKept, written_or_kept}
use Rattle.fs_state.specs.declared.event.Event.{Event}
use Rattle.fs_state.specs.Switch.{Switch, chan_at, with_chan, bridge_at, without_bridge, with_event, orig_of, without_orig}
use Rattle.fs_state.specs.Moves.{with_state_events, orig_changed_from, orig_changed, leg_changed, its_leg_changed}
use Rattle.fs_state.specs.Moves.{hangup_event, is_owner, given_up_by, orig_given_up, after_hangup_from, after_one_hangup}
use Rattle.fs_state.specs.Hangups.{lives, lives_at, living_in, legs_at, row_at, world_of, living_of, after_hangups}
use Rattle.fs_state.specs.Leaving.{all_legs_at, living_among, after_bridges_left}
use Rattle.fs_state.specs.Queues.{queue_at}
use Rattle.fs_state.proofs.LegTables.{Origs, berth_at, in_slot}
use Rattle.fs_machine.specs.Joining.{after_leaving, after_farewell, after_farewells, after_departures}
use Rattle.fs_machine.specs.Sound.{IsLegIn}
use Rattle.fs_machine.proofs.StayLemmas.{hangup_dead, park_lives, idle_lives, state_told_kept, changed_there}
use Rattle.fs_machine.proofs.CameLemmas.{IsLess, CameFrom, Came, rest_less, park_less, hung_less, freed_less, came_self}
use Rattle.fs_machine.proofs.CameLemmas.{came_put, came_hung, came_bridges_left, came_left}
use Rattle.fs_machine.proofs.LivingLemmas.{lives_there, living_there}
use Rattle.fs_machine.proofs.TieLemmas.{lives_as}
use Rattle.fs_machine.proofs.AbortLemmas.{queue_left_kept}
use Rattle.fs_machine.proofs.FreeLemmas.{Holds, holds_hung, holds_bridges_left, holds_left}
use Rattle.fs_machine.proofs.HangLemmas.{dies, Falls, Cut, Unbridged, Rests, Parks, Settles, Freed, Resumes, Halts}
use Rattle.fs_machine.proofs.HangLemmas.{hangups_kept_by, hangs_as_left, bridges_left_kept_by}
use Rattle.fs_machine.proofs.ClosureLemmas.{NoneAtZero, are_slots, hangs_up, HasMember, has_member}
use Rattle.fs_machine.proofs.CutLemmas.{DeadAt, members_die, left_die, slots_die}
use Rattle.fs_machine.proofs.LegLemmas.{Roles, roles_of, IsLegOf, LegsStand}
use Rattle.fs_machine.proofs.LegHangups.{hung_legs}
use Rattle.fs_machine.proofs.PartnerMoves.{hung_zero}
use Rattle.fs_machine.proofs.BondRows.{leg_part, peer_leg}
use Rattle.fs_machine.proofs.BondLemmas.{row_seen}
use Rattle.fs_machine.proofs.BondTables.{NamesPeer, Bonds, NoSlot}
use Rattle.fs_machine.proofs.BondHangups.{hung_bonds}
use Rattle.fs_machine.proofs.BerthTables.{HasBerth, answered_stays, died_stays, row_stays, gone_stays, leg_in}

-- ---- what holds of channels and originations

-- each channel that names an origination is a living leg of it, or is in a slot that is open
abbrev pub BerthedBut : (ℕ → Type 0) → Roles → Type 0
BerthedBut open_at r =
    (slot number : ℕ) (c : Chan) → held_in r.channels slot ≡ Some c → c.leg_of ≡ Some number → open_at slot ⊎ HasBerth r.origs number slot

abbrev pub Berthed : Switch → Type 0
Berthed s = BerthedBut NoSlot (roles_of s)

-- it has its berth
pub berth_now : (s : Switch) → Berthed s → (slot number : ℕ) (c : Chan) → chan_at s slot ≡ Some c → c.leg_of ≡ Some number →
    HasBerth s.origs number slot
berth_now s h slot number c there names = by (h slot number c there names)
  where
    by : NoSlot slot ⊎ HasBerth s.origs number slot → HasBerth s.origs number slot
    by (inl none) = absurd none
    by (inr berth) = berth

-- ---- channels are changed

pub put_berthed : (open_at : ℕ → Type 0) (r : Roles) (seat : ℕ) (old new : Chan) → held_in r.channels seat ≡ Some old →
    ((number : ℕ) → new.leg_of ≡ Some number → old.leg_of ≡ Some number) → BerthedBut open_at r →
    BerthedBut open_at (record r { channels = with_held r.channels seat (Some new) })
put_berthed open_at r seat old new there names h slot number c is named = by (written_or_kept r.channels seat (Some new) slot c is)
  where
    by : IsWrittenOrKept r.channels seat (Some new) slot c → open_at slot ⊎ HasBerth r.origs number slot
    by (inl here) =
        h slot number old (ap (held_in r.channels) here.0 ∙ there)
        (names number (ap (λ (d : Chan). d.leg_of) (same_Some new c here.1) ∙ named))
    by (inr kept) = h slot number c kept.1 named

-- the one in a slot that is open comes to name none
pub close_berthed : (r : Roles) (seat : ℕ) (new : Chan) → new.leg_of ≡ None → BerthedBut (λ slot. slot ≡ seat) r →
    BerthedBut NoSlot (record r { channels = with_held r.channels seat (Some new) })
close_berthed r seat new none h slot number c is named = by (written_or_kept r.channels seat (Some new) slot c is)
  where
    either : slot ≢ seat → (slot ≡ seat) ⊎ HasBerth r.origs number slot → NoSlot slot ⊎ HasBerth r.origs number slot
    either other (inl same) = absurd (other same)
    either other (inr berth) = inr berth

    by : IsWrittenOrKept r.channels seat (Some new) slot c → NoSlot slot ⊎ HasBerth r.origs number slot
    by (inl here) =
        absurd (none-some number (sym none ∙ (ap (λ (d : Chan). d.leg_of) (same_Some new c here.1) ∙ named)))
    by (inr kept) = either kept.0 (h slot number c kept.1 named)

-- ---- originations are changed

-- each living leg stays
abbrev Stay : Origs → Origs → Type 0
Stay old new = (number slot : ℕ) → HasBerth old number slot → HasBerth new number slot

rows_berthed : (open_at : ℕ → Type 0) (r : Roles) (origs : Origs) → Stay r.origs origs → BerthedBut open_at r →
    BerthedBut open_at (record r { origs = origs })
rows_berthed open_at r origs stay h slot number c there names = by (h slot number c there names)
  where
    by : open_at slot ⊎ HasBerth r.origs number slot → open_at slot ⊎ HasBerth origs number slot
    by (inl opens) = inl opens
    by (inr berth) = inr (stay number slot berth)

pub answered_berthed : (open_at : ℕ → Type 0) (seat slot number : ℕ) (s : Switch) → BerthedBut open_at (roles_of s) →
    BerthedBut open_at (roles_of (orig_changed (leg_changed (λ position. with_answer position seat) slot) number s))
answered_berthed open_at seat slot number s h = by (orig_of s number) refl
  where
    change : Orig → Orig
    change = leg_changed (λ position. with_answer position seat) slot

    by : (found : Option Orig) → orig_of s number ≡ found → BerthedBut open_at (roles_of (orig_changed_from change number found s))
    by None is = h
    by (Some o) is =
        rows_berthed open_at (roles_of s) (with_row s.origs number (change o))
        (λ n at berth. record {
          seat = berth.seat;
          position = berth.position;
          at = row_stays s.origs number o (change o) is berth.seat berth.position (in_slot n at)
              (λ has. answered_stays seat slot number o berth.position (in_slot n at) has) berth.at;
        }) h

-- an origination goes that no channel names but in slots that are open
pub without_berthed : (open_at : ℕ → Type 0) (number : ℕ) (s : Switch) →
    ((slot : ℕ) (c : Chan) → chan_at s slot ≡ Some c → c.leg_of ≡ Some number → open_at slot) → Berthed s →
    BerthedBut open_at (roles_of (without_orig number s))
without_berthed open_at number s none h slot n c there names = by (cases_eq n number)
  where
    by : (n ≡ number) ⊎ (n ≡ number → ⊥) → open_at slot ⊎ HasBerth (without_row s.origs number) n slot
    by (inl same) = inl (none slot c there (names ∙ ap (λ (m : ℕ). Some m) same))
    by (inr other) =
        let berth : HasBerth s.origs n slot = berth_now s h slot n c there names in
        inr
        (record {
          seat = berth.seat;
          position = berth.position;
          at = gone_stays s.origs number berth.seat berth.position (in_slot n slot) other berth.at;
        })

-- ---- whoever names an origination lives

abbrev pub IsLively : Chan → Type 0
IsLively c = is_some c.leg_of ≡ true → is_live c ≡ true

abbrev pub AllLively : Switch → Type 0
AllLively s = (slot : ℕ) → Holds IsLively s slot

pub all_lively : (s : Switch) → Bonds s → AllLively s
all_lively s bonds slot c there some = idle_lives c.state ((bonds.apt slot c there).idle some)

lively_falls : (hangs : ℕ → Bool) (seat : ℕ) (old new : Chan) → Falls hangs seat old new → IsLively old → IsLively new
lively_falls hangs seat old new (Cut cause hung) h some = absurd (false≢true some)
lively_falls hangs seat old new (Unbridged cause) h some = h some
lively_falls hangs seat old new (Rests outlives live) h some = live
lively_falls hangs seat old new (Parks outlives live) h some = park_lives

-- whoever is dead stays dead
abbrev IsDead : Chan → Type 0
IsDead c = is_live c ≡ false

dead_falls : (hangs : ℕ → Bool) (seat : ℕ) (old new : Chan) → Falls hangs seat old new → IsDead old → IsDead new
dead_falls hangs seat old new (Cut cause hung) h = hangup_dead
dead_falls hangs seat old new (Unbridged cause) h = h
dead_falls hangs seat old new (Rests outlives live) h = h
dead_falls hangs seat old new (Parks outlives live) h = absurd (true≢false (sym live ∙ h))

-- who is dead names none
pub dead_names : (s : Switch) → AllLively s → (slot number : ℕ) (c : Chan) → chan_at s slot ≡ Some c → c.leg_of ≡ Some number →
    lives_at s slot ≡ false → ⊥
dead_names s lively slot number c there names dead =
    true≢false (sym (lively slot c there (ap is_some names)) ∙ (sym (ap lives there) ∙ dead))

-- ---- legs of what a channel dialed

-- a living leg of what the channel in a slot waits for is among those that it dialed
pub leg_dialed : (s : Switch) (slot number at : ℕ) (c : Chan) → chan_at s slot ≡ Some c → awaited_by c ≡ Some number →
    IsLegIn s at number → IsOneOf at (legs_at s slot)
leg_dialed s slot number at c there waits leg =
    let same : legs_at s slot ≡ living_slots leg.has.orig.legs =
    ap (λ (found : Option Chan). living_in (option_and_then (orig_of s) (option_and_then awaited_by found))) there
    ∙ ap (λ (awaited : Option ℕ). living_in (option_and_then (orig_of s) awaited)) waits
    ∙ ap living_in leg.has.there in
    subst (λ (slots : List ℕ). IsOneOf at slots) (sym same)
    (living_there leg.has.orig.legs leg.has.position at leg.leg leg.has.at (lives_there leg.leg at leg.has.lives leg.is))

one_cancelled : (slot : ℕ) (slots : List ℕ) → IsOneOf slot slots → IsOneOf (cancelled slot) (map cancelled slots)
one_cancelled slot [] is = absurd is
one_cancelled slot (first ∷ slots) (inl same) = inl (ap cancelled same)
one_cancelled slot (first ∷ slots) (inr there) = inr (one_cancelled slot slots there)

-- what a channel becomes that is not hung up
settles_less : (hangs : ℕ → Bool) (slot : ℕ) (old new : Chan) → Settles hangs slot old new → IsLess old new
settles_less hangs slot old new (Freed cause) = freed_less cause old
settles_less hangs slot old new (Resumes outlives live) = rest_less old
settles_less hangs slot old new (Halts outlives live) = park_less old

-- ---- whoever hangs up

-- no channel comes to name or to wait for anything, and each leg stays that does not hang up
record Falling (hangs : ℕ → Bool) (s t : Switch) : Type 0 where
  came : Came s t
  stays : (seat position number at : ℕ) → berth_at s.origs seat position ≡ Some (in_slot number at) → hangs at ≡ false →
      berth_at t.origs seat position ≡ Some (in_slot number at)

-- a leg of what one dialed who hangs up does, too
abbrev LegsHang : (ℕ → Bool) → Switch → Type 0
LegsHang hangs s =
    (slot number at : ℕ) (c : Chan) → chan_at s slot ≡ Some c → awaited_by c ≡ Some number → HasBerth s.origs number at →
    hangs slot ≡ true → hangs at ≡ true

module _ (hangs : ℕ → Bool) (s : Switch) (legs_hang : LegsHang hangs s) where
  told_falling : (event : Event) (t : Switch) → Falling hangs s t → Falling hangs s (with_event event t)
  told_falling event t k = record { came = k.came; stays = k.stays }

  put_falling : (slot : ℕ) (old new : Chan) (t : Switch) → chan_at t slot ≡ Some old → Settles hangs slot old new → Falling hangs s t →
      Falling hangs s (with_chan slot (Some new) t)
  put_falling slot old new t there how k =
      record { came = came_put s t slot old new there (settles_less hangs slot old new how) k.came; stays = k.stays }

  end_falling : (number : ℕ) (t : Switch) → Falling hangs s t → Falling hangs s (without_bridge number t)
  end_falling number t k = record { came = k.came; stays = k.stays }

  -- the leg that a channel is dies
  death_falling : (cause : Cause) (slot place : ℕ) (leg_of : Option ℕ) (t : Switch) → hangs slot ≡ true → Falling hangs s t →
      Falling hangs s (its_leg_changed (λ position. with_death position place cause) slot leg_of t)
  death_falling cause slot place None t hung k = k
  death_falling cause slot place (Some number) t hung k = by (orig_of t number) refl
    where
      change : Orig → Orig
      change = dies cause place slot

      by : (found : Option Orig) → orig_of t number ≡ found → Falling hangs s (orig_changed_from change number found t)
      by None is = k
      by (Some o) is = record {
        came = k.came;
        stays = λ seat position n at has apart.
            row_stays t.origs number o (change o) is seat position (in_slot n at)
            (λ old. died_stays place slot number cause o position (in_slot n at)
            (λ same. true≢false (sym hung ∙ (ap hangs (sym (same_Some at slot same)) ∙ apart))) old)
            (k.stays seat position n at has apart);
      }

  -- what it dialed is given up
  given_falling : (slot : ℕ) (c : Chan) (awaited : Option ℕ) (t : Switch) → chan_at s slot ≡ Some c →
      ((number : ℕ) → awaited ≡ Some number → awaited_by c ≡ Some number) → hangs slot ≡ true → Falling hangs s t →
      Falling hangs s (orig_given_up slot awaited t)
  given_falling slot c None t there waits hung k = k
  given_falling slot c (Some number) t there waits hung k = by (orig_of t number)
    where
      gone : Falling hangs s (without_orig number t)
      gone = record {
        came = k.came;
        stays = λ seat position n at has apart.
            gone_stays t.origs number seat position (in_slot n at)
            (λ same. true≢false
            (sym (legs_hang slot n at c there (waits number refl ∙ ap Some (sym same))
            (record { seat = seat; position = position; at = has }) hung) ∙ apart))
            (k.stays seat position n at has apart);
      }

      either : (test : Bool) → Falling hangs s (if test then without_orig number t else t)
      either true = gone
      either false = k

      by : (found : Option Orig) → Falling hangs s (given_up_by slot number found t)
      by None = k
      by (Some o) = either (is_owner slot o.owner)

  one_falling : (cause : Cause) (slot : ℕ) (t : Switch) → hangs slot ≡ true → Falling hangs s t →
      Falling hangs s (after_one_hangup cause slot t)
  one_falling cause slot t hung k = by (chan_at t slot) refl
    where
      cut : Chan → Switch
      cut c = with_state_events c.state CsHangup slot (with_event (hangup_event cause slot) (with_chan slot (Some (hung_up cause c)) t))

      cut_falling : (c : Chan) → chan_at t slot ≡ Some c → Falling hangs s (cut c)
      cut_falling c is =
          state_told_kept (Falling hangs s) told_falling c.state CsHangup slot
          {s = with_event (hangup_event cause slot) (with_chan slot (Some (hung_up cause c)) t)}
          (told_falling (hangup_event cause slot) (with_chan slot (Some (hung_up cause c)) t)
          (record { came = came_put s t slot c (hung_up cause c) is (hung_less cause c) k.came; stays = k.stays }))

      live : (c : Chan) → chan_at t slot ≡ Some c → (test : Bool) →
          Falling hangs s
          (if test then orig_given_up slot (awaited_by c)
          (its_leg_changed (λ position. with_death position t.entries cause) slot c.leg_of (cut c))
          else t)
      live c is true =
          let from : CameFrom s slot c = k.came slot c is in
          given_falling slot from.was (awaited_by c)
          (its_leg_changed (λ position. with_death position t.entries cause) slot c.leg_of (cut c)) from.there from.less.waits hung
          (death_falling cause slot t.entries c.leg_of (cut c) hung (cut_falling c is))
      live c is false = k

      by : (found : Option Chan) → chan_at t slot ≡ found → Falling hangs s (after_hangup_from cause slot found t)
      by None is = k
      by (Some c) is = live c is (is_live c)

  -- each channel that lives still and names an origination is a living leg of it
  fallen_berthed : (t : Switch) → Falling hangs s t → AllLively t → ((slot : ℕ) → hangs slot ≡ true → DeadAt slot t) → Berthed s → Berthed t
  fallen_berthed t k lively dies h slot number c there names = inr (by (hangs slot) refl)
    where
      from : CameFrom s slot c
      from = k.came slot c there

      berth : HasBerth s.origs number slot
      berth = berth_now s h slot number from.was from.there (from.less.names number names)

      by : (test : Bool) → hangs slot ≡ test → HasBerth t.origs number slot
      by true hung = absurd (dead_names t lively slot number c there names (dies slot hung))
      by false apart = record {
        seat = berth.seat;
        position = berth.position;
        at = k.stays berth.seat berth.position number slot berth.at apart;
      }

unmoved : (hangs : ℕ → Bool) (s : Switch) → Falling hangs s s
unmoved hangs s = record { came = came_self s; stays = λ seat position n at has apart. has }

-- ---- a closure

-- the channels of a switch, in bridges of these rows
abbrev world_in : Switch → (ℕ → Option Row) → World
world_in s rows = record (world_of s) { row = rows }

-- who hangs up there with those that are named
abbrev hung_in : Switch → (ℕ → Option Row) → Members → ℕ → Bool
hung_in s rows named slot = has_slot slot (closure_of (world_in s rows) named).members

slots_in : (s : Switch) (rows : ℕ → Option Row) → NoneAtZero s → AreSlots (world_in s rows)
slots_in s rows zero slot live =
    let is : IsSlot (world_of s) slot = are_slots s zero slot live in record { first = is.first; last = is.last }

-- whoever hangs up drags its legs
closure_legs_hang : (s : Switch) (rows : ℕ → Option Row) (named : Members) → LegsStand (roles_of s) → NoneAtZero s →
    AreLive (world_in s rows) named → LegsHang (hung_in s rows named) s
closure_legs_hang s rows named legs zero are slot number at c there waits berth hangs =
    let w : World = world_in s rows in
    let order : (who : ℕ) → has_slot who (closure_of w named).members ≡ has_slot who (members_of w named) =
    λ who. has_order who [] (members_of w named) in
    let m : HasMember slot (members_of w named) = has_member slot (members_of w named) (sym (order slot) ∙ hangs) in
    let its : IsLegOf s.channels (in_slot number at) = legs.stand berth.seat berth.position (in_slot number at) berth.at in
    let here : at ≡ its.at = same_Some at its.at its.is in
    let lived : lives_at s at ≡ true = ap (lives_at s) here ∙ (ap lives its.there ∙ its.live) in
    let among : IsOneOf (cancelled at) (by_origination w m.member) =
    subst (λ (who : ℕ). IsOneOf (cancelled at) (map cancelled (legs_at s who))) (sym m.at)
    (one_cancelled at (legs_at s slot) (leg_dialed s slot number at c there waits (leg_in s number at legs.distinct berth))) in
    order at
    ∙ dragged_hang_up w named (cancelled at) (slots_in s rows zero) are
    (record {
      by = m.member;
      member = m.one;
      dragged =
          one_back (cancelled at) (by_partner w m.member) (by_origination w m.member ++ by_peer w m.member)
          (one_front (cancelled at) (by_origination w m.member) (by_peer w m.member) among);
    }) lived

pub hung_berthed : (named : Members) (s : Switch) → LegsStand (roles_of s) → NoneAtZero s → Bonds s → Berthed s →
    Berthed (after_hangups named s)
hung_berthed named s legs zero bonds h =
    let hangs : ℕ → Bool = λ at. hangs_up at named s in
    let drags : LegsHang hangs s =
    closure_legs_hang s (row_at s) (living_of s named) legs zero (filter_passes (λ m. lives_at s m.0) named) in
    fallen_berthed hangs s drags (after_hangups named s)
    (hangups_kept_by named s (Falling hangs s) (told_falling hangs s drags) (put_falling hangs s drags) (end_falling hangs s drags)
    (one_falling hangs s drags) (unmoved hangs s))
    (λ at. holds_hung IsLively lively_falls at named s (all_lively s bonds at)) (members_die named s) h

-- ---- bridges are left

-- those who are left live
left_live : (slots : List ℕ) (s : Switch) → Bonds s →
    AreLive (parted_world (world_of s) (living_among s slots)) (first_round (world_of s) [] (living_among s slots))
left_live slots s bonds =
    all_from_one (λ m. lives_at s m.0 ≡ true) (first_round w [] left)
    (λ m one. by m ((first_are_named_or_left w [] left m).0 one))
  where
    w : World
    w = world_of s

    left : List ℕ
    left = living_among s slots

    by : (m : Member) → IsOneOf m [] ⊎ IsLeftBehind w left m.0 (Hangup m.1) → lives_at s m.0 ≡ true
    by m (inl none) = absurd none
    by m (inr behind) =
        let row : Row = behind.other.row in
        let part : bridge_at s behind.by ≡ Some row = row_seen s behind.by row behind.other.bridge in
        let peer : bridge_at s (peer_in row behind.by) ≡ Some row =
        leg_part s.bridges behind.by (peer_in row behind.by) row bonds.rows part (peer_leg row behind.by) in
        let names : NamesPeer s.channels (peer_in row behind.by) (peer_in row (peer_in row behind.by)) =
        bonds.legs (peer_in row behind.by) row peer in
        ap (lives_at s) behind.other.peer ∙ (ap lives names.there ∙ names.live)

bridges_left_berthed : (slots : List ℕ) (s : Switch) → LegsStand (roles_of s) → NoneAtZero s → Bonds s → Berthed s →
    Berthed (after_bridges_left slots s)
bridges_left_berthed slots s legs zero bonds h =
    let left : List ℕ = living_among s slots in
    let hangs : ℕ → Bool = hangs_as_left slots s in
    let drags : LegsHang hangs s =
    closure_legs_hang s (parted_world (world_of s) left).row (first_round (world_of s) [] left) legs zero (left_live slots s bonds) in
    fallen_berthed hangs s drags (after_bridges_left slots s)
    (bridges_left_kept_by slots s (Falling hangs s) (told_falling hangs s drags) (put_falling hangs s drags) (end_falling hangs s drags)
    (one_falling hangs s drags) (unmoved hangs s))
    (λ at. holds_bridges_left IsLively lively_falls at slots s (all_lively s bonds at)) (left_die slots s) h

-- ---- a channel leaves what it dialed

-- what it waits for no channel names
abbrev LeavesNone : Switch → ℕ → Type 0
LeavesNone t slot =
    (number : ℕ) (c : Chan) → chan_at t slot ≡ Some c → awaited_by c ≡ Some number → (at : ℕ) (d : Chan) → chan_at t at ≡ Some d →
    d.leg_of ≡ Some number → ⊥

left_berthed : (slot : ℕ) (t : Switch) → LeavesNone t slot → Berthed t → Berthed (after_leaving slot t)
left_berthed slot t none h =
    changed_there Berthed at_leisure slot (orig_given_up slot awaited t)
    (λ c there. put_berthed NoSlot (roles_of (orig_given_up slot awaited t)) slot c (at_leisure c) there (λ number is. is) given) given
  where
    awaited : Option ℕ
    awaited = option_and_then awaited_by (chan_at t slot)

    gone : (number : ℕ) (c : Chan) → chan_at t slot ≡ Some c → awaited_by c ≡ Some number → (found : Option Orig) →
        Berthed (given_up_by slot number found t)
    gone number c there waits None = h
    gone number c there waits (Some o) = either (is_owner slot o.owner)
      where
        either : (test : Bool) → Berthed (if test then without_orig number t else t)
        either true = without_berthed NoSlot number t (λ at d is names. none number c there waits at d is names) h
        either false = h

    waiting : (c : Chan) → chan_at t slot ≡ Some c → (waits : Option ℕ) → awaited_by c ≡ waits → Berthed (orig_given_up slot waits t)
    waiting c there None waits = h
    waiting c there (Some number) waits = gone number c there waits (orig_of t number)

    by : (found : Option Chan) → chan_at t slot ≡ found → Berthed (orig_given_up slot (option_and_then awaited_by found) t)
    by None is = h
    by (Some c) is = waiting c is (awaited_by c) refl

    given : Berthed (orig_given_up slot awaited t)
    given = by (chan_at t slot) refl

-- what is left of a switch in which the legs in these slots were hung up
record Leaving (s : Switch) (slots : List ℕ) (t : Switch) : Type 0 where
  came : Came s t
  lively : AllLively t
  dead : (at : ℕ) → IsOneOf at slots → Holds IsDead t at
  berths : Berthed t

-- none of these is one that another channel dialed who is alive
leaves_none : (s t : Switch) (slots : List ℕ) (slot : ℕ) → LegsStand (roles_of s) → Berthed s → Leaving s slots t →
    ((at : ℕ) → IsOneOf at (legs_at s slot) → IsOneOf at slots) → LeavesNone t slot
leaves_none s t slots slot legs h k among number c there waits at d is names =
    let one : CameFrom s slot c = k.came slot c there in
    let other : CameFrom s at d = k.came at d is in
    let berth : HasBerth s.origs number at = berth_now s h at number other.was other.there (other.less.names number names) in
    let dialed : IsOneOf at (legs_at s slot) =
    leg_dialed s slot number at one.was one.there (one.less.waits number waits) (leg_in s number at legs.distinct berth) in
    dead_names t k.lively at number d is names (ap lives is ∙ k.dead at (among at dialed) d is)

-- so a channel can leave
leave_one : (s t : Switch) (slots : List ℕ) (slot : ℕ) → LegsStand (roles_of s) → Berthed s →
    ((at : ℕ) → IsOneOf at (legs_at s slot) → IsOneOf at slots) → Leaving s slots t → Leaving s slots (after_leaving slot t)
leave_one s t slots slot legs h among k = record {
  came = came_left slot s t k.came;
  lively = λ at. holds_left IsLively (λ c lively. lively) at slot t (k.lively at);
  dead = λ at one. holds_left IsDead (λ c dead. dead) at slot t (k.dead at one);
  berths = left_berthed slot t (leaves_none s t slots slot legs h k among) k.berths;
}

-- and bid farewell
farewell_one : (s t : Switch) (legs : List ℕ) (slot : ℕ) → LegsStand (roles_of s) → Berthed s →
    ((at : ℕ) → IsOneOf at (legs_at s slot) → IsOneOf at legs) → Leaving s legs t → Leaving s legs (after_farewell slot t)
farewell_one s t legs slot stand h among k =
    queue_left_kept (Leaving s legs)
    (λ name at u j. record { came = j.came; lively = j.lively; dead = j.dead; berths = j.berths }) (queue_at t slot) slot
    (after_leaving slot t) (leave_one s t legs slot stand h among k)

farewell_all : (s t : Switch) (legs slots : List ℕ) → LegsStand (roles_of s) → Berthed s →
    ((slot at : ℕ) → IsOneOf slot slots → IsOneOf at (legs_at s slot) → IsOneOf at legs) → Leaving s legs t →
    Leaving s legs (after_farewells slots t)
farewell_all s t legs [] stand h among k = k
farewell_all s t legs (slot ∷ slots) stand h among k =
    farewell_all s (after_farewell slot t) legs slots stand h (λ other at one. among other at (inr one))
    (farewell_one s t legs slot stand h (λ at. among slot at (inl refl)) k)

-- ---- channels leave all that they were in

leg_among : (s : Switch) (slots : List ℕ) (slot at : ℕ) → IsOneOf slot slots → IsOneOf at (legs_at s slot) →
    IsOneOf at (all_legs_at s slots)
leg_among s [] slot at one leg = absurd one
leg_among s (first ∷ slots) slot at (inl same) leg =
    one_front at (legs_at s first) (all_legs_at s slots) (subst (λ who. IsOneOf at (legs_at s who)) same leg)
leg_among s (first ∷ slots) slot at (inr one) leg =
    one_back at (legs_at s first) (all_legs_at s slots) (leg_among s slots slot at one leg)

pub departed_berthed : (slots : List ℕ) (s : Switch) → LegsStand (roles_of s) → NoneAtZero s → Bonds s → Berthed s →
    Berthed (after_departures slots s)
departed_berthed slots s legs zero bonds h =
    (farewell_all s (after_bridges_left slots t) all slots legs h (leg_among s slots)
    (record {
      came = came_bridges_left slots s t (came_hung named s s (came_self s));
      lively = λ at. holds_bridges_left IsLively lively_falls at slots t (lively at);
      dead = λ at one. holds_bridges_left IsDead dead_falls at slots t
          (λ c is. sym (ap lives_as is) ∙ slots_die OriginatorCancel all s at one);
      berths =
          bridges_left_berthed slots t (hung_legs named s legs) (hung_zero named s zero) (hung_bonds named s bonds)
          (hung_berthed named s legs zero bonds h);
    })).berths
  where
    all : List ℕ
    all = all_legs_at s slots

    named : Members
    named = map (λ slot. (slot, OriginatorCancel)) all

    t : Switch
    t = after_hangups named s

    lively : AllLively t
    lively at = holds_hung IsLively lively_falls at named s (all_lively s bonds at)
