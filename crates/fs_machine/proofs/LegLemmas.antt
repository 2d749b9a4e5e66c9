-- The legs of originations are live channels that name them; a leg dies where its channel is hung up.
use Rattle.std.proofs.Common.{◌≡◌, ℕ, Bool, true, false, if◌then◌else◌, List, Option, None, Some, ◌⊎◌, inl, inr, refl, sym, ap, subst, ◌∙◌}
use Rattle.std.proofs.Common.{true≢false}
use Rattle.std.proofs.lemmas.Bool.{cases_eq, both_ways}
use Rattle.std.proofs.lemmas.Option.{none-some, same_Some}
use Rattle.fs_text.specs.declared.states.State.TheVariants.{CsHangup}
use Rattle.fs_text.specs.declared.causes.Cause.{Cause}
use Rattle.fs_chan.specs.declared.chan.Chan.{Chan}
use Rattle.fs_chan.specs.Changes.{is_live, hung_up}
use Rattle.fs_chan.specs.Bridging.{awaited_by}
use Rattle.fs_orig.specs.declared.orig.Orig.{Orig}
use Rattle.fs_orig.specs.Changes.{with_leg_answer, with_leg_death, with_answer, with_death}
use Rattle.fs_seats.specs.declared.numbered.Numbered.{Numbered}
use Rattle.fs_seats.specs.Seats.{no_seats, held_in, with_held}
use Rattle.fs_seats.specs.Rows.{has_number, row_of, with_row, without_row}
use Rattle.fs_seats.proofs.HeldLemmas.{held_here, held_there, held_within}
use Rattle.fs_seats.proofs.RowLemmas.{AreDistinct, AreWithin, row_gone, none_stands, distinct_same, numbers-with_row, distinct-without_row}
use Rattle.fs_seats.proofs.RowLemmas.{within-without_row}
use Rattle.fs_state.specs.Switch.{Switch, chan_at, with_chan, orig_of, with_orig, without_orig, with_event}
use Rattle.fs_state.specs.Moves.{with_state_events, orig_changed_from, orig_changed, leg_changed, its_leg_changed, hangup_event}
use Rattle.fs_state.specs.Moves.{after_hangup_from, after_one_hangup, orig_given_up}
use Rattle.fs_state.proofs.LegTables.{Origs, Berth, berthed, berth_at, in_slot, Fewer, berth_number, answer_spares, death_spares}
use Rattle.fs_state.proofs.LegTables.{touched_spares, changed_fewer, without_fewer, death_leaves_none}
use Rattle.fs_machine.proofs.StayLemmas.{state_told_kept}
use Rattle.fs_machine.proofs.HangLemmas.{given_up_kept}
use Rattle.fs_machine.proofs.StopLemmas.{none_distinct, none_within, none_berthed}

abbrev pub Channels : Type 0
Channels = List (Option Chan)

pub within_same : (origs : Origs) (number : ℕ) (o : Orig) (bound : ℕ) → AreWithin bound origs → AreWithin bound (with_row origs number o)
within_same origs number o bound within n seat stands = within n seat (sym (numbers-with_row origs number o n seat) ∙ stands)

-- ---- legs and channels

-- the part of a switch that tells of legs
pub record Roles : Type 0 where
  pub channels : Channels
  pub origs : Origs
  pub drawn : ℕ

abbrev pub roles_of : Switch → Roles
roles_of s = record { channels = s.channels; origs = s.origs; drawn = s.drawn.origs }

-- the slot is there, and its channel lives and names the origination
pub record IsLegOf (channels : Channels) (berth : Berth) : Type 0 where
  pub at : ℕ
  pub is : berth.slot ≡ Some at
  pub chan : Chan
  pub there : held_in channels at ≡ Some chan
  pub live : is_live chan ≡ true
  pub names : chan.leg_of ≡ Some berth.number

-- Originations have numbers of their own that were drawn, each living leg is a live channel that names its origination, and no two legs of
-- one are in one slot.
pub record LegsStand (r : Roles) : Type 0 where
  pub distinct : AreDistinct r.origs
  pub within : AreWithin r.drawn r.origs
  pub stand : (seat position : ℕ) (berth : Berth) → berth_at r.origs seat position ≡ Some berth → IsLegOf r.channels berth
  pub apart : (seat p q : ℕ) (berth : Berth) → berth_at r.origs seat p ≡ Some berth → berth_at r.origs seat q ≡ Some berth → p ≡ q

-- none stands where there is no origination
pub no_legs : (channels : Channels) (count drawn : ℕ) →
    LegsStand (record { channels = channels; origs = no_seats {T = Numbered Orig} count; drawn = drawn })
no_legs channels count drawn = record {
  distinct = none_distinct Orig count;
  within = none_within Orig count drawn;
  stand = λ seat position berth has. absurd (none_berthed count seat position berth has);
  apart = λ seat p q berth first second. absurd (none_berthed count seat p berth first);
}

-- a leg stands where its channel is there still
abbrev pub leg_still : (channels new : Channels) (berth : Berth) (leg : IsLegOf channels berth) → held_in new leg.at ≡ Some leg.chan →
    IsLegOf new berth
leg_still channels new berth leg there =
    record { at = leg.at; is = leg.is; chan = leg.chan; there = there; live = leg.live; names = leg.names }

-- a leg stands where nothing was written
pub leg_elsewhere : (channels : Channels) (slot : ℕ) (new : Option Chan) (berth : Berth) → (leg : IsLegOf channels berth) →
    (leg.at ≡ slot → ⊥) → IsLegOf (with_held channels slot new) berth
leg_elsewhere channels slot new berth leg other =
    leg_still channels (with_held channels slot new) berth leg (held_there channels slot leg.at new other ∙ leg.there)

-- there are as many legs or fewer, and each stands
pub legs_fewer : (r : Roles) (channels : Channels) (origs : Origs) → AreDistinct origs → AreWithin r.drawn origs → Fewer r.origs origs →
    ((seat position : ℕ) (berth : Berth) → berth_at origs seat position ≡ Some berth → IsLegOf r.channels berth → IsLegOf channels berth) →
    LegsStand r →
    LegsStand (record { channels = channels; origs = origs; drawn = r.drawn })
legs_fewer r channels origs distinct within fewer stand h = record {
  distinct = distinct;
  within = within;
  stand = λ seat position berth has. stand seat position berth has (h.stand seat position berth (fewer seat position berth has));
  apart = λ seat p q berth first second. h.apart seat p q berth (fewer seat p berth first) (fewer seat q berth second);
}

-- the channel of a slot gives seat to anything, where no leg that is left lives in this slot and is the channel's
pub legs_cut : (r : Roles) (origs : Origs) (slot : ℕ) (old : Chan) (new : Option Chan) → held_in r.channels slot ≡ Some old →
    AreDistinct origs → AreWithin r.drawn origs → Fewer r.origs origs →
    ((seat position number : ℕ) → berth_at origs seat position ≡ Some (in_slot number slot) → old.leg_of ≡ Some number → ⊥) → LegsStand r →
    LegsStand (record { channels = with_held r.channels slot new; origs = origs; drawn = r.drawn })
legs_cut r origs slot old new there distinct within fewer none =
    legs_fewer r (with_held r.channels slot new) origs distinct within fewer
    (λ seat position berth has leg. leg_elsewhere r.channels slot new berth leg (λ same. here seat position berth has leg same))
  where
    here : (seat position : ℕ) (berth : Berth) → berth_at origs seat position ≡ Some berth → (leg : IsLegOf r.channels berth) → leg.at ≡ slot →
        ⊥
    here seat position berth has leg same =
        let is : old ≡ leg.chan = same_Some old leg.chan (sym there ∙ (ap (held_in r.channels) (sym same) ∙ leg.there)) in
        let sits : berth ≡ in_slot berth.number slot = ap (λ (which : Option ℕ). berthed berth.number which) (leg.is ∙ ap Some same) in
        none seat position berth.number (has ∙ ap Some sits) (ap (λ (c : Chan). c.leg_of) is ∙ leg.names)

-- the channels change, and each leg stands still
pub legs_follow : (r : Roles) (channels : Channels) → ((berth : Berth) → IsLegOf r.channels berth → IsLegOf channels berth) → LegsStand r →
    LegsStand (record r { channels = channels })
legs_follow r channels follow h =
    legs_fewer r channels r.origs h.distinct h.within (λ seat position berth has. has) (λ seat position berth has. follow berth) h

-- the channel of a slot is the leg that it was
pub put_follows : (channels : Channels) (slot : ℕ) (old new : Chan) → held_in channels slot ≡ Some old → new.leg_of ≡ old.leg_of →
    is_live new ≡ is_live old →
    (berth : Berth) → IsLegOf channels berth → IsLegOf (with_held channels slot (Some new)) berth
put_follows channels slot old new there same live berth leg = by (cases_eq leg.at slot)
  where
    by : (leg.at ≡ slot) ⊎ (leg.at ≡ slot → ⊥) → IsLegOf (with_held channels slot (Some new)) berth
    by (inl here) =
        let is : old ≡ leg.chan = same_Some old leg.chan (sym there ∙ (ap (held_in channels) (sym here) ∙ leg.there)) in
        record {
          at = slot;
          is = leg.is ∙ ap Some here;
          chan = new;
          there = held_here channels slot (Some new) (held_within channels slot old there);
          live = live ∙ (ap is_live is ∙ leg.live);
          names = same ∙ (ap (λ (c : Chan). c.leg_of) is ∙ leg.names);
        }
    by (inr other) = leg_elsewhere channels slot (Some new) berth leg other

-- something comes where nothing was, or where no live channel was
pub free_follows : (channels : Channels) (slot : ℕ) (new : Option Chan) →
    ((c : Chan) → held_in channels slot ≡ Some c → is_live c ≡ false) →
    (berth : Berth) → IsLegOf channels berth → IsLegOf (with_held channels slot new) berth
free_follows channels slot new dead berth leg =
    leg_elsewhere channels slot new berth leg
    (λ same. true≢false (sym leg.live ∙ dead leg.chan (ap (held_in channels) (sym same) ∙ leg.there)))

-- the channel of a slot is changed, and is the leg that it was
pub put_legs : (slot : ℕ) (old new : Chan) (s : Switch) → chan_at s slot ≡ Some old → new.leg_of ≡ old.leg_of →
    is_live new ≡ is_live old → LegsStand (roles_of s) → LegsStand (roles_of (with_chan slot (Some new) s))
put_legs slot old new s there same live h =
    legs_follow (roles_of s) (with_held s.channels slot (Some new)) (put_follows s.channels slot old new there same live) h

-- ---- an origination ends

pub without_legs : (number : ℕ) (s : Switch) → LegsStand (roles_of s) → LegsStand (roles_of (without_orig number s))
without_legs number s h =
    legs_fewer (roles_of s) s.channels (without_row s.origs number) (distinct-without_row s.origs number h.distinct)
    (within-without_row s.origs number s.drawn.origs h.within)
    (without_fewer s.origs number) (λ seat position berth has leg. leg) h

pub given_up_legs : (slot : ℕ) (awaited : Option ℕ) (s : Switch) → LegsStand (roles_of s) →
    LegsStand (roles_of (orig_given_up slot awaited s))
given_up_legs slot awaited s h =
    given_up_kept (λ (t : Switch). LegsStand (roles_of t)) (λ number t k. without_legs number t k) slot awaited s h

-- ---- a channel is hung up, and the leg that it is dies

pub cut_roles : (cause : Cause) (slot : ℕ) (c : Chan) (s : Switch) →
    roles_of (with_state_events c.state CsHangup slot (with_event (hangup_event cause slot) (with_chan slot (Some (hung_up cause c)) s)))
    ≡ record (roles_of s) { channels = with_held s.channels slot (Some (hung_up cause c)) }
cut_roles cause slot c s =
    let cut : Switch = with_event (hangup_event cause slot) (with_chan slot (Some (hung_up cause c)) s) in
    state_told_kept (λ (t : Switch). roles_of t ≡ record (roles_of s) { channels = with_held s.channels slot (Some (hung_up cause c)) })
    (λ event t h. h) c.state CsHangup slot {s = cut} refl

-- so each leg stands behind a hangup
module _ (cause : Cause) (slot : ℕ) (c : Chan) (s : Switch) (there : chan_at s slot ≡ Some c) (h : LegsStand (roles_of s)) where
  after_death : (origs : Origs) → AreDistinct origs → AreWithin s.drawn.origs origs → Fewer s.origs origs →
      ((seat position number : ℕ) → berth_at origs seat position ≡ Some (in_slot number slot) → c.leg_of ≡ Some number → ⊥) →
      (t : Switch) → roles_of t ≡ record (roles_of s) { channels = with_held s.channels slot (Some (hung_up cause c)); origs = origs } →
      LegsStand (roles_of t)
  after_death origs distinct within fewer none t same =
      subst LegsStand (sym same) (legs_cut (roles_of s) origs slot c (Some (hung_up cause c)) there distinct within fewer none h)

  no_death : ((seat position number : ℕ) → berth_at s.origs seat position ≡ Some (in_slot number slot) → c.leg_of ≡ Some number → ⊥) →
      (t : Switch) → roles_of t ≡ record (roles_of s) { channels = with_held s.channels slot (Some (hung_up cause c)) } →
      LegsStand (roles_of t)
  no_death none t same = after_death s.origs h.distinct h.within (λ seat position berth has. has) none t same

  its_death : (seat : ℕ) (leg_of : Option ℕ) → c.leg_of ≡ leg_of → (t : Switch) →
      roles_of t ≡ record (roles_of s) { channels = with_held s.channels slot (Some (hung_up cause c)) } →
      LegsStand (roles_of (its_leg_changed (λ p. with_death p seat cause) slot leg_of t))
  its_death seat None is t same = no_death (λ at position number has its. none-some number (sym is ∙ its)) t same
  its_death seat (Some number) is t same = by (orig_of t number) refl
    where
      -- the number is the origination's
      its : (n : ℕ) → c.leg_of ≡ Some n → n ≡ number
      its n e = same_Some n number (sym e ∙ is)

      known : (found : Option Orig) → orig_of t number ≡ found → orig_of s number ≡ found
      known found is = ap (λ (r : Roles). row_of r.origs number) (sym same) ∙ is

      by : (found : Option Orig) → orig_of t number ≡ found →
          LegsStand (roles_of (orig_changed_from (leg_changed (λ p. with_death p seat cause) slot) number found t))
      by None none =
          no_death
          (λ at position n has e. both_ways (has_number n (held_in s.origs at))
          (none_stands s.origs n (row_gone s.origs n (ap (row_of s.origs) (its n e) ∙ known None none)) at)
          (berth_number position (held_in s.origs at) (in_slot n slot) has)) t same
      by (Some o) found =
          let dead : Orig = leg_changed (λ p. with_death p seat cause) slot o in
          let origs : Origs = with_row s.origs number dead in
          after_death origs (distinct_same s.origs origs (numbers-with_row s.origs number dead) h.distinct)
          (within_same s.origs number dead s.drawn.origs h.within)
          (changed_fewer s.origs number o dead (known (Some o) found)
          (touched_spares (with_leg_death seat cause) (death_spares seat cause) slot number o))
          (λ at position n has e. death_leaves_none s.origs number o slot seat cause h.distinct (known (Some o) found) h.apart at position
          (has ∙ ap (λ (m : ℕ). Some (in_slot m slot)) (its n e)))
          (with_orig number dead t) (ap (λ (r : Roles). record r { origs = with_row r.origs number dead }) same)

pub one_hung_legs : (cause : Cause) (slot : ℕ) (s : Switch) → LegsStand (roles_of s) → LegsStand (roles_of (after_one_hangup cause slot s))
one_hung_legs cause slot s h = by (chan_at s slot) refl
  where
    of : (c : Chan) → chan_at s slot ≡ Some c → (test : Bool) →
        LegsStand (roles_of (if test then orig_given_up slot (awaited_by c)
        (its_leg_changed (λ position. with_death position s.entries cause) slot c.leg_of
        (with_state_events c.state CsHangup slot (with_event (hangup_event cause slot) (with_chan slot (Some (hung_up cause c)) s))))
        else s))
    of c is true =
        given_up_legs slot (awaited_by c)
        (its_leg_changed (λ position. with_death position s.entries cause) slot c.leg_of
        (with_state_events c.state CsHangup slot (with_event (hangup_event cause slot) (with_chan slot (Some (hung_up cause c)) s))))
        (its_death cause slot c s is h s.entries c.leg_of refl
        (with_state_events c.state CsHangup slot (with_event (hangup_event cause slot) (with_chan slot (Some (hung_up cause c)) s)))
        (cut_roles cause slot c s))
    of c is false = h

    by : (found : Option Chan) → chan_at s slot ≡ found → LegsStand (roles_of (after_hangup_from cause slot found s))
    by None is = h
    by (Some c) is = of c is (is_live c)

-- ---- a leg is answered

pub answered_legs : (seat slot number : ℕ) (s : Switch) → LegsStand (roles_of s) →
    LegsStand (roles_of (orig_changed (leg_changed (λ position. with_answer position seat) slot) number s))
answered_legs seat slot number s h = by (orig_of s number) refl
  where
    by : (found : Option Orig) → orig_of s number ≡ found →
        LegsStand (roles_of (orig_changed_from (leg_changed (λ position. with_answer position seat) slot) number found s))
    by None is = h
    by (Some o) is =
        let new : Orig = leg_changed (λ position. with_answer position seat) slot o in
        let origs : Origs = with_row s.origs number new in
        legs_fewer (roles_of s) s.channels origs (distinct_same s.origs origs (numbers-with_row s.origs number new) h.distinct)
        (within_same s.origs number new s.drawn.origs h.within)
        (changed_fewer s.origs number o new is (touched_spares (with_leg_answer seat) (answer_spares seat) slot number o))
        (λ at position berth has leg. leg) h
