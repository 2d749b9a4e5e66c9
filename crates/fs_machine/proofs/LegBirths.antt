-- Legs are made in slots that were free, as an origination begins and as it comes to its next group.
use Rattle.std.proofs.Common.{◌≡◌, ℕ, zero, suc, ◌+◌, ◌<◌, ◌^◌, Bool, true, false, if◌then◌else◌, List, [], ◌∷◌, slice_get, Option, None}
use Rattle.std.proofs.Common.{Some, option_map, option_and_then, ◌⊎◌, inl, inr, refl, sym, ap, subst, ◌∙◌, arith, true≢false}
use Rattle.std.proofs.lemmas.Bool.{both_ways}
use Rattle.std.proofs.lemmas.Option.{none-some, same_Some}
use Rattle.fs_text.specs.declared.causes.Cause.TheVariants.{NormalTemporaryFailure, SwitchCongestion}
use Rattle.fs_text.specs.Texts.{Text}
use Rattle.fs_vars.specs.Variables.{Variables}
use Rattle.fs_chan.specs.declared.chan.Chan.{Chan}
use Rattle.fs_orig.specs.declared.caller.Caller.{Caller}
use Rattle.fs_orig.specs.declared.endpoint.Endpoint.{Endpoint}
use Rattle.fs_orig.specs.declared.endpoint.Endpoint.TheVariants.{Loopback, Dead}
use Rattle.fs_orig.specs.declared.leg.OrigLeg.{OrigLeg}
use Rattle.fs_orig.specs.declared.orig.Orig.{Orig}
use Rattle.fs_orig.specs.declared.plan.LegPlan.{LegPlan}
use Rattle.fs_orig.specs.Legs.{lives}
use Rattle.fs_orig.specs.Changes.{may_enter_next, at_next_group}
use Rattle.fs_orig.specs.Endpoints.{endpoint_of}
use Rattle.fs_seats.specs.Seats.{held_in, with_held}
use Rattle.fs_seats.specs.Rows.{has_number, seat_of, with_row}
use Rattle.fs_seats.proofs.HeldLemmas.{IsFree, free_seat, held_here, held_there}
use Rattle.fs_seats.proofs.TableLemmas.{still_there, not_free}
use Rattle.fs_seats.proofs.RowLemmas.{none_stands, above_nowhere, distinct_same, numbers-with_row, distinct-with_new_row}
use Rattle.fs_seats.proofs.RowLemmas.{within-with_new_row}
use Rattle.fs_state.specs.Switch.{Switch, chan_at, free_slot, next_orig_number, orig_of, with_orig, with_new_orig}
use Rattle.fs_state.specs.Moves.{orig_changed_from, orig_changed}
use Rattle.fs_state.proofs.LegTables.{Berth, berthed, berth_if, berth_of, berth_at, berth_number, berth_its, row_there, HasSeat, changed_fewer}
use Rattle.fs_state.proofs.LegTables.{changed_or_old, new_or_old}
use Rattle.fs_machine.specs.declared.call.Call.{Call}
use Rattle.fs_machine.specs.Originations.{end_made, leg_end, far_end, pair_made, set_all, no_variables, own_uuid, call_with, is_misnamed}
use Rattle.fs_machine.specs.Originations.{Made, made_dead, is_congested, made_in, with_second, free_pair, loopback_made, made_with, made_of}
use Rattle.fs_machine.specs.Originations.{leg_made, MadeGroup, group_made}
use Rattle.fs_machine.proofs.NameLemmas.{leg_by, leg_chan, far_chan, pair_channels}
use Rattle.fs_machine.proofs.Kept.{KeptByBirths}
use Rattle.fs_machine.proofs.StayLemmas.{new_lives}
use Rattle.fs_machine.proofs.Walk.{leg_made_kept, group_made_kept}
use Rattle.fs_machine.proofs.LegLemmas.{Channels, within_same, roles_of, IsLegOf, LegsStand, leg_still, legs_fewer, legs_follow}

-- ---- a pair is made

-- the second slot is free still
pub second_free : (leg : Chan) (a b : ℕ) (channels : Channels) → IsFree Chan channels (a + 1) b →
    held_in (with_held channels a (Some leg)) b ≡ None
second_free leg a b channels free_b =
    held_there channels a b (Some leg) (λ same. omega (arith, free_b.behind, same)) ∙ free_b.free

-- what stands somewhere stands there still
pub pair_spares : (call : Call) (orig a b : ℕ) (s : Switch) → IsFree Chan s.channels 1 a → IsFree Chan s.channels (a + 1) b → (slot : ℕ)
    (c : Chan) → chan_at s slot ≡ Some c → chan_at (pair_made call orig a b s) slot ≡ Some c
pair_spares call orig a b s free_a free_b slot c there =
    let leg : Chan = leg_chan call orig a b s in
    let with_one : Channels = with_held s.channels a (Some leg) in
    let first : held_in with_one slot ≡ Some c =
    still_there s.channels a (Some leg) slot c (not_free s.channels a slot c free_a.free there) there in
    ap (λ (channels : Channels). held_in channels slot) (pair_channels call orig a b s)
    ∙ still_there with_one b (Some (far_chan call orig a b s)) slot c
    (not_free with_one b slot c (second_free leg a b s.channels free_b) first) first

-- of what tells of legs a pair changes the channels alone
pub pair_roles : (call : Call) (orig a b : ℕ) (s : Switch) →
    roles_of (pair_made call orig a b s) ≡ record (roles_of s) { channels = (pair_made call orig a b s).channels }
pair_roles call orig a b s =
    leg_by (λ t. roles_of (end_made call (far_end a b) t) ≡ record (roles_of s) { channels = (end_made call (far_end a b) t).channels })
    call.uuid call (leg_end orig a b) s refl (λ own. refl)

pub pair_legs : (call : Call) (orig a b : ℕ) (s : Switch) → IsFree Chan s.channels 1 a → IsFree Chan s.channels (a + 1) b →
    LegsStand (roles_of s) → LegsStand (roles_of (pair_made call orig a b s))
pair_legs call orig a b s free_a free_b h =
    let channels : Channels = (pair_made call orig a b s).channels in
    subst LegsStand (sym (pair_roles call orig a b s))
    (legs_follow (roles_of s) channels
    (λ berth leg. leg_still s.channels channels berth leg (pair_spares call orig a b s free_a free_b leg.at leg.chan leg.there)) h)

-- ---- a leg is made

-- a leg stands in a slot that was free
pub record IsNewLeg (before after : Channels) (berth : Berth) : Type 0 where
  pub leg : IsLegOf after berth
  pub free : held_in before leg.at ≡ None

-- it does, if it lives
abbrev MadeStands : ℕ → Switch → Made → Type 0
MadeStands orig s made = lives made.leg ≡ true → IsNewLeg s.channels made.state.channels (berthed orig made.leg.slot)

pair_leg : (call : Call) (orig a : ℕ) (s : Switch) → free_slot 1 s ≡ Some a → (found : Option ℕ) → free_slot (a + 1) s ≡ found →
    MadeStands orig s (made_in call orig (option_map (λ b. (a, b)) found) s)
pair_leg call orig a s is_a None is_b live = absurd (true≢false (sym live))
pair_leg call orig a s is_a (Some b) is_b live =
    let free_a : IsFree Chan s.channels 1 a = free_seat Chan s.channels 1 a is_a in
    let free_b : IsFree Chan s.channels (a + 1) b = free_seat Chan s.channels (a + 1) b is_b in
    let leg : Chan = leg_chan call orig a b s in
    record {
      leg = record {
        at = a;
        is = refl;
        chan = leg;
        there =
            ap (λ (channels : Channels). held_in channels a) (pair_channels call orig a b s)
            ∙ held_there (with_held s.channels a (Some leg)) b a (Some (far_chan call orig a b s))
            (λ same. omega (arith, free_b.behind, same))
            ∙ held_here s.channels a (Some leg) free_a.within;
        live = new_lives;
        names = refl;
      };
      free = free_a.free;
    }

loopback_leg : (call : Call) (orig : ℕ) (s : Switch) (congested : Bool) →
    MadeStands orig s (if congested then made_dead SwitchCongestion s else made_in call orig (free_pair s) s)
loopback_leg call orig s true live = absurd (true≢false (sym live))
loopback_leg call orig s false live = by (free_slot 1 s) refl live
  where
    by : (found : Option ℕ) → free_slot 1 s ≡ found → MadeStands orig s (made_in call orig (option_and_then (with_second s) found) s)
    by None is live = absurd (true≢false (sym live))
    by (Some a) is live = pair_leg call orig a s is (free_slot (a + 1) s) refl live

named_leg : (call : Call) (orig : ℕ) (s : Switch) (misnamed : Bool) →
    MadeStands orig s (if misnamed then made_dead NormalTemporaryFailure s else loopback_made call orig s)
named_leg call orig s true live = absurd (true≢false (sym live))
named_leg call orig s false live = loopback_leg call orig s (is_congested s) live

leg_with : (exten context : Text) (vars : Option Variables) (caller : Caller) (orig : ℕ) (s : Switch) →
    MadeStands orig s (made_with exten context vars caller orig s)
leg_with exten context None caller orig s live = absurd (true≢false (sym live))
leg_with exten context (Some vars) caller orig s live =
    named_leg (call_with exten context vars caller) orig s (is_misnamed (own_uuid vars) s) live

made_leg : (endpoint : Endpoint) (pairs : List (Text × Text)) (caller : Caller) (orig : ℕ) (s : Switch) →
    MadeStands orig s (made_of endpoint pairs caller orig s)
made_leg (Dead cause) pairs caller orig s live = absurd (true≢false (sym live))
made_leg (Loopback exten context) pairs caller orig s live = leg_with exten context (set_all pairs no_variables) caller orig s live

leg_stands : (plan : LegPlan) (caller : Caller) (orig : ℕ) (s : Switch) → MadeStands orig s (leg_made plan caller orig s)
unfolding leg_made
leg_stands plan caller orig s = made_leg (endpoint_of plan.endpoint) plan.pairs caller orig s

-- ---- the legs of a group are made

pub spared_births : (slot : ℕ) (c : Chan) → KeptByBirths (λ b s. chan_at s slot ≡ Some c)
spared_births slot c = record {
  spent = λ h. h;
  pair = λ call orig a b {s = s} short named first second h. pair_spares call orig a b s first second slot c h;
}

-- those that live stand in slots that were free, each in one of its own
pub record GroupStands (number : ℕ) (legs : List OrigLeg) (before after : Channels) : Type 0 where
  pub new : (position : ℕ) (berth : Berth) → berth_of number (slice_get legs position) ≡ Some berth → IsNewLeg before after berth
  pub apart : (p q : ℕ) (berth : Berth) → berth_of number (slice_get legs p) ≡ Some berth →
      berth_of number (slice_get legs q) ≡ Some berth → p ≡ q

no_group : (number : ℕ) (channels : Channels) → GroupStands number [] channels channels
no_group number channels = record {
  new = λ position berth has. absurd (none-some berth has);
  apart = λ p q berth first second. absurd (none-some berth first);
}

-- one is made, and then the others
module _ (number : ℕ) (s : Switch) (made : Made) (group : MadeGroup)
    (one : MadeStands number s made) (later : GroupStands number group.legs made.state.channels group.state.channels)
    (first_spares : (slot : ℕ) (c : Chan) → chan_at s slot ≡ Some c → chan_at made.state slot ≡ Some c)
    (then_spares : (slot : ℕ) (c : Chan) → chan_at made.state slot ≡ Some c → chan_at group.state slot ≡ Some c) where
  first_berth : (berth : Berth) → berth_of number (Some made.leg) ≡ Some berth → IsNewLeg s.channels made.state.channels berth
  first_berth berth = by (lives made.leg) refl
    where
      by : (test : Bool) → lives made.leg ≡ test → berth_if test number made.leg.slot ≡ Some berth →
          IsNewLeg s.channels made.state.channels berth
      by true live h = subst (IsNewLeg s.channels made.state.channels) (same_Some (berthed number made.leg.slot) berth h) (one live)
      by false live h = absurd (none-some berth h)

  -- what is free later was free at first
  was_free : (slot : ℕ) → chan_at made.state slot ≡ None → chan_at s slot ≡ None
  was_free slot free = by (chan_at s slot) refl
    where
      by : (found : Option Chan) → chan_at s slot ≡ found → found ≡ None
      by None is = refl
      by (Some c) is = absurd (none-some c (sym free ∙ first_spares slot c is))

  new_leg : (position : ℕ) (berth : Berth) → berth_of number (slice_get (made.leg ∷ group.legs) position) ≡ Some berth →
      IsNewLeg s.channels group.state.channels berth
  new_leg zero berth has =
      let new : IsNewLeg s.channels made.state.channels berth = first_berth berth has in
      record {
        leg = leg_still made.state.channels group.state.channels berth new.leg (then_spares new.leg.at new.leg.chan new.leg.there);
        free = new.free;
      }
  new_leg (suc position) berth has =
      let new : IsNewLeg made.state.channels group.state.channels berth = later.new position berth has in
      record { leg = new.leg; free = was_free new.leg.at new.free }

  -- the first is in no slot of a later one
  none_later : (position : ℕ) (berth : Berth) → berth_of number (Some made.leg) ≡ Some berth →
      berth_of number (slice_get group.legs position) ≡ Some berth → ⊥
  none_later position berth first second =
      let old : IsNewLeg s.channels made.state.channels berth = first_berth berth first in
      let new : IsNewLeg made.state.channels group.state.channels berth = later.new position berth second in
      let same : old.leg.at ≡ new.leg.at = same_Some old.leg.at new.leg.at (sym old.leg.is ∙ new.leg.is) in
      none-some old.leg.chan (sym new.free ∙ (ap (held_in made.state.channels) (sym same) ∙ old.leg.there))

  each_apart : (p q : ℕ) (berth : Berth) → berth_of number (slice_get (made.leg ∷ group.legs) p) ≡ Some berth →
      berth_of number (slice_get (made.leg ∷ group.legs) q) ≡ Some berth → p ≡ q
  each_apart zero zero berth first second = refl
  each_apart zero (suc q) berth first second = absurd (none_later q berth first second)
  each_apart (suc p) zero berth first second = absurd (none_later p berth second first)
  each_apart (suc p) (suc q) berth first second = ap suc (later.apart p q berth first second)

  with_first_stands : GroupStands number (made.leg ∷ group.legs) s.channels group.state.channels
  with_first_stands = record { new = new_leg; apart = each_apart }

pub group_stands : (plans : List LegPlan) (caller : Caller) (number : ℕ) (s : Switch) →
    GroupStands number (group_made plans caller number s).legs s.channels (group_made plans caller number s).state.channels
group_stands [] caller number s = no_group number s.channels
group_stands (plan ∷ plans) caller number s =
    let made : Made = leg_made plan caller number s in
    with_first_stands number s made (group_made plans caller number made.state) (leg_stands plan caller number s)
    (group_stands plans caller number made.state)
    (λ slot c there. leg_made_kept (λ b t. chan_at t slot ≡ Some c) (spared_births slot c) plan caller number {s = s} there)
    (λ slot c there. group_made_kept (λ b t. chan_at t slot ≡ Some c) (spared_births slot c) plans caller number {s = made.state}
    there)

-- ---- an origination begins

pub new_orig_legs : (o : Orig) (before : Channels) (t : Switch) → t.drawn.origs < 2 ^ 62 →
    GroupStands (next_orig_number t) o.legs before t.channels → LegsStand (roles_of t) → LegsStand (roles_of (with_new_orig o t))
new_orig_legs o before t few group h = record {
  distinct = distinct-with_new_row t.origs (next_orig_number t) o h.distinct nowhere;
  within = within-with_new_row t.origs (next_orig_number t) o (next_orig_number t) (λ n p is. omega (arith, h.within n p is, next))
      (omega arith);
  stand = λ seat position berth has. stand seat position berth (new_or_old t.origs (next_orig_number t) o seat position berth has);
  apart = λ seat p q berth first second.
      apart seat p q berth (new_or_old t.origs (next_orig_number t) o seat p berth first)
      (new_or_old t.origs (next_orig_number t) o seat q berth second);
}
  where
    next : next_orig_number t ≡ t.drawn.origs + 1
    next = omega (arith, few)

    nowhere : seat_of t.origs (next_orig_number t) ≡ None
    nowhere = above_nowhere t.origs t.drawn.origs (next_orig_number t) h.within (omega (arith, next))

    stand : (seat position : ℕ) (berth : Berth) →
        (berth_of (next_orig_number t) (slice_get o.legs position) ≡ Some berth) ⊎ (berth_at t.origs seat position ≡ Some berth) →
        IsLegOf t.channels berth
    stand seat position berth (inl new) = (group.new position berth new).leg
    stand seat position berth (inr old) = h.stand seat position berth old

    -- none that was there has the number
    not_old : (seat p q : ℕ) (berth : Berth) → berth_at t.origs seat p ≡ Some berth →
        berth_of (next_orig_number t) (slice_get o.legs q) ≡ Some berth → ⊥
    not_old seat p q berth old new =
        both_ways (has_number (next_orig_number t) (held_in t.origs seat)) (none_stands t.origs (next_orig_number t) nowhere seat)
        (subst (λ (n : ℕ). has_number n (held_in t.origs seat) ≡ true) (berth_its (next_orig_number t) (slice_get o.legs q) berth new)
        (berth_number p (held_in t.origs seat) berth old))

    apart : (seat p q : ℕ) (berth : Berth) →
        (berth_of (next_orig_number t) (slice_get o.legs p) ≡ Some berth) ⊎ (berth_at t.origs seat p ≡ Some berth) →
        (berth_of (next_orig_number t) (slice_get o.legs q) ≡ Some berth) ⊎ (berth_at t.origs seat q ≡ Some berth) → p ≡ q
    apart seat p q berth (inl a) (inl b) = group.apart p q berth a b
    apart seat p q berth (inl a) (inr b) = absurd (not_old seat q p berth b a)
    apart seat p q berth (inr a) (inl b) = absurd (not_old seat p q berth a b)
    apart seat p q berth (inr a) (inr b) = h.apart seat p q berth a b

-- ---- an origination comes to its next group

pub regrouped_legs : (number : ℕ) (legs : List OrigLeg) (before : Channels) (t : Switch) → GroupStands number legs before t.channels →
    LegsStand (roles_of t) → LegsStand (roles_of (orig_changed (at_next_group legs) number t))
regrouped_legs number legs before t group h = by (orig_of t number) refl
  where
    -- its legs are those of the group
    with_them : (o new : Orig) → orig_of t number ≡ Some o → new.legs ≡ legs → LegsStand (roles_of (with_orig number new t))
    with_them o new is legs_are = record {
      distinct = distinct_same t.origs (with_row t.origs number new) (numbers-with_row t.origs number new) h.distinct;
      within = within_same t.origs number new t.drawn.origs h.within;
      stand = λ seat position berth has. stand seat position berth (changed_or_old t.origs number o new row seat position berth has);
      apart = λ seat p q berth first second.
          apart seat p q berth (changed_or_old t.origs number o new row seat p berth first)
          (changed_or_old t.origs number o new row seat q berth second);
    }
      where
        row : HasSeat t.origs number o
        row = row_there t.origs number o is

        its : (position : ℕ) (berth : Berth) → berth_of number (slice_get new.legs position) ≡ Some berth →
            berth_of number (slice_get legs position) ≡ Some berth
        its position berth has = subst (λ (l : List OrigLeg). berth_of number (slice_get l position) ≡ Some berth) legs_are has

        stand : (seat position : ℕ) (berth : Berth) →
            ((seat ≡ row.0) × (berth_of number (slice_get new.legs position) ≡ Some berth)) ⊎ ((seat ≡ row.0 → ⊥) ×
            (berth_at t.origs seat position ≡ Some berth)) →
            IsLegOf t.channels berth
        stand seat position berth (inl new) = (group.new position berth (its position berth new.1)).leg
        stand seat position berth (inr old) = h.stand seat position berth old.1

        apart : (seat p q : ℕ) (berth : Berth) →
            ((seat ≡ row.0) × (berth_of number (slice_get new.legs p) ≡ Some berth)) ⊎ ((seat ≡ row.0 → ⊥) ×
            (berth_at t.origs seat p ≡ Some berth)) →
            ((seat ≡ row.0) × (berth_of number (slice_get new.legs q) ≡ Some berth)) ⊎ ((seat ≡ row.0 → ⊥) ×
            (berth_at t.origs seat q ≡ Some berth)) →
            p ≡ q
        apart seat p q berth (inl a) (inl b) = group.apart p q berth (its p berth a.1) (its q berth b.1)
        apart seat p q berth (inl a) (inr b) = absurd (b.0 a.0)
        apart seat p q berth (inr a) (inl b) = absurd (a.0 b.0)
        apart seat p q berth (inr a) (inr b) = h.apart seat p q berth a.1 b.1

    in_it : (o : Orig) → orig_of t number ≡ Some o → (test : Bool) →
        LegsStand (roles_of (with_orig number (if test then record o { current = o.current + 1; legs = legs } else o) t))
    in_it o is true = with_them o (record o { current = o.current + 1; legs = legs }) is refl
    in_it o is false =
        legs_fewer (roles_of t) t.channels (with_row t.origs number o)
        (distinct_same t.origs (with_row t.origs number o) (numbers-with_row t.origs number o) h.distinct)
        (within_same t.origs number o t.drawn.origs h.within) (changed_fewer t.origs number o o is (λ position berth has. has))
        (λ seat position berth has leg. leg) h

    by : (found : Option Orig) → orig_of t number ≡ found → LegsStand (roles_of (orig_changed_from (at_next_group legs) number found t))
    by None is = h
    by (Some o) is = in_it o is (may_enter_next o)
