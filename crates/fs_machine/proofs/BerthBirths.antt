-- Channels that are made as legs of an origination are its legs once it begins, or comes to its next group.
use Rattle.std.proofs.Common.{◌≡◌, ℕ, suc, ◌+◌, ◌-◌, ◌^◌, min, Bool, true, false, if◌then◌else◌, not, List, [], ◌∷◌, slice_get}
use Rattle.std.proofs.Common.{Option, None, Some, is_some, option_map, option_and_then, ◌⊎◌, inl, inr, refl, sym, ap, subst, ◌∙◌}
use Rattle.std.proofs.lemmas.Option.{none-some, same_Some}
use Rattle.fs_text.specs.declared.causes.Cause.TheVariants.{NormalTemporaryFailure, SwitchCongestion}
use Rattle.fs_text.specs.Texts.{Text}
use Rattle.fs_vars.specs.Variables.{Variables}
use Rattle.fs_chan.specs.declared.chan.Chan.{Chan}
use Rattle.fs_orig.specs.declared.caller.Caller.{Caller}
use Rattle.fs_orig.specs.declared.endpoint.Endpoint.{Endpoint}
use Rattle.fs_orig.specs.declared.endpoint.Endpoint.TheVariants.{Loopback, Dead}
use Rattle.fs_orig.specs.declared.leg.OrigLeg.{OrigLeg}
use Rattle.fs_orig.specs.declared.orig.Orig.{Orig}
use Rattle.fs_orig.specs.declared.plan.LegPlan.{LegPlan}
use Rattle.fs_orig.specs.Changes.{may_enter_next, at_next_group}
use Rattle.fs_orig.specs.Endpoints.{endpoint_of}
use Rattle.fs_orig.specs.Legs.{any_lives}
use Rattle.fs_orig.specs.Verdicts.{next_group}
use Rattle.fs_seats.specs.Seats.{held_in, with_held}
use Rattle.fs_seats.specs.Rows.{row_of, with_row, with_new_row}
use Rattle.fs_seats.proofs.RowLemmas.{row_of-with_row_same}
use Rattle.fs_seats.proofs.TableLemmas.{IsWrittenOrKept, written_or_kept}
use Rattle.fs_state.specs.Switch.{Switch, chan_at, free_slot, orig_of, next_orig_number, with_orig, with_new_orig}
use Rattle.fs_state.specs.Moves.{orig_changed_from, orig_changed}
use Rattle.fs_state.proofs.LegTables.{Origs, in_slot, berth_of, berth_its, HasSeat, row_there}
use Rattle.fs_machine.specs.declared.call.Call.{Call}
use Rattle.fs_machine.specs.Originations.{set_all, no_variables, own_uuid, call_with, is_misnamed, Made, made_dead, is_congested, made_in}
use Rattle.fs_machine.specs.Originations.{with_second, free_pair, loopback_made, made_with, made_of, leg_made, MadeGroup, group_made}
use Rattle.fs_machine.specs.Sound.{IsLegIn}
use Rattle.fs_machine.proofs.Kept.{KeptByBirths}
use Rattle.fs_machine.proofs.ShortLemmas.{left_holds}
use Rattle.fs_machine.proofs.NameLemmas.{leg_chan, far_chan, pair_channels}
use Rattle.fs_machine.proofs.LivingLemmas.{none_lives}
use Rattle.fs_machine.proofs.Walk.{group_made_kept}
use Rattle.fs_machine.proofs.LegLemmas.{Channels, Roles, roles_of, LegsStand}
use Rattle.fs_machine.proofs.LegBirths.{pair_roles}
use Rattle.fs_machine.proofs.BerthTables.{HasBerth, row_stays, come_stays, row_berth, leg_in}
use Rattle.fs_machine.proofs.BerthLemmas.{Berthed, berth_now}

-- ---- a leg is made

-- a channel stood there, or whatever it names is the origination of which it is this leg
abbrev IsBornOf : ℕ → Switch → Option OrigLeg → ℕ → Chan → Type 0
IsBornOf orig s leg slot c =
    (chan_at s slot ≡ Some c)
    ⊎ ((number : ℕ) → c.leg_of ≡ Some number → (number ≡ orig) × (berth_of orig leg ≡ Some (in_slot orig slot)))

-- so is each that stands there then
abbrev BornOf : ℕ → Switch → Made → Type 0
BornOf orig s made = (slot : ℕ) (c : Chan) → chan_at made.state slot ≡ Some c → IsBornOf orig s (Some made.leg) slot c

pair_born : (call : Call) (orig a : ℕ) (s : Switch) (found : Option ℕ) → BornOf orig s (made_in call orig (option_map (λ b. (a, b)) found) s)
pair_born call orig a s None slot c there = inl there
pair_born call orig a s (Some b) slot c there =
    far (written_or_kept with_leg b (Some (far_chan call orig a b s)) slot c
    (sym (ap (λ (channels : Channels). held_in channels slot) (pair_channels call orig a b s)) ∙ there))
  where
    with_leg : Channels
    with_leg = with_held s.channels a (Some (leg_chan call orig a b s))

    leg : Option OrigLeg
    leg = Some (made_in call orig (Some (a, b)) s).leg

    near : IsWrittenOrKept s.channels a (Some (leg_chan call orig a b s)) slot c → IsBornOf orig s leg slot c
    near (inl here) =
        inr
        (λ number names. (
          sym (same_Some orig number (ap (λ (d : Chan). d.leg_of) (same_Some (leg_chan call orig a b s) c here.1) ∙ names)),
          ap (λ (q : ℕ). Some (in_slot orig q)) (sym here.0),
        ))
    near (inr kept) = inl kept.1

    far : IsWrittenOrKept with_leg b (Some (far_chan call orig a b s)) slot c → IsBornOf orig s leg slot c
    far (inl here) =
        inr
        (λ number names. absurd
        (none-some number (ap (λ (d : Chan). d.leg_of) (same_Some (far_chan call orig a b s) c here.1) ∙ names)))
    far (inr kept) = near (written_or_kept s.channels a (Some (leg_chan call orig a b s)) slot c kept.1)

loopback_born : (call : Call) (orig : ℕ) (s : Switch) (congested : Bool) →
    BornOf orig s (if congested then made_dead SwitchCongestion s else made_in call orig (free_pair s) s)
loopback_born call orig s true slot c there = inl there
loopback_born call orig s false slot c there = by (free_slot 1 s) there
  where
    by : (found : Option ℕ) → chan_at (made_in call orig (option_and_then (with_second s) found) s).state slot ≡ Some c →
        IsBornOf orig s (Some (made_in call orig (option_and_then (with_second s) found) s).leg) slot c
    by None there = inl there
    by (Some a) there = pair_born call orig a s (free_slot (a + 1) s) slot c there

named_born : (call : Call) (orig : ℕ) (s : Switch) (misnamed : Bool) →
    BornOf orig s (if misnamed then made_dead NormalTemporaryFailure s else loopback_made call orig s)
named_born call orig s true slot c there = inl there
named_born call orig s false slot c there = loopback_born call orig s (is_congested s) slot c there

leg_born_with : (exten context : Text) (vars : Option Variables) (caller : Caller) (orig : ℕ) (s : Switch) →
    BornOf orig s (made_with exten context vars caller orig s)
leg_born_with exten context None caller orig s slot c there = inl there
leg_born_with exten context (Some vars) caller orig s slot c there =
    named_born (call_with exten context vars caller) orig s (is_misnamed (own_uuid vars) s) slot c there

made_born : (endpoint : Endpoint) (pairs : List (Text × Text)) (caller : Caller) (orig : ℕ) (s : Switch) →
    BornOf orig s (made_of endpoint pairs caller orig s)
made_born (Dead cause) pairs caller orig s slot c there = inl there
made_born (Loopback exten context) pairs caller orig s slot c there =
    leg_born_with exten context (set_all pairs no_variables) caller orig s slot c there

leg_born : (plan : LegPlan) (caller : Caller) (orig : ℕ) (s : Switch) → BornOf orig s (leg_made plan caller orig s)
unfolding leg_made
leg_born plan caller orig s = made_born (endpoint_of plan.endpoint) plan.pairs caller orig s

-- ---- the legs of a group are made

-- a channel stood there, or whatever it names is the origination of which it is one of these legs
abbrev IsBornIn : ℕ → Switch → List OrigLeg → ℕ → Chan → Type 0
IsBornIn orig s legs slot c =
    (chan_at s slot ≡ Some c)
    ⊎ ((number : ℕ) → c.leg_of ≡ Some number →
    (number ≡ orig) × ((position : ℕ) × (berth_of orig (slice_get legs position) ≡ Some (in_slot orig slot))))

pub group_born : (plans : List LegPlan) (caller : Caller) (orig : ℕ) (s : Switch) (slot : ℕ) (c : Chan) →
    chan_at (group_made plans caller orig s).state slot ≡ Some c → IsBornIn orig s (group_made plans caller orig s).legs slot c
group_born [] caller orig s slot c there = inl there
group_born (plan ∷ plans) caller orig s slot c there = by (group_born plans caller orig made.state slot c there)
  where
    made : Made
    made = leg_made plan caller orig s

    legs : List OrigLeg
    legs = made.leg ∷ (group_made plans caller orig made.state).legs

    first : IsBornOf orig s (Some made.leg) slot c → IsBornIn orig s legs slot c
    first (inl old) = inl old
    first (inr new) = inr (λ number names. let its = new number names in (its.0, (0, its.1)))

    by : IsBornIn orig made.state (group_made plans caller orig made.state).legs slot c → IsBornIn orig s legs slot c
    by (inl old) = first (leg_born plan caller orig s slot c old)
    by (inr new) = inr (λ number names. let its = new number names in (its.0, (suc its.1.0, its.1.1)))

-- originations stay as they are meanwhile
record SameOrigs (s t : Switch) : Type 0 where
  origs : t.origs ≡ s.origs
  drawn : t.drawn.origs ≡ s.drawn.origs

same_births : (s : Switch) → KeptByBirths (λ b t. SameOrigs s t)
same_births s = record {
  spent = λ h. h;
  pair = λ call orig a b {s = t} short named first second h. record {
    origs = ap (λ (r : Roles). r.origs) (pair_roles call orig a b t) ∙ h.origs;
    drawn = ap (λ (r : Roles). r.drawn) (pair_roles call orig a b t) ∙ h.drawn;
  };
}

group_same : (plans : List LegPlan) (caller : Caller) (number : ℕ) (s : Switch) → SameOrigs s (group_made plans caller number s).state
group_same plans caller number s =
    group_made_kept (λ b t. SameOrigs s t) (same_births s) plans caller number {s = s} (record { origs = refl; drawn = refl })

-- ---- an origination begins

-- the legs that were made are those of an origination that comes, if there is a seat for it
pub begun_berthed : (plans : List LegPlan) (caller : Caller) (s : Switch) (o : Orig) →
    o.legs ≡ (group_made plans caller (next_orig_number s) s).legs →
    row_of (with_new_row s.origs (next_orig_number s) o) (next_orig_number s) ≡ Some o → Berthed s →
    Berthed (with_new_orig o (group_made plans caller (next_orig_number s) s).state)
begun_berthed plans caller s o legs room h slot number c there names = inr (by (group_born plans caller next s slot c there))
  where
    next : ℕ
    next = next_orig_number s

    made : MadeGroup
    made = group_made plans caller next s

    same : SameOrigs s made.state
    same = group_same plans caller next s

    rows : (with_new_orig o made.state).origs ≡ with_new_row s.origs next o
    rows =
        ap (λ (n : ℕ). with_new_row made.state.origs (min (n + 1) (2 ^ 64 - 1)) o) same.drawn
        ∙ ap (λ (origs : Origs). with_new_row origs next o) same.origs

    its : IsBornIn next s made.legs slot c → HasBerth (with_new_row s.origs next o) number slot
    its (inl old) =
        let berth : HasBerth s.origs number slot = berth_now s h slot number c old names in
        record {
          seat = berth.seat;
          position = berth.position;
          at = come_stays s.origs next o berth.seat berth.position (in_slot number slot) berth.at;
        }
    its (inr new) =
        let is = new number names in
        subst (λ (n : ℕ). HasBerth (with_new_row s.origs next o) n slot) (sym is.0)
        (row_berth (with_new_row s.origs next o) next o is.1.0 slot room
        (ap (λ (all : List OrigLeg). berth_of next (slice_get all is.1.0)) legs ∙ is.1.1))

    by : IsBornIn next s made.legs slot c → HasBerth (with_new_orig o made.state).origs number slot
    by born = subst (λ (origs : Origs). HasBerth origs number slot) (sym rows) (its born)

-- ---- an origination comes to its next group

-- none of its legs lives where it does
enters_dead : (o : Orig) → may_enter_next o ≡ true → any_lives o.legs ≡ false
enters_dead o enters = by (any_lives o.legs) (left_holds (not (any_lives o.legs)) (is_some (next_group o)) enters)
  where
    by : (b : Bool) → not b ≡ true → b ≡ false
    by true is = sym is
    by false is = refl

pub regrouped_berthed : (number : ℕ) (o : Orig) (plans : List LegPlan) (caller : Caller) (s : Switch) → orig_of s number ≡ Some o →
    may_enter_next o ≡ true → LegsStand (roles_of s) → Berthed s →
    Berthed (orig_changed (at_next_group (group_made plans caller number s).legs) number (group_made plans caller number s).state)
regrouped_berthed number o plans caller s is enters stand h slot n c there names =
    inr (by (group_born plans caller number s slot c here))
  where
    made : MadeGroup
    made = group_made plans caller number s

    same : SameOrigs s made.state
    same = group_same plans caller number s

    new : Orig
    new = record o { current = o.current + 1; legs = made.legs }

    row : HasSeat s.origs number o
    row = row_there s.origs number o is

    found : orig_of made.state number ≡ Some o
    found = ap (λ (origs : Origs). row_of origs number) same.origs ∙ is

    entered : at_next_group made.legs o ≡ new
    entered = ap (λ (test : Bool). if test then new else o) enters

    changed : orig_changed (at_next_group made.legs) number made.state ≡ with_orig number new made.state
    changed =
        ap (λ (x : Option Orig). orig_changed_from (at_next_group made.legs) number x made.state) found
        ∙ ap (λ (x : Orig). with_orig number x made.state) entered

    here : chan_at made.state slot ≡ Some c
    here = sym (ap (λ (t : Switch). chan_at t slot) changed) ∙ there

    rows : (orig_changed (at_next_group made.legs) number made.state).origs ≡ with_row s.origs number new
    rows = ap (λ (t : Switch). t.origs) changed ∙ ap (λ (origs : Origs). with_row origs number new) same.origs

    -- none that stood there was a leg of it
    other : HasBerth s.origs n slot → n ≡ number → ⊥
    other berth its =
        let leg : IsLegIn s slot n = leg_in s n slot stand.distinct berth in
        let at : leg.has.orig ≡ o =
        same_Some leg.has.orig o (sym leg.has.there ∙ (ap (orig_of s) its ∙ is)) in
        none_lives o.legs leg.has.position leg.leg (enters_dead o enters)
        (ap (λ (x : Orig). slice_get x.legs leg.has.position) (sym at) ∙ leg.has.at) leg.has.lives

    its : IsBornIn number s made.legs slot c → HasBerth (with_row s.origs number new) n slot
    its (inl old) =
        let berth : HasBerth s.origs n slot = berth_now s h slot n c old names in
        record {
          seat = berth.seat;
          position = berth.position;
          at = row_stays s.origs number o new is berth.seat berth.position (in_slot n slot)
              (λ has. absurd (other berth (berth_its number (slice_get o.legs berth.position) (in_slot n slot) has))) berth.at;
        }
    its (inr born) =
        let leg = born n names in
        subst (λ (m : ℕ). HasBerth (with_row s.origs number new) m slot) (sym leg.0)
        (row_berth (with_row s.origs number new) number new leg.1.0 slot (row_of-with_row_same s.origs number row.0 new row.1) leg.1.1)

    by : IsBornIn number s made.legs slot c → HasBerth (orig_changed (at_next_group made.legs) number made.state).origs n slot
    by born = subst (λ (origs : Origs). HasBerth origs n slot) (sym rows) (its born)
