-- Each act keeps the agreement of loopback partners.
use Rattle.std.proofs.Common.{◌≡◌, ℕ, ◌+◌, ◌==◌, Bool, true, false, List, [], ◌∷◌, Option, None, Some, option_map, option_and_then, ◌⊎◌}
use Rattle.std.proofs.Common.{unwrap_or, inl, inr, refl, sym, ap, subst, ◌∙◌, arith, true≢false}
use Rattle.std.specs.List.{find}
use Rattle.std.proofs.lemmas.Bool.{cases_eq, eqb-true, or_cases, false≢true}
use Rattle.std.proofs.lemmas.Option.{none-some}
use Rattle.fs_text.specs.declared.causes.Cause.{Cause}
use Rattle.fs_vars.specs.Variables.{Variables}
use Rattle.fs_bridge.specs.declared.after.After.{After}
use Rattle.fs_bridge.specs.Closure.{Members, Ends, closure_of}
use Rattle.fs_bridge.specs.Leaving.{parted_world, first_round}
use Rattle.fs_bridge.specs.Orders.{has_slot}
use Rattle.fs_bridge.specs.Worlds.{World, IsSlot}
use Rattle.fs_bridge.proofs.PartLemmas.{first_are_named_or_left}
use Rattle.fs_bridge.proofs.SettledLemmas.{AreSlots}
use Rattle.fs_chan.specs.declared.chan.Chan.{Chan}
use Rattle.fs_chan.specs.Bridging.{unbridged, in_media}
use Rattle.fs_chan.specs.Changes.{is_live, at_rest, parked, hung_up}
use Rattle.fs_chan.specs.Controlling.{held_by}
use Rattle.fs_orig.specs.declared.orig.Orig.{Orig}
use Rattle.fs_orig.specs.declared.winner.Winner.{Winner}
use Rattle.fs_orig.specs.declared.winner.Winner.TheVariants.{App, Route}
use Rattle.fs_seats.specs.Seats.{held_in, with_held}
use Rattle.fs_seats.proofs.HeldLemmas.{IsFree, held_here, held_there, held_within}
use Rattle.fs_state.specs.Switch.{Switch, chan_at, with_chan, without_bridge, without_orig, with_event}
use Rattle.fs_state.specs.Moves.{after_move_from, after_move, orig_changed, partner_of, after_one_hangup}
use Rattle.fs_state.specs.Hangups.{world_of, living_of, Ended, after_ends, is_leg_of, with_end_told, untold_by, after_member, after_members}
use Rattle.fs_state.specs.Queues.{abort_told}
use Rattle.fs_machine.proofs.AbortLemmas.{abort_channels}
use Rattle.fs_state.specs.Hangups.{vars_of, after_survivals, after_closure, after_hangups}
use Rattle.fs_state.specs.Leaving.{after_parting, after_partings, living_among, leaving_of, after_bridges_left}
use Rattle.fs_machine.specs.declared.call.Call.{Call}
use Rattle.fs_machine.specs.Originations.{pair_made, won_by, after_winning}
use Rattle.fs_machine.proofs.Kept.{Stage, Fact, Remains, KeptByBirths, raced, KeptByMoves}
use Rattle.fs_machine.proofs.StayLemmas.{new_lives, execute_lives, routing_lives, park_lives, exchange_lives, state_told_kept, moved_there}
use Rattle.fs_machine.proofs.StayLemmas.{orig_changed_channels}
use Rattle.fs_machine.proofs.ClosureLemmas.{NoneAtZero, chan_slot, are_slots, hangs_up, InSlots, partner_drops, partner_hangs_up}
use Rattle.fs_machine.proofs.HangLemmas.{dies, Falls, Cut, Unbridged, Rests, Parks, ends_kept, members_kept, survivals_kept, hangups_kept}
use Rattle.fs_machine.proofs.HangLemmas.{bridges_left_kept, hangs_as_left}
use Rattle.fs_machine.proofs.NameLemmas.{leg_chan, far_chan, pair_channels}
use Rattle.fs_machine.proofs.FrontLemmas.{Front, front_of, KeptByRemains, joins_by_remains, calls_by_remains, dials_by_remains}
use Rattle.fs_machine.proofs.FrontLemmas.{moves_by_front}
use Rattle.fs_machine.proofs.PartnerLemmas.{lone}
use Rattle.fs_machine.proofs.TieLemmas.{lives_as, lives_in, HungAs, hung_by, named_in, Ties, ties_put, ties_gone, ties_joined}

-- ---- who hangs up, and who does not

-- a slot names the partner that it named, and lives if it lived
record Spared (s t : Switch) (slot : ℕ) : Type 0 where
  names : named_in partner_of t.channels slot ≡ named_in partner_of s.channels slot
  live : lives_in s.channels slot ≡ true → lives_in t.channels slot ≡ true

spared_put : (s t : Switch) (slot seat : ℕ) (old new : Chan) → chan_at t seat ≡ Some old →
    (slot ≡ seat → (new.partner ≡ old.partner) × (is_live old ≡ true → is_live new ≡ true)) → Spared s t slot →
    Spared s (with_chan seat (Some new) t) slot
spared_put s t slot seat old new there keeps h = by (cases_eq slot seat)
  where
    here : slot ≡ seat → chan_at t slot ≡ Some old
    here same = ap (held_in t.channels) same ∙ there

    now : slot ≡ seat → held_in (with_held t.channels seat (Some new)) slot ≡ Some new
    now same =
        ap (held_in (with_held t.channels seat (Some new))) same
        ∙ held_here t.channels seat (Some new) (held_within t.channels seat old there)

    by : (slot ≡ seat) ⊎ (slot ≡ seat → ⊥) → Spared s (with_chan seat (Some new) t) slot
    by (inl same) = record {
      names = ap (option_and_then partner_of) (now same) ∙ (keeps same).0 ∙ (sym (ap (option_and_then partner_of) (here same)) ∙ h.names);
      live = λ lived. ap lives_as (now same) ∙ (keeps same).1 (sym (ap lives_as (here same)) ∙ h.live lived);
    }
    by (inr other) = record {
      names = ap (option_and_then partner_of) (held_there t.channels seat slot (Some new) other) ∙ h.names;
      live = λ lived. ap lives_as (held_there t.channels seat slot (Some new) other) ∙ h.live lived;
    }

spared_falls : (hangs : ℕ → Bool) (s t : Switch) (slot seat : ℕ) (old new : Chan) → hangs slot ≡ false → chan_at t seat ≡ Some old →
    Falls hangs seat old new → Spared s t slot → Spared s (with_chan seat (Some new) t) slot
spared_falls hangs s t slot seat old new stays there (Cut cause hung) h =
    spared_put s t slot seat old (hung_up cause old) there (λ same. absurd (true≢false (sym hung ∙ (ap hangs (sym same) ∙ stays)))) h
spared_falls hangs s t slot seat old new stays there (Unbridged cause) h =
    spared_put s t slot seat old (unbridged cause old) there (λ same. (refl, λ live. live)) h
spared_falls hangs s t slot seat old new stays there (Rests outlives lived) h =
    spared_put s t slot seat old (at_rest old) there (λ same. (refl, λ live. live)) h
spared_falls hangs s t slot seat old new stays there (Parks outlives lived) h =
    spared_put s t slot seat old (parked old) there (λ same. (refl, λ live. park_lives)) h

spared_changed : (change : Orig → Orig) (number : ℕ) (s t : Switch) (slot : ℕ) → Spared s t slot →
    Spared s (orig_changed change number t) slot
spared_changed change number s t slot h = record {
  names = ap (λ (channels : List (Option Chan)). named_in partner_of channels slot) (orig_changed_channels change number t) ∙ h.names;
  live = λ lived. ap (λ (channels : List (Option Chan)). lives_in channels slot) (orig_changed_channels change number t) ∙ h.live lived;
}

spared_told : (s t : Switch) (slot : ℕ) (u : Switch) → u.channels ≡ t.channels → Spared s t slot → Spared s u slot
spared_told s t slot u same h = record {
  names = ap (λ (channels : List (Option Chan)). named_in partner_of channels slot) same ∙ h.names;
  live = λ lived. ap (λ (channels : List (Option Chan)). lives_in channels slot) same ∙ h.live lived;
}

-- whoever does not hang up is spared
spared : (named : Members) (s : Switch) (slot : ℕ) → hangs_up slot named s ≡ false → Spared s (after_hangups named s) slot
spared named s slot stays =
    hangups_kept named s (λ (t : Switch). Spared s t slot) (λ event t k. spared_told s t slot (with_event event t) refl k)
    (λ seat old new t there falls k. spared_falls (λ at. hangs_up at named s) s t slot seat old new stays there falls k)
    (λ number t k. spared_told s t slot (without_bridge number t) refl k)
    (λ cause seat leg number t k. spared_changed (dies cause seat leg) number s t slot k)
    (λ number t k. spared_told s t slot (without_orig number t) refl k) (record { names = refl; live = λ lived. lived })

spared_as_left : (slots : List ℕ) (s : Switch) (slot : ℕ) → hangs_as_left slots s slot ≡ false → Spared s (after_bridges_left slots s) slot
spared_as_left slots s slot stays =
    bridges_left_kept slots s (λ (t : Switch). Spared s t slot) (λ event t k. spared_told s t slot (with_event event t) refl k)
    (λ seat old new t there falls k. spared_falls (hangs_as_left slots s) s t slot seat old new stays there falls k)
    (λ number t k. spared_told s t slot (without_bridge number t) refl k)
    (λ cause seat leg number t k. spared_changed (dies cause seat leg) number s t slot k)
    (λ number t k. spared_told s t slot (without_orig number t) refl k) (record { names = refl; live = λ lived. lived })

-- ---- who hangs up

-- it names none
abbrev NamesNone : ℕ → Switch → Type 0
NamesNone slot t = named_in partner_of t.channels slot ≡ None

none_falls : (hangs : ℕ → Bool) (t : Switch) (slot seat : ℕ) (old new : Chan) → chan_at t seat ≡ Some old → Falls hangs seat old new →
    NamesNone slot t → NamesNone slot (with_chan seat (Some new) t)
none_falls hangs t slot seat old new there falls h = by (cases_eq slot seat)
  where
    kept : (x : Chan) → Falls hangs seat old x → old.partner ≡ None → x.partner ≡ None
    kept x (Cut cause hung) none = refl
    kept x (Unbridged cause) none = none
    kept x (Rests outlives lived) none = none
    kept x (Parks outlives lived) none = none

    by : (slot ≡ seat) ⊎ (slot ≡ seat → ⊥) → NamesNone slot (with_chan seat (Some new) t)
    by (inl same) =
        ap (option_and_then partner_of)
        (ap (held_in (with_held t.channels seat (Some new))) same
        ∙ held_here t.channels seat (Some new) (held_within t.channels seat old there))
        ∙ kept new falls (sym (ap (option_and_then partner_of) (ap (held_in t.channels) same ∙ there)) ∙ h)
    by (inr other) = ap (option_and_then partner_of) (held_there t.channels seat slot (Some new) other) ∙ h

none_changed : (change : Orig → Orig) (number slot : ℕ) (t : Switch) → NamesNone slot t → NamesNone slot (orig_changed change number t)
none_changed change number slot t h =
    ap (λ (channels : List (Option Chan)). named_in partner_of channels slot) (orig_changed_channels change number t) ∙ h

none_members : (untold : List Ended) (members : Members) (slot : ℕ) (t : Switch) → NamesNone slot t →
    NamesNone slot (after_members untold members t)
none_members untold members slot t h =
    members_kept (λ at. true) (NamesNone slot) (λ event u k. k)
    (λ seat old new u there falls k. none_falls (λ at. true) u slot seat old new there falls k) (λ number u k. k)
    (λ cause seat leg number u k. none_changed (dies cause seat leg) number slot u k) (λ number u k. k) untold members t (λ m one. refl) h

none_survivals : (survivors : List (ℕ × After)) (slot : ℕ) (t : Switch) → NamesNone slot t → NamesNone slot (after_survivals survivors t)
none_survivals survivors slot t h =
    survivals_kept (λ at. false) (NamesNone slot) (λ event u k. k)
    (λ seat old new u there falls k. none_falls (λ at. false) u slot seat old new there falls k) (λ number u k. k)
    (λ cause seat leg number u k. none_changed (dies cause seat leg) number slot u k) (λ number u k. k) survivors t (λ one is. refl) h

hung_here : (cause : Cause) (slot : ℕ) (t : Switch) → lives_in t.channels slot ≡ true → NamesNone slot (after_one_hangup cause slot t)
hung_here cause slot t live = by (hung_by cause slot t)
  where
    by : HungAs cause slot t (after_one_hangup cause slot t).channels → NamesNone slot (after_one_hangup cause slot t)
    by (inl dead) = absurd (true≢false (sym live ∙ dead.0))
    by (inr found) =
        ap (λ (channels : List (Option Chan)). named_in partner_of channels slot) found.2
        ∙ ap (option_and_then partner_of)
        (held_here t.channels slot (Some (hung_up cause found.0)) (held_within t.channels slot found.0 found.1))

hung_elsewhere : (cause : Cause) (slot other : ℕ) (t : Switch) → (other ≡ slot → ⊥) →
    lives_in (after_one_hangup cause slot t).channels other ≡ lives_in t.channels other
hung_elsewhere cause slot other t apart = by (hung_by cause slot t)
  where
    by : HungAs cause slot t (after_one_hangup cause slot t).channels →
        lives_in (after_one_hangup cause slot t).channels other ≡ lives_in t.channels other
    by (inl dead) = ap (λ (channels : List (Option Chan)). lives_in channels other) dead.1
    by (inr found) =
        ap (λ (channels : List (Option Chan)). lives_in channels other) found.2
        ∙ ap lives_as (held_there t.channels slot other (Some (hung_up cause found.0)) apart)

end_told_channels : (found : Option Ended) (t : Switch) → (with_end_told found t).channels ≡ t.channels
end_told_channels None t = refl
end_told_channels (Some e) t = refl

-- its turn comes
cut_in : (untold : List Ended) (members : Members) (slot : ℕ) (t : Switch) → has_slot slot members ≡ true →
    lives_in t.channels slot ≡ true → NamesNone slot (after_members untold members t)
cut_in untold [] slot t is live = absurd (false≢true is)
cut_in untold (m ∷ members) slot t is live =
    by (λ u there alive. cut_in (untold_by m.0 untold) members slot u there alive) (cases_eq slot m.0)
  where
    u : Switch
    u = with_end_told (find (is_leg_of m.0) untold) (abort_told m.0 t)

    alive : lives_in u.channels slot ≡ true
    alive =
        ap (λ (channels : List (Option Chan)). lives_in channels slot)
        (end_told_channels (find (is_leg_of m.0) untold) (abort_told m.0 t) ∙ abort_channels m.0 t)
        ∙ live

    later : (slot ≡ m.0 → ⊥) → has_slot slot members ≡ true
    later other =
        elim (or_cases (m.0 == slot) (has_slot slot members) is) [
          | inl here ↦ absurd (other (sym (eqb-true m.0 slot here)))
          | inr there ↦ there
        ]

    by : ((v : Switch) → has_slot slot members ≡ true → lives_in v.channels slot ≡ true →
        NamesNone slot (after_members (untold_by m.0 untold) members v)) →
        (slot ≡ m.0) ⊎ (slot ≡ m.0 → ⊥) → NamesNone slot (after_members untold (m ∷ members) t)
    by more (inl same) =
        none_members (untold_by m.0 untold) members slot (after_member untold m t)
        (subst (λ (at : ℕ). NamesNone at (after_one_hangup m.1 m.0 u)) (sym same)
        (hung_here m.1 m.0 u (ap (lives_in u.channels) (sym same) ∙ alive)))
    by more (inr other) = more (after_member untold m t) (later other) (hung_elsewhere m.1 m.0 slot u other ∙ alive)

-- whose bridge ends is spared by that
ends_spared : (ended : List Ended) (s t : Switch) (slot : ℕ) → Spared s t slot → Spared s (after_ends ended t) slot
ends_spared ended s t slot h =
    ends_kept (λ at. false) (λ (u : Switch). Spared s u slot) (λ event u k. spared_told s u slot (with_event event u) refl k)
    (λ seat old new u there falls k. spared_falls (λ at. false) s u slot seat old new refl there falls k)
    (λ number u k. spared_told s u slot (without_bridge number u) refl k)
    (λ cause seat leg number u k. spared_changed (dies cause seat leg) number s u slot k)
    (λ number u k. spared_told s u slot (without_orig number u) refl k) ended t h

partings_spared : (parted : List Ended) (s t : Switch) (slot : ℕ) → Spared s t slot → Spared s (after_partings parted t) slot
partings_spared [] s t slot h = h
partings_spared (e ∷ parted) s t slot h =
    partings_spared parted s (after_parting e t) slot
    (spared_told s (after_ends (e ∷ []) t) slot (after_parting e t) refl (ends_spared (e ∷ []) s t slot h))

-- whoever hangs up names none
cut : (e : Ends) (s t : Switch) (slot : ℕ) → Ties partner_of s.channels → Spared s t slot → has_slot slot e.members ≡ true →
    NamesNone slot (after_closure e t)
cut e s t slot ties spares is =
    none_survivals e.survivors slot (after_members e.ended e.members u) (by (lives_in s.channels slot) refl)
  where
    u : Switch
    u = after_ends e.ended t

    so : Spared s u slot
    so = ends_spared e.ended s t slot spares

    by : (live : Bool) → lives_in s.channels slot ≡ live → NamesNone slot (after_members e.ended e.members u)
    by true live = cut_in e.ended e.members slot u is (so.live live)
    by false dead =
        none_members e.ended e.members slot u
        (so.names ∙ lone (named_in partner_of s.channels) (lives_in s.channels) slot ties.live dead)

-- ---- partners agree, and nothing stands in slot 0

pub record ArePaired (s : Switch) : Type 0 where
  pub ties : Ties partner_of s.channels
  pub zero : NoneAtZero s

abbrev pub Partners : Fact
Partners b s = ArePaired s

-- it stays so where whoever hangs up names none, and its partner hangs up with it, and all others are spared
module _ (hangs : ℕ → Bool) (s t : Switch) (spares : (slot : ℕ) → hangs slot ≡ false → Spared s t slot)
    (cuts : (slot : ℕ) → hangs slot ≡ true → NamesNone slot t)
    (both : (slot partner : ℕ) → named_in partner_of s.channels slot ≡ Some partner → lives_in s.channels partner ≡ true →
    hangs slot ≡ true → hangs partner ≡ true) (h : Ties partner_of s.channels) where
  named_then : (a b : ℕ) → named_in partner_of t.channels a ≡ Some b → (test : Bool) → hangs a ≡ test →
      (named_in partner_of s.channels a ≡ Some b) × (hangs a ≡ false)
  named_then a b e true is = absurd (none-some b (sym (cuts a is) ∙ e))
  named_then a b e false is = (sym (spares a is).names ∙ e, is)

  named_back : (a b : ℕ) → (named_in partner_of s.channels a ≡ Some b) × (hangs a ≡ false) → (test : Bool) → hangs b ≡ test →
      named_in partner_of t.channels b ≡ Some a
  named_back a b was true is = absurd (true≢false (sym (both b a (h.back a b was.0) (h.live a b was.0) is) ∙ was.1))
  named_back a b was false is = (spares b is).names ∙ h.back a b was.0

  ties_then : Ties partner_of t.channels
  ties_then = record {
    back = λ a b e. named_back a b (named_then a b e (hangs a) refl) (hangs b) refl;
    live = λ a b e. let was = named_then a b e (hangs a) refl in (spares a was.1).live (h.live a b was.0);
  }

hung_ties : (named : Members) (s : Switch) → ArePaired s → Ties partner_of (after_hangups named s).channels
unfolding after_hangups
hung_ties named s h =
    ties_then (λ at. hangs_up at named s) s (after_hangups named s) (spared named s)
    (λ slot is. cut (closure_of (world_of s) (living_of s named)) s s slot h.ties (record { names = refl; live = λ lived. lived }) is)
    (λ slot partner names live is. partner_hangs_up named s slot partner h.zero names live is) h.ties

-- who are left and hang up stand in slots
left_within : (slots : List ℕ) (s : Switch) → NoneAtZero s →
    InSlots (parted_world (world_of s) (living_among s slots)) (first_round (world_of s) [] (living_among s slots))
left_within slots s zero m one =
    elim ((first_are_named_or_left (world_of s) [] (living_among s slots) m).0 one) [
      | inl none ↦ absurd none
      | inr behind ↦ by (chan_at s m.0) refl behind.other.vars behind.other.own
    ]
  where
    by : (found : Option Chan) → chan_at s m.0 ≡ found → (vars : Variables) → option_map vars_of found ≡ Some vars →
        IsSlot (parted_world (world_of s) (living_among s slots)) m.0
    by None is vars own = absurd (none-some vars own)
    by (Some c) is vars own = let its = chan_slot s zero m.0 c is in record { first = its.first; last = its.last }

left_ties : (slots : List ℕ) (s : Switch) → ArePaired s → Ties partner_of (after_bridges_left slots s).channels
unfolding after_bridges_left
left_ties slots s h =
    ties_then (hangs_as_left slots s) s (after_bridges_left slots s) (spared_as_left slots s)
    (λ slot is. cut (leaving_of slots s).ends s (after_partings parted s) slot h.ties
    (partings_spared parted s s slot (record { names = refl; live = λ lived. lived })) is)
    (λ slot partner names live is. partner_drops w (first_round (world_of s) [] left) slot partner there
    (left_within slots s h.zero) names live is) h.ties
  where
    left : List ℕ
    left = living_among s slots

    parted : List Ended
    parted = (leaving_of slots s).parted

    w : World
    w = parted_world (world_of s) left

    there : AreSlots w
    there slot live = let its = are_slots s h.zero slot live in record { first = its.first; last = its.last }

pub zero_put : (s : Switch) (seat : ℕ) (new : Option Chan) → (seat ≡ 0 → ⊥) → NoneAtZero s → NoneAtZero (with_chan seat new s)
zero_put s seat new apart zero = held_there s.channels seat 0 new (λ same. apart (sym same)) ∙ zero

-- a slot in which something stands is not that
pub not_zero : (s : Switch) (seat : ℕ) (c : Chan) → chan_at s seat ≡ Some c → NoneAtZero s → seat ≡ 0 → ⊥
not_zero s seat c there zero same = none-some c (sym zero ∙ (ap (chan_at s) (sym same) ∙ there))

pub hung_zero : (named : Members) (s : Switch) → NoneAtZero s → NoneAtZero (after_hangups named s)
hung_zero named s zero =
    hangups_kept named s NoneAtZero (λ event t k. k)
    (λ seat old new t there falls k. zero_put t seat (Some new) (not_zero t seat old there k) k) (λ number t k. k)
    (λ cause seat leg number t k. ap (λ (channels : List (Option Chan)). held_in channels 0)
    (orig_changed_channels (dies cause seat leg) number t)
    ∙ k)
    (λ number t k. k) zero

left_zero : (slots : List ℕ) (s : Switch) → NoneAtZero s → NoneAtZero (after_bridges_left slots s)
left_zero slots s zero =
    bridges_left_kept slots s NoneAtZero (λ event t k. k)
    (λ seat old new t there falls k. zero_put t seat (Some new) (not_zero t seat old there k) k) (λ number t k. k)
    (λ cause seat leg number t k. ap (λ (channels : List (Option Chan)). held_in channels 0)
    (orig_changed_channels (dies cause seat leg) number t)
    ∙ k)
    (λ number t k. k) zero

-- a channel is changed that names the same partner, and lives if it lived
put_partners : (slot : ℕ) (old new : Chan) (s : Switch) → chan_at s slot ≡ Some old → new.partner ≡ old.partner →
    (is_live old ≡ true → is_live new ≡ true) →
    Ties partner_of s.channels → Ties partner_of (with_chan slot (Some new) s).channels
put_partners slot old new s there same live h =
    ties_put partner_of s.channels slot (Some new) (held_within s.channels slot old there)
    (same ∙ sym (ap (option_and_then partner_of) there)) (λ e. live (sym (ap lives_as there) ∙ e)) h

-- the two ends of a pair name each other
pair_partners : (call : Call) (orig a b : ℕ) (s : Switch) → IsFree Chan s.channels 1 a → IsFree Chan s.channels (a + 1) b →
    Ties partner_of s.channels → Ties partner_of (pair_made call orig a b s).channels
pair_partners call orig a b s free_a free_b h =
    subst (Ties partner_of) (sym (pair_channels call orig a b s))
    (ties_joined partner_of s.channels a b (leg_chan call orig a b s) (far_chan call orig a b s)
    (λ same. omega (arith, free_b.behind, same)) free_a.within free_b.within (ap (option_and_then partner_of) free_a.free)
    (ap (option_and_then partner_of) free_b.free) refl refl new_lives new_lives h)

won_partners : (winner : Winner) (slot : ℕ) (s : Switch) → Ties partner_of s.channels →
    Ties partner_of (after_winning winner slot s).channels
unfolding after_winning
won_partners winner slot s h = by (chan_at s slot) refl
  where
    put : (what : Winner) (c : Chan) → chan_at s slot ≡ Some c → Ties partner_of (with_chan slot (Some (won_by what c)) s).channels
    put (App application argument) c is = put_partners slot c (won_by (App application argument) c) s is refl (λ l. execute_lives) h
    put (Route to) c is = put_partners slot c (won_by (Route to) c) s is refl (λ l. routing_lives) h

    by : (found : Option Chan) → chan_at s slot ≡ found → Ties partner_of (after_move_from (won_by winner) slot found s).channels
    by None is = h
    by (Some c) is =
        state_told_kept (λ (t : Switch). Ties partner_of t.channels) (λ event t k. k) c.state
        (won_by winner c).state slot {s = with_chan slot (Some (won_by winner c)) s} (put winner c is)

same_partners : (b : Stage) (t u : Switch) → ArePaired t → front_of u ≡ front_of t → ArePaired u
same_partners b t u h same = record {
  ties = subst (λ (f : Front). Ties partner_of f.channels) (sym same) h.ties;
  zero = ap (λ (f : Front). held_in f.channels 0) same ∙ h.zero;
}

media_partners : (slot : ℕ) (s : Switch) → ArePaired s → ArePaired (after_move in_media slot s)
media_partners slot s h =
    moved_there ArePaired (λ event t k. record { ties = k.ties; zero = k.zero }) in_media slot s
    (λ c there. record {
      ties = put_partners slot c (in_media c) s there refl (λ live. exchange_lives) h.ties;
      zero = zero_put s slot (Some (in_media c)) (not_zero s slot c there h.zero) h.zero;
    }) h

remains_partners : KeptByRemains Partners
remains_partners = record {
  told = λ event plain h. record { ties = h.ties; zero = h.zero };
  globals = λ globals h. record { ties = h.ties; zero = h.zero };
  joins = λ kind caller answerer {b = b} {s = s} can h.
      joins_by_remains Partners (λ event b t k. record { ties = k.ties; zero = k.zero })
      (λ rows b t k. record { ties = k.ties; zero = k.zero })
      (λ slot old new b t there remains holder k. put slot old new t there remains k)
      kind caller answerer b s h;
  remains = λ slot old new {s = s} there remains holder h. put slot old new s there remains h;
  hung = λ named {s = s} h. record { ties = hung_ties named s h; zero = hung_zero named s h.zero };
  leaves = λ slots {s = s} h. record { ties = left_ties slots s h; zero = left_zero slots s h.zero };
  more = λ h. h;
  gone = λ slot old {s = s} there dead h. record {
    ties = ties_gone partner_of s.channels slot old there dead h.ties;
    zero = zero_put s slot None (not_zero s slot old there h.zero) h.zero;
  };
}
  where
    put : (slot : ℕ) (old new : Chan) (s : Switch) → chan_at s slot ≡ Some old → Remains old new → ArePaired s →
        ArePaired (with_chan slot (Some new) s)
    put slot old new s there remains h = record {
      ties = put_partners slot old new s there remains.partner (λ live. remains.live ∙ live) h.ties;
      zero = zero_put s slot (Some new) (not_zero s slot old there h.zero) h.zero;
    }

births_partners : KeptByBirths Partners
births_partners = record {
  spent = λ h. h;
  pair = λ call orig a b {s = s} short named first second h. record {
    ties = pair_partners call orig a b s first second h.ties;
    zero =
        ap (λ (channels : List (Option Chan)). held_in channels 0) (pair_channels call orig a b s)
        ∙ held_there (with_held s.channels a (Some (leg_chan call orig a b s))) b 0 (Some (far_chan call orig a b s))
        (λ same. omega (arith, second.behind, same))
        ∙ held_there s.channels a 0 (Some (leg_chan call orig a b s)) (λ same. omega (arith, first.behind, same))
        ∙ h.zero;
  };
}

won_zero : (winner : Winner) (slot : ℕ) (s : Switch) → NoneAtZero s → NoneAtZero (after_winning winner slot s)
unfolding after_winning
won_zero winner slot s zero =
    moved_there NoneAtZero (λ event t k. k) (won_by winner) slot s
    (λ c there. zero_put s slot (Some (won_by winner c)) (not_zero s slot c there zero) zero) zero

pub partners_moves : (before : Switch) → KeptByMoves before Partners
partners_moves before =
    moves_by_front before Partners same_partners
    (calls_by_remains before Partners (λ b t u h e conns. same_partners b t u h e) remains_partners births_partners
    (λ at u live h. media_partners at u h))
    births_partners
    (dials_by_remains before Partners (λ b t u h e conns. same_partners b t u h e) remains_partners births_partners
    (λ at u live h. media_partners at u h))
    (λ job who winner caller orig leg slots does won h. record {
      ties = won_partners winner (unwrap_or leg.slot 0) (raced slots before) h.ties;
      zero = won_zero winner (unwrap_or leg.slot 0) (raced slots before) h.zero;
    })
    (λ s h. record { ties = h.ties; zero = h.zero })
    (λ slot conn c text s there waits h. record {
      ties = put_partners slot c (held_by conn c) s there refl (λ live. live) h.ties;
      zero = zero_put s slot (Some (held_by conn c)) (not_zero s slot c there h.zero) h.zero;
    })
