-- Whoever hangs up is dead behind the hangup, and so is whoever is named.
use Rattle.std.proofs.Common.{◌≡◌, ℕ, zero, suc, ◌==◌, Bool, true, false, if◌then◌else◌, ◌||◌, List, [], ◌∷◌, ◌++◌, map, Option, None, Some}
use Rattle.std.proofs.Common.{◌⊎◌, inl, inr, refl, sym, ap, subst, ◌∙◌, true≢false}
use Rattle.std.proofs.lemmas.Bool.{cases_eq, eqb-true, or_cases, false≢true}
use Rattle.std.proofs.lemmas.Cmp.{nat_eq_equiv}
use Rattle.std.proofs.lemmas.List.Folds.{list_any-append}
use Rattle.std.specs.List.{find}
use Rattle.fs_text.specs.declared.causes.Cause.{Cause}
use Rattle.fs_bridge.specs.declared.after.After.{After}
use Rattle.fs_bridge.specs.Closure.{Member, Members, Ends, round_after, with_rounds, members_of, closure_of}
use Rattle.fs_bridge.specs.Hangups.{IsOneOf}
use Rattle.fs_bridge.specs.Orders.{has_slot, in_order}
use Rattle.fs_bridge.specs.Worlds.{World}
use Rattle.fs_bridge.proofs.OnceLemmas.{has_order}
use Rattle.fs_chan.specs.declared.chan.Chan.{Chan}
use Rattle.fs_chan.specs.Changes.{is_live, hung_up}
use Rattle.fs_orig.specs.declared.orig.Orig.{Orig}
use Rattle.fs_seats.specs.Seats.{held_in, with_held}
use Rattle.fs_seats.proofs.HeldLemmas.{held_here, held_there, held_within}
use Rattle.fs_state.specs.Switch.{Switch, chan_at, with_chan}
use Rattle.fs_state.specs.Moves.{orig_changed, after_one_hangup}
use Rattle.fs_state.specs.Hangups.{lives, lives_at, world_of, living_of, Ended, is_leg_of, with_end_told, untold_by, after_member}
use Rattle.fs_state.specs.Hangups.{after_members}
use Rattle.fs_state.specs.Queues.{abort_told}
use Rattle.fs_state.specs.Hangups.{after_ends, after_survivals, after_closure, after_hangups, after_hangup, after_hangups_for}
use Rattle.fs_state.specs.Leaving.{after_partings, leaving_of, after_bridges_left}
use Rattle.fs_machine.proofs.StayLemmas.{hangup_dead, orig_changed_channels}
use Rattle.fs_machine.proofs.TieLemmas.{lives_as, lives_in, HungAs, hung_by}
use Rattle.fs_machine.proofs.HangLemmas.{dies, Falls, Cut, Unbridged, Rests, Parks, members_kept, survivals_kept, hangups_kept}
use Rattle.fs_machine.proofs.HangLemmas.{hangs_as_left}
use Rattle.fs_machine.proofs.ClosureLemmas.{hangs_up, same_members}

-- no live channel is in a slot
abbrev pub DeadAt : ℕ → Switch → Type 0
DeadAt slot t = lives_in t.channels slot ≡ false

dead_falls : (hangs : ℕ → Bool) (t : Switch) (slot seat : ℕ) (old new : Chan) → chan_at t seat ≡ Some old → Falls hangs seat old new →
    DeadAt slot t → DeadAt slot (with_chan seat (Some new) t)
dead_falls hangs t slot seat old new there falls h = by (cases_eq slot seat)
  where
    kept : (x : Chan) → Falls hangs seat old x → is_live old ≡ false → is_live x ≡ false
    kept x (Cut cause hung) dead = hangup_dead
    kept x (Unbridged cause) dead = dead
    kept x (Rests outlives lived) dead = dead
    kept x (Parks outlives lived) dead = absurd (true≢false (sym lived ∙ dead))

    by : (slot ≡ seat) ⊎ (slot ≡ seat → ⊥) → DeadAt slot (with_chan seat (Some new) t)
    by (inl same) =
        ap lives_as
        (ap (held_in (with_held t.channels seat (Some new))) same
        ∙ held_here t.channels seat (Some new) (held_within t.channels seat old there))
        ∙ kept new falls (sym (ap lives_as (ap (held_in t.channels) same ∙ there)) ∙ h)
    by (inr other) = ap lives_as (held_there t.channels seat slot (Some new) other) ∙ h

dead_changed : (change : Orig → Orig) (number slot : ℕ) (t : Switch) → DeadAt slot t → DeadAt slot (orig_changed change number t)
dead_changed change number slot t h =
    ap (λ (channels : List (Option Chan)). lives_in channels slot) (orig_changed_channels change number t) ∙ h

dead_members : (untold : List Ended) (members : Members) (slot : ℕ) (t : Switch) → DeadAt slot t →
    DeadAt slot (after_members untold members t)
dead_members untold members slot t h =
    members_kept (λ at. true) (DeadAt slot) (λ event u k. k)
    (λ seat old new u there falls k. dead_falls (λ at. true) u slot seat old new there falls k) (λ number u k. k)
    (λ cause seat leg number u k. dead_changed (dies cause seat leg) number slot u k) (λ number u k. k) untold members t (λ m one. refl) h

dead_survivals : (survivors : List (ℕ × After)) (slot : ℕ) (t : Switch) → DeadAt slot t → DeadAt slot (after_survivals survivors t)
dead_survivals survivors slot t h =
    survivals_kept (λ at. false) (DeadAt slot) (λ event u k. k)
    (λ seat old new u there falls k. dead_falls (λ at. false) u slot seat old new there falls k) (λ number u k. k)
    (λ cause seat leg number u k. dead_changed (dies cause seat leg) number slot u k) (λ number u k. k) survivors t (λ one is. refl) h

-- whoever is dead stays dead
dead_hung : (named : Members) (s : Switch) (slot : ℕ) → DeadAt slot s → DeadAt slot (after_hangups named s)
dead_hung named s slot h =
    hangups_kept named s (DeadAt slot) (λ event u k. k)
    (λ seat old new u there falls k. dead_falls (λ at. hangs_up at named s) u slot seat old new there falls k) (λ number u k. k)
    (λ cause seat leg number u k. dead_changed (dies cause seat leg) number slot u k) (λ number u k. k) h

dead_here : (cause : Cause) (slot : ℕ) (t : Switch) → DeadAt slot (after_one_hangup cause slot t)
dead_here cause slot t = by (hung_by cause slot t)
  where
    by : HungAs cause slot t (after_one_hangup cause slot t).channels → DeadAt slot (after_one_hangup cause slot t)
    by (inl dead) = ap (λ (channels : List (Option Chan)). lives_in channels slot) dead.1 ∙ dead.0
    by (inr found) =
        ap (λ (channels : List (Option Chan)). lives_in channels slot) found.2
        ∙ ap lives_as (held_here t.channels slot (Some (hung_up cause found.0)) (held_within t.channels slot found.0 found.1))
        ∙ hangup_dead

-- its turn comes
dies_in : (untold : List Ended) (members : Members) (slot : ℕ) (t : Switch) → has_slot slot members ≡ true →
    DeadAt slot (after_members untold members t)
dies_in untold [] slot t is = absurd (false≢true is)
dies_in untold (m ∷ members) slot t is = by (λ u there. dies_in (untold_by m.0 untold) members slot u there) (cases_eq slot m.0)
  where
    u : Switch
    u = with_end_told (find (is_leg_of m.0) untold) (abort_told m.0 t)

    later : (slot ≡ m.0 → ⊥) → has_slot slot members ≡ true
    later other =
        elim (or_cases (m.0 == slot) (has_slot slot members) is) [
          | inl here ↦ absurd (other (sym (eqb-true m.0 slot here)))
          | inr there ↦ there
        ]

    by : ((v : Switch) → has_slot slot members ≡ true → DeadAt slot (after_members (untold_by m.0 untold) members v)) →
        (slot ≡ m.0) ⊎ (slot ≡ m.0 → ⊥) → DeadAt slot (after_members untold (m ∷ members) t)
    by more (inl same) =
        dead_members (untold_by m.0 untold) members slot (after_member untold m t)
        (subst (λ (at : ℕ). DeadAt at (after_one_hangup m.1 m.0 u)) (sym same) (dead_here m.1 m.0 u))
    by more (inr other) = more (after_member untold m t) (later other)

-- whoever hangs up is dead then
pub closure_dies : (e : Ends) (slot : ℕ) (t : Switch) → has_slot slot e.members ≡ true → DeadAt slot (after_closure e t)
closure_dies e slot t is =
    dead_survivals e.survivors slot (after_members e.ended e.members (after_ends e.ended t))
    (dies_in e.ended e.members slot (after_ends e.ended t) is)

pub members_die : (named : Members) (s : Switch) (slot : ℕ) → hangs_up slot named s ≡ true → DeadAt slot (after_hangups named s)
unfolding after_hangups
members_die named s slot is = closure_dies (closure_of (world_of s) (living_of s named)) slot s is

pub left_die : (slots : List ℕ) (s : Switch) (slot : ℕ) → hangs_as_left slots s slot ≡ true → DeadAt slot (after_bridges_left slots s)
unfolding after_bridges_left
left_die slots s slot is = closure_dies (leaving_of slots s).ends slot (after_partings (leaving_of slots s).parted s) is

-- ---- whoever is named

more_stand : (w : World) (more : ℕ) (members round : Members) (slot : ℕ) → has_slot slot members ≡ true →
    has_slot slot (with_rounds w more members round) ≡ true
more_stand w zero members round slot is = is
more_stand w (suc more) members round slot is =
    more_stand w more (members ++ round_after w members round) (round_after w members round) slot
    (list_any-append (λ (m : Member). m.0 == slot) members (round_after w members round)
    ∙ ap (λ b. b || has_slot slot (round_after w members round)) is)

named_stands : (w : World) (named : Members) (slot : ℕ) → has_slot slot named ≡ true → has_slot slot (members_of w named) ≡ true
unfolding members_of
named_stands w named slot is = more_stand w w.slots (in_order named) (in_order named) slot (has_order slot [] named ∙ is)

pub or_behind : (a b : Bool) → b ≡ true → (a || b) ≡ true
or_behind true b is = refl
or_behind false b is = is

-- it stands among those that live, if it lives
living_has : (s : Switch) (named : Members) (slot : ℕ) → lives_at s slot ≡ true → has_slot slot named ≡ true →
    has_slot slot (living_of s named) ≡ true
living_has s [] slot live is = is
living_has s (m ∷ named) slot live is =
    by (living_has s named slot live) (or_cases (m.0 == slot) (has_slot slot named) is) (lives_at s m.0) refl
  where
    by : (has_slot slot named ≡ true → has_slot slot (living_of s named) ≡ true) →
        ((m.0 == slot) ≡ true) ⊎ (has_slot slot named ≡ true) → (test : Bool) → lives_at s m.0 ≡ test →
        has_slot slot (if test then m ∷ living_of s named else living_of s named) ≡ true
    by later (inl here) true at = ap (λ b. b || has_slot slot (living_of s named)) here
    by later (inl here) false at = absurd (true≢false (sym live ∙ (ap (lives_at s) (sym (eqb-true m.0 slot here)) ∙ at)))
    by later (inr there) true at = or_behind (m.0 == slot) (has_slot slot (living_of s named)) (later there)
    by later (inr there) false at = later there

-- whoever is named and lives hangs up
pub named_hangs_up : (named : Members) (s : Switch) (slot : ℕ) → lives_at s slot ≡ true → has_slot slot named ≡ true →
    hangs_up slot named s ≡ true
named_hangs_up named s slot live is =
    same_members named s slot ∙ named_stands (world_of s) (living_of s named) slot (living_has s named slot live is)

-- whoever is named is dead then
pub named_dies : (named : Members) (s : Switch) (slot : ℕ) → has_slot slot named ≡ true → DeadAt slot (after_hangups named s)
named_dies named s slot is = by (lives_at s slot) refl
  where
    as_dead : (found : Option Chan) → lives found ≡ false → lives_as found ≡ false
    as_dead None dead = dead
    as_dead (Some c) dead = dead

    by : (live : Bool) → lives_at s slot ≡ live → DeadAt slot (after_hangups named s)
    by true live = members_die named s slot (named_hangs_up named s slot live is)
    by false dead = dead_hung named s slot (as_dead (chan_at s slot) dead)

-- one that is hung up is
pub hangup_kills : (cause : Cause) (slot : ℕ) (s : Switch) → DeadAt slot (after_hangup cause slot s)
hangup_kills cause slot s = named_dies ((slot, cause) ∷ []) s slot (ap (λ b. b || false) (nat_eq_equiv.refl slot))

-- and all that are of one cause
one_has : (cause : Cause) (slots : List ℕ) (slot : ℕ) → IsOneOf slot slots → has_slot slot (map (λ at. (at, cause)) slots) ≡ true
one_has cause [] slot is = absurd is
one_has cause (first ∷ slots) slot (inl same) =
    ap (λ b. b || has_slot slot (map (λ at. (at, cause)) slots)) (ap (λ at. first == at) same ∙ nat_eq_equiv.refl first)
one_has cause (first ∷ slots) slot (inr there) =
    or_behind (first == slot) (has_slot slot (map (λ at. (at, cause)) slots)) (one_has cause slots slot there)

pub slots_die : (cause : Cause) (slots : List ℕ) (s : Switch) (slot : ℕ) → IsOneOf slot slots → DeadAt slot (after_hangups_for cause slots s)
slots_die cause slots s slot is = named_dies (map (λ at. (at, cause)) slots) s slot (one_has cause slots slot is)
