-- What holds of the channel in a slot as others are hung up and leave, and who is free behind that.
use Rattle.std.proofs.Common.{◌≡◌, ◌≢◌, ◌⊎◌, ℕ, Bool, true, false, if◌then◌else◌, List, [], ◌∷◌, map, Option, None, Some}
use Rattle.std.proofs.Common.{option_and_then, inl, inr, refl, sym, ap, subst, ◌∙◌}
use Rattle.std.specs.Prelude.{nat_lt}
use Rattle.fs_text.specs.declared.causes.Cause.TheVariants.{OriginatorCancel}
use Rattle.fs_bridge.specs.Closure.{Members}
use Rattle.fs_bridge.specs.Hangups.{IsOneOf}
use Rattle.fs_chan.specs.declared.chan.Chan.{Chan}
use Rattle.fs_chan.specs.declared.wait.Wait.TheVariants.{Ready}
use Rattle.fs_chan.specs.Bridging.{awaited_by, at_leisure}
use Rattle.fs_chan.specs.Changes.{parked, transferred}
use Rattle.fs_chan.specs.declared.target.Target3.{Target3}
use Rattle.fs_text.specs.declared.states.State.TheVariants.{CsPark}
use Rattle.fs_seats.specs.Seats.{held_in}
use Rattle.fs_state.specs.Switch.{Switch, chan_at, with_chan}
use Rattle.fs_state.specs.Moves.{after_move, orig_given_up}
use Rattle.fs_state.specs.Hangups.{lives_at, after_hangups}
use Rattle.fs_state.specs.Leaving.{all_legs_at, after_cancelling, after_bridges_left, after_leaving_others}
use Rattle.fs_state.specs.Queues.{queue_at}
use Rattle.fs_machine.specs.Joining.{is_ready, after_leaving, after_farewell, after_farewells, after_departures, both_slots}
use Rattle.fs_machine.specs.Leaving.{after_arrival, are_ready}
use Rattle.fs_machine.proofs.AbortLemmas.{queue_left_kept}
use Rattle.fs_machine.proofs.BondTables.{Stood, stood}
use Rattle.fs_machine.proofs.ClosureLemmas.{hangs_up}
use Rattle.fs_machine.proofs.HangLemmas.{dies, Falls, Cut, Unbridged, Rests, Parks, given_up_kept, hangups_kept, bridges_left_kept, hangs_as_left}
use Rattle.fs_machine.proofs.Kept.{hold_in}
use Rattle.fs_machine.proofs.ShortLemmas.{left_holds, right_holds}
use Rattle.fs_machine.proofs.LeaveLemmas.{farewell_kept, left_free}
use Rattle.fs_machine.proofs.LegLemmas.{Channels}
use Rattle.fs_machine.proofs.StayLemmas.{orig_changed_channels, moved_there, changed_there, rest_free}

-- ---- what holds of the channel in a slot

-- it holds of the one that stands there, if one does
abbrev pub Holds : (Chan → Type 0) → Switch → ℕ → Type 0
Holds Q t slot = (c : Chan) → chan_at t slot ≡ Some c → Q c

-- and stays where it holds of whatever a channel becomes of which it held
pub holds_put : (Q : Chan → Type 0) (t : Switch) (slot seat : ℕ) (old new : Chan) → chan_at t seat ≡ Some old → (Q old → Q new) →
    Holds Q t slot → Holds Q (with_chan seat (Some new) t) slot
holds_put Q t slot seat old new there keeps h c is = by (stood t.channels seat old new slot c there is)
  where
    by : Stood t.channels seat old new slot c → Q c
    by was = how was.how
      where
        how : ((slot ≡ seat) × (was.was ≡ old) × (c ≡ new)) ⊎ ((slot ≢ seat) × (c ≡ was.was)) → Q c
        how (inl e) = subst Q (sym e.2) (keeps (subst Q e.1 (h was.was was.there)))
        how (inr e) = subst Q (sym e.1) (h was.was was.there)

pub holds_hung : (Q : Chan → Type 0) →
    ((hangs : ℕ → Bool) (seat : ℕ) (old new : Chan) → Falls hangs seat old new → Q old → Q new) →
    (slot : ℕ) (named : Members) (t : Switch) → Holds Q t slot → Holds Q (after_hangups named t) slot
holds_hung Q keeps slot named t h =
    hangups_kept named t (λ (u : Switch). Holds Q u slot) (λ event u k. k)
    (λ seat old new u there falls k. holds_put Q u slot seat old new there (keeps (λ at. hangs_up at named t) seat old new falls) k)
    (λ number u k. k)
    (λ cause seat leg number u k.
    subst (λ (all : Channels). (c : Chan) → held_in all slot ≡ Some c → Q c) (sym (orig_changed_channels (dies cause seat leg) number u)) k)
    (λ number u k. k) h

pub holds_bridges_left : (Q : Chan → Type 0) →
    ((hangs : ℕ → Bool) (seat : ℕ) (old new : Chan) → Falls hangs seat old new → Q old → Q new) →
    (slot : ℕ) (slots : List ℕ) (t : Switch) → Holds Q t slot → Holds Q (after_bridges_left slots t) slot
holds_bridges_left Q keeps slot slots t h =
    bridges_left_kept slots t (λ (u : Switch). Holds Q u slot) (λ event u k. k)
    (λ seat old new u there falls k. holds_put Q u slot seat old new there (keeps (hangs_as_left slots t) seat old new falls) k)
    (λ number u k. k)
    (λ cause seat leg number u k.
    subst (λ (all : Channels). (c : Chan) → held_in all slot ≡ Some c → Q c) (sym (orig_changed_channels (dies cause seat leg) number u)) k)
    (λ number u k. k) h

pub holds_left : (Q : Chan → Type 0) → ((c : Chan) → Q c → Q (at_leisure c)) → (slot seat : ℕ) (s : Switch) → Holds Q s slot →
    Holds Q (after_leaving seat s) slot
holds_left Q keeps slot seat s h =
    let awaited : Option ℕ = option_and_then awaited_by (chan_at s seat) in
    let t : Switch = orig_given_up seat awaited s in
    let k : Holds Q t slot = given_up_kept (λ (u : Switch). Holds Q u slot) (λ number u k. k) seat awaited s h in
    changed_there (λ (u : Switch). Holds Q u slot) at_leisure seat t (λ c is. holds_put Q t slot seat c (at_leisure c) is (keeps c) k) k

pub holds_farewell : (Q : Chan → Type 0) → ((c : Chan) → Q c → Q (at_leisure c)) → (slot seat : ℕ) (s : Switch) → Holds Q s slot →
    Holds Q (after_farewell seat s) slot
holds_farewell Q keeps slot seat s h =
    farewell_kept (λ (u : Switch). Holds Q u slot) (λ event u k. k) (λ at u k. holds_left Q keeps slot at u k) seat s h

-- behind the hangup of the legs that they dialed, and the ends of the bridges that they leave
pub holds_others_left : (Q : Chan → Type 0) →
    ((hangs : ℕ → Bool) (seat : ℕ) (old new : Chan) → Falls hangs seat old new → Q old → Q new) →
    (slot : ℕ) (slots : List ℕ) (t : Switch) → Holds Q t slot → Holds Q (after_leaving_others slots t) slot
holds_others_left Q keeps slot slots t h =
    holds_bridges_left Q keeps slot slots (after_cancelling slots t)
    (holds_hung Q keeps slot (map (λ leg. (leg, OriginatorCancel)) (all_legs_at t slots)) t h)

-- ---- who is free

-- a channel is no leg of an origination
abbrev pub IsLone : Chan → Type 0
IsLone c = c.leg_of ≡ None

pub lone_falls : (hangs : ℕ → Bool) (seat : ℕ) (old new : Chan) → Falls hangs seat old new → IsLone old → IsLone new
lone_falls hangs seat old new (Cut cause hung) h = refl
lone_falls hangs seat old new (Unbridged cause) h = h
lone_falls hangs seat old new (Rests outlives live) h = h
lone_falls hangs seat old new (Parks outlives live) h = h

-- nor does anything hold it
pub record IsFree (c : Chan) : Type 0 where
  pub lone : IsLone c
  pub free : hold_in c.wait ≡ Ready

free_left : (c : Chan) → IsFree c → IsFree (at_leisure c)
free_left c h = record { lone = h.lone; free = rest_free None c.state }

-- whoever bids farewell is free then
farewell_frees : (slot : ℕ) (s : Switch) → Holds IsLone s slot → Holds IsFree (after_farewell slot s) slot
farewell_frees slot s h =
    queue_left_kept (λ (t : Switch). Holds IsFree t slot) (λ name at t k. k) (queue_at s slot) slot (after_leaving slot s)
    (λ c there. record { lone = holds_left IsLone (λ d lone. lone) slot slot s h c there; free = left_free slot s c there })

still_free : (slots : List ℕ) (slot : ℕ) (s : Switch) → Holds IsFree s slot → Holds IsFree (after_farewells slots s) slot
still_free [] slot s h = h
still_free (seat ∷ slots) slot s h = still_free slots slot (after_farewell seat s) (holds_farewell IsFree free_left slot seat s h)

farewells_free : (slots : List ℕ) (slot : ℕ) (s : Switch) → IsOneOf slot slots → Holds IsLone s slot → Holds IsFree (after_farewells slots s) slot
farewells_free [] slot s one h = absurd one
farewells_free (seat ∷ slots) slot s (inl same) h =
    still_free slots slot (after_farewell seat s)
    (subst (λ at. Holds IsFree (after_farewell at s) slot) same (farewell_frees slot s h))
farewells_free (seat ∷ slots) slot s (inr one) h =
    farewells_free slots slot (after_farewell seat s) one (holds_farewell IsLone (λ c lone. lone) slot seat s h)

-- whoever was no leg of an origination and has left what it was in is free
pub departed_frees : (slots : List ℕ) (slot : ℕ) (s : Switch) → IsOneOf slot slots → Holds IsLone s slot →
    Holds IsFree (after_departures slots s) slot
departed_frees slots slot s one h =
    farewells_free slots slot (after_leaving_others slots s) one (holds_others_left IsLone lone_falls slot slots s h)

-- ---- where they go

-- each of two slots is one of both
pub among_both : (a b : ℕ) → IsOneOf a (both_slots a b) × IsOneOf b (both_slots a b)
among_both a b = by (nat_lt a b)
  where
    by : (test : Bool) → IsOneOf a (if test then a ∷ b ∷ [] else b ∷ a ∷ []) × IsOneOf b (if test then a ∷ b ∷ [] else b ∷ a ∷ [])
    by true = (inl refl, inr (inl refl))
    by false = (inr (inl refl), inl refl)

-- of some that are all ready each is
pub one_ready : (s : Switch) (slots : List ℕ) → are_ready s slots ≡ true → (slot : ℕ) → IsOneOf slot slots →
    is_ready (chan_at s slot) ≡ true
one_ready s [] all slot one = absurd one
one_ready s (other ∷ slots) all slot (inl same) =
    ap (λ at. is_ready (chan_at s at)) same ∙ left_holds (is_ready (chan_at s other)) (are_ready s slots) all
one_ready s (other ∷ slots) all slot (inr one) =
    one_ready s slots (right_holds (is_ready (chan_at s other)) (are_ready s slots) all) slot one

-- one that is free is so where it is sent
pub parked_free : (c : Chan) → IsFree c → IsFree (parked c)
parked_free c h = record { lone = h.lone; free = rest_free c.socket CsPark }

pub transferred_free : (to : Target3) (c : Chan) → IsFree c → IsFree (transferred to c)
transferred_free to c h = record { lone = h.lone; free = refl }

pub arrived_free : (change : Chan → Chan) → ((c : Chan) → IsFree c → IsFree (change c)) → (seat slot : ℕ) (s : Switch) →
    Holds IsFree s slot → Holds IsFree (after_arrival change seat s) slot
arrived_free change frees seat slot s h = by (lives_at s seat)
  where
    by : (live : Bool) → Holds IsFree (if live then after_move change seat s else s) slot
    by true =
        moved_there (λ (t : Switch). Holds IsFree t slot) (λ event t k. k) change seat s
        (λ c is. holds_put IsFree s slot seat c (change c) is (frees c) h) h
    by false = h
