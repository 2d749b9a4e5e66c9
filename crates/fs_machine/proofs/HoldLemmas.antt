-- Whoever waits for the end of a bridge names a peer, behind a hangup and behind a channel that leaves.
use Rattle.std.proofs.Common.{◌≡◌, ℕ, ◌==◌, Bool, true, false, not, if◌then◌else◌, List, [], ◌∷◌, ◌++◌, filter, map, Option, None, Some}
use Rattle.std.proofs.Common.{is_some, option_map, option_and_then, option_to_list, filter_map, ◌⊎◌, inl, inr, refl, sym, ap, subst, ◌∙◌}
use Rattle.std.proofs.Common.{true≢false}
use Rattle.std.specs.List.{cons_option}
use Rattle.std.proofs.lemmas.Bool.{cases_eq, eqb-true, or_cases, false≢true}
use Rattle.std.proofs.lemmas.Cmp.{nat_eq_equiv}
use Rattle.std.proofs.lemmas.List.Elements.{filter_passes}
use Rattle.std.proofs.lemmas.Map.Views.{any-filter_same}
use Rattle.std.proofs.lemmas.Option.{none-some, same_Some}
use Rattle.fs_text.specs.declared.states.State.TheVariants.{CsPark}
use Rattle.fs_text.specs.declared.causes.Cause.{Cause}
use Rattle.fs_text.specs.declared.causes.Cause.TheVariants.{NormalClearing, OriginatorCancel}
use Rattle.fs_bridge.specs.declared.after.After.{After}
use Rattle.fs_bridge.specs.declared.after.After.TheVariants.{GoOn, Hangup, Park}
use Rattle.fs_bridge.specs.declared.row.Row.{Row}
use Rattle.fs_bridge.specs.After.{after_bridge}
use Rattle.fs_bridge.specs.Closure.{Member, Members, Ends, peer_in, by_partner, by_origination, by_peer, hung, hangup_cause, left_in}
use Rattle.fs_bridge.specs.Closure.{left_by, survivor_of, members_of, survivors_of, closure_of}
use Rattle.fs_bridge.specs.Hangups.{IsOneOf}
use Rattle.fs_bridge.specs.Leaving.{leaver, is_among, unless_leaving, left_behind, with_survivors}
use Rattle.fs_bridge.specs.Orders.{has_slot}
use Rattle.fs_bridge.specs.Worlds.{World}
use Rattle.fs_bridge.proofs.DragLemmas.{one_back, one_in_order}
use Rattle.fs_bridge.proofs.OnceLemmas.{has_order}
use Rattle.fs_bridge.proofs.PartLemmas.{among_one}
use Rattle.fs_bridge.proofs.SettledLemmas.{one_stands, dragged_hang_up}
use Rattle.fs_bridge.proofs.SurvivorLemmas.{IsTold, one_told, left_case, kept_fold}
use Rattle.fs_chan.specs.declared.chan.Chan.{Chan}
use Rattle.fs_chan.specs.declared.wait.Wait.TheVariants.{Ready, Bridged}
use Rattle.fs_chan.specs.Bridging.{awaited_by, unbridged, at_leisure}
use Rattle.fs_chan.specs.Changes.{is_live, at_rest, parked}
use Rattle.fs_seats.specs.Seats.{held_in}
use Rattle.fs_seats.proofs.HeldLemmas.{held_here, held_within}
use Rattle.fs_seats.proofs.TableLemmas.{IsWrittenOrKept, written_or_kept}
use Rattle.fs_state.specs.Queues.{queue_at}
use Rattle.fs_state.specs.Switch.{Switch, chan_at, with_chan, bridge_at, without_bridge}
use Rattle.fs_state.specs.Moves.{with_changed_chan_from, with_changed_chan, after_move_from, after_move, orig_changed, orig_given_up}
use Rattle.fs_state.specs.Hangups.{lives, lives_at, vars_of, row_at, Ended, world_of, living_of, after_end, after_ends, after_members}
use Rattle.fs_state.specs.Hangups.{after_outliving, after_survival, after_survivals, after_closure, after_hangups}
use Rattle.fs_state.specs.Leaving.{all_legs_at, after_parting, after_partings, living_among, after_bridges_left, after_leaving_others}
use Rattle.fs_machine.specs.Joining.{after_leaving, after_farewell, after_farewells, after_departures}
use Rattle.fs_machine.proofs.AbortLemmas.{queue_left_kept}
use Rattle.fs_machine.proofs.StayLemmas.{state_told_kept, changed_there, orig_changed_channels}
use Rattle.fs_machine.proofs.CameLemmas.{CameFrom, Came, rest_holds, falls_less, came_self, came_put}
use Rattle.fs_machine.proofs.TieLemmas.{lives_as}
use Rattle.fs_machine.proofs.HangLemmas.{dies, Falls, Cut, Unbridged, Rests, Parks, given_up_kept, ends_kept, members_kept, survivals_kept}
use Rattle.fs_machine.proofs.ClosureLemmas.{NoneAtZero, are_slots, hangs_up, same_members}
use Rattle.fs_machine.proofs.CutLemmas.{closure_dies, or_behind, named_hangs_up}
use Rattle.fs_machine.proofs.FreeLemmas.{Holds, holds_put, holds_hung}
use Rattle.fs_machine.proofs.LegLemmas.{Channels}
use Rattle.fs_machine.proofs.ListCounts.{one_passes}
use Rattle.fs_machine.proofs.BondRows.{IsLeg}
use Rattle.fs_machine.proofs.BondLemmas.{row_seen, HasEnded, EndsBy, end_by}
use Rattle.fs_machine.proofs.BondTables.{NamesPeer, Bonds, NoSlot}
use Rattle.fs_machine.proofs.BondHangups.{hung_bonds, hung_part}
use Rattle.fs_machine.proofs.BondLeaves.{parted_bonds, holds_parted, bridges_left_bonds, bridges_left_part}
use Rattle.fs_machine.proofs.PartingLemmas.{parted_rows, parted_state, others_left, left_named, closure_at, IsPartedAt, parted_at}
use Rattle.fs_machine.proofs.PartingLemmas.{IsOtherLeg, survivors_as_left, bridges_left_as}

-- ---- who waits for the end of a bridge

-- it lives where it does
abbrev pub IsHeldLive : Chan → Type 0
IsHeldLive c = c.wait ≡ Bridged → is_live c ≡ true

-- it does not
abbrev pub IsUnheld : Chan → Type 0
IsUnheld c = c.wait ≡ Bridged → ⊥

-- each that does names a peer, or is in a slot that is open
abbrev pub HeldBut : (ℕ → Type 0) → Switch → Type 0
HeldBut open_at s = (slot : ℕ) (c : Chan) → chan_at s slot ≡ Some c → c.wait ≡ Bridged → open_at slot ⊎ (is_some c.peer ≡ true)

-- each that does lives
abbrev pub AllHeldLive : Switch → Type 0
AllHeldLive s = (slot : ℕ) → Holds IsHeldLive s slot

-- whoever names a peer lives
pub peer_lives : (s : Switch) → Bonds s → (slot : ℕ) (c : Chan) → chan_at s slot ≡ Some c → is_some c.peer ≡ true → is_live c ≡ true
peer_lives s bonds slot c there some = by (bridge_at s slot) refl (bonds.back slot c there some)
  where
    by : (found : Option Row) → bridge_at s slot ≡ found → is_some found ≡ true → is_live c ≡ true
    by None part none = absurd (false≢true none)
    by (Some row) part is =
        let names : NamesPeer s.channels slot (peer_in row slot) = bonds.legs slot row part in
        ap is_live (same_Some c names.chan (sym there ∙ names.there)) ∙ names.live

pub held_lives : (s : Switch) → Bonds s → HeldBut NoSlot s → AllHeldLive s
held_lives s bonds h slot c there waits = by (h slot c there waits)
  where
    by : NoSlot slot ⊎ (is_some c.peer ≡ true) → is_live c ≡ true
    by (inl none) = absurd none
    by (inr some) = peer_lives s bonds slot c there some

live_falls : (hangs : ℕ → Bool) (seat : ℕ) (old new : Chan) → Falls hangs seat old new → IsHeldLive old → IsHeldLive new
live_falls hangs seat old new (Cut cause hung) h held = let both : Ready ≡ Bridged = held in absurd (cc)
live_falls hangs seat old new (Unbridged cause) h held = h held
live_falls hangs seat old new (Rests outlives live) h held = live
live_falls hangs seat old new (Parks outlives live) h held = absurd (rest_holds old.socket CsPark held)

unheld_falls : (hangs : ℕ → Bool) (seat : ℕ) (old new : Chan) → Falls hangs seat old new → IsUnheld old → IsUnheld new
unheld_falls hangs seat old new falls h held = h ((falls_less hangs seat old new falls).holds held)

-- where nothing that stands in slot 0 could be, nothing does
none_there : (t : Switch) → Holds (λ c. ⊥) t 0 → NoneAtZero t
none_there t none = by (chan_at t 0) refl
  where
    by : (found : Option Chan) → chan_at t 0 ≡ found → found ≡ None
    by None is = refl
    by (Some c) is = absurd (none c is)

-- ---- what holds of channels, behind each part of a hangup

module _ (R : Channels → Type 0) (falls : (hangs : ℕ → Bool) (seat : ℕ) (old new : Chan) (t : Switch) → chan_at t seat ≡ Some old →
    Falls hangs seat old new → R t.channels → R (with_chan seat (Some new) t).channels) where
  dead_leg : (cause : Cause) (seat slot number : ℕ) (t : Switch) → R t.channels → R (orig_changed (dies cause seat slot) number t).channels
  dead_leg cause seat slot number t h = subst R (sym (orig_changed_channels (dies cause seat slot) number t)) h

  bear_ends : (ended : List Ended) (t : Switch) → R t.channels → R (after_ends ended t).channels
  bear_ends ended t h =
      ends_kept (λ at. true) (λ (u : Switch). R u.channels) (λ event u k. k) (falls (λ at. true)) (λ number u k. k) dead_leg
      (λ number u k. k) ended t h

  bear_members : (untold : List Ended) (members : Members) (t : Switch) → R t.channels → R (after_members untold members t).channels
  bear_members untold members t h =
      members_kept (λ at. true) (λ (u : Switch). R u.channels) (λ event u k. k) (falls (λ at. true)) (λ number u k. k) dead_leg
      (λ number u k. k) untold members t (λ m one. refl) h

  bear_survivals : (survivors : List (ℕ × After)) (t : Switch) → R t.channels → R (after_survivals survivors t).channels
  bear_survivals survivors t h =
      survivals_kept (λ at. false) (λ (u : Switch). R u.channels) (λ event u k. k) (falls (λ at. false)) (λ number u k. k) dead_leg
      (λ number u k. k) survivors t (λ one is. refl) h

  -- whoever dies, and whichever bridges end
  bear_deaths : (e : Ends) (t : Switch) → R t.channels → R (after_members e.ended e.members (after_ends e.ended t)).channels
  bear_deaths e t h = bear_members e.ended e.members (after_ends e.ended t) (bear_ends e.ended t h)

  bear_closure : (e : Ends) (t : Switch) → R t.channels → R (after_closure e t).channels
  bear_closure e t h = bear_survivals e.survivors (after_members e.ended e.members (after_ends e.ended t)) (bear_deaths e t h)

-- of the one in a slot
module _ (Q : Chan → Type 0) (keeps : (hangs : ℕ → Bool) (seat : ℕ) (old new : Chan) → Falls hangs seat old new → Q old → Q new)
    (slot : ℕ) where
  abbrev HoldsIn : Channels → Type 0
  HoldsIn channels = (c : Chan) → held_in channels slot ≡ Some c → Q c

  holds_falls : (hangs : ℕ → Bool) (seat : ℕ) (old new : Chan) (t : Switch) → chan_at t seat ≡ Some old → Falls hangs seat old new →
      Holds Q t slot → Holds Q (with_chan seat (Some new) t) slot
  holds_falls hangs seat old new t there falls h = holds_put Q t slot seat old new there (keeps hangs seat old new falls) h

  holds_survivals : (survivors : List (ℕ × After)) (t : Switch) → Holds Q t slot → Holds Q (after_survivals survivors t) slot
  holds_survivals = bear_survivals HoldsIn holds_falls

  holds_deaths : (e : Ends) (t : Switch) → Holds Q t slot → Holds Q (after_members e.ended e.members (after_ends e.ended t)) slot
  holds_deaths = bear_deaths HoldsIn holds_falls

  holds_closure : (e : Ends) (t : Switch) → Holds Q t slot → Holds Q (after_closure e t) slot
  holds_closure = bear_closure HoldsIn holds_falls

-- each has come to wait for nothing more
came_closure : (s : Switch) (e : Ends) → Came s (after_closure e s)
came_closure s e =
    bear_closure (λ channels. (slot : ℕ) (c : Chan) → held_in channels slot ≡ Some c → CameFrom s slot c)
    (λ hangs seat old new t there falls k. came_put s t seat old new there (falls_less hangs seat old new falls) k) e s (came_self s)

-- ---- who outlives a bridge

-- it waits for the end of none once it goes on or parks
put_unheld : (slot : ℕ) (old new : Chan) (t : Switch) → chan_at t slot ≡ Some old → IsUnheld new →
    Holds IsUnheld (with_chan slot (Some new) t) slot
put_unheld slot old new t there free c is held =
    let same : new ≡ c =
    same_Some new c (sym (held_here t.channels slot (Some new) (held_within t.channels slot old there)) ∙ is) in
    free (ap (λ (d : Chan). d.wait) same ∙ held)

moved_unheld : (change : Chan → Chan) (slot : ℕ) (t : Switch) → ((c : Chan) → IsUnheld (change c)) →
    Holds IsUnheld (after_move change slot t) slot
moved_unheld change slot t free = by (chan_at t slot) refl
  where
    by : (found : Option Chan) → chan_at t slot ≡ found → Holds IsUnheld (after_move_from change slot found t) slot
    by None is = λ c there. absurd (none-some c (sym is ∙ there))
    by (Some c) is =
        state_told_kept (λ (u : Switch). Holds IsUnheld u slot) (λ event u k. k) c.state (change c).state slot
        {s = with_chan slot (Some (change c)) t} (put_unheld slot c (change c) t is (free c))

settles_unheld : (what : After) (slot : ℕ) (t : Switch) → ((cause : Cause) → what ≡ Hangup cause → ⊥) → AllHeldLive t →
    Holds IsUnheld (after_survival what slot t) slot
settles_unheld what slot t on live = by (lives_at t slot) refl
  where
    at : (after : After) → what ≡ after → Holds IsUnheld (after_outliving after slot t) slot
    at GoOn is = moved_unheld at_rest slot t (λ c. rest_holds c.socket c.state)
    at Park is = moved_unheld parked slot t (λ c. rest_holds c.socket CsPark)
    at (Hangup cause) is = absurd (on cause is)

    by : (test : Bool) → lives_at t slot ≡ test → Holds IsUnheld (if test then after_outliving what slot t else t) slot
    by true lived = at what refl
    by false dead = λ c there held. true≢false (sym (live slot c there held) ∙ (sym (ap lives there) ∙ dead))

-- its turn comes
outlived_unheld : (one : ℕ × After) (survivors : List (ℕ × After)) (t : Switch) → IsOneOf one survivors →
    ((cause : Cause) → one.1 ≡ Hangup cause → ⊥) → AllHeldLive t → Holds IsUnheld (after_survivals survivors t) one.0
outlived_unheld one [] t is on live = absurd is
outlived_unheld one (first ∷ survivors) t (inl same) on live =
    holds_survivals IsUnheld unheld_falls one.0 survivors (after_survival first.1 first.0 t)
    (subst (λ (x : ℕ × After). Holds IsUnheld (after_survival x.1 x.0 t) one.0) same
    (settles_unheld one.1 one.0 t on live))
outlived_unheld one (first ∷ survivors) t (inr there) on live =
    outlived_unheld one survivors (after_survival first.1 first.0 t) there on
    (λ seat. holds_survivals IsHeldLive live_falls seat (first ∷ []) t (live seat))

-- ---- the legs of a bridge that ends

-- the leg that differs from another one is its peer
other_leg : (row : Row) (slot other : ℕ) → IsLeg slot row → IsLeg other row → (slot ≡ other → ⊥) → slot ≡ peer_in row other
other_leg row slot other leg its apart = by (row.caller == other) refl leg its
  where
    by : (test : Bool) → (row.caller == other) ≡ test → IsLeg slot row → IsLeg other row →
        slot ≡ (if test then row.answerer else row.caller)
    by true is (inl calls) its = absurd (apart (calls ∙ eqb-true row.caller other is))
    by true is (inr answers) its = answers
    by false is (inl calls) its = calls
    by false is (inr answers) (inl same) =
        absurd (true≢false (sym (ap (λ at. row.caller == at) same ∙ nat_eq_equiv.refl row.caller) ∙ is))
    by false is (inr answers) (inr same) = absurd (apart (answers ∙ sym same))

-- what is told of one of a list stands in the list of all that is told
told_one : {X Y : Type 0} (h : X → Option Y) (y : Y) (x : X) (xs : List X) → IsOneOf x xs → h x ≡ Some y → IsOneOf y (filter_map h xs)
told_one h y x [] one is = absurd one
told_one h y x (first ∷ xs) (inl same) is =
    subst (λ found. IsOneOf y (cons_option found (filter_map h xs))) (sym (ap h (sym same) ∙ is)) (inl refl)
told_one {X} {Y} h y x (first ∷ xs) (inr there) is = behind (h first) (told_one h y x xs there is)
  where
    behind : (found : Option Y) → IsOneOf y (filter_map h xs) → IsOneOf y (cons_option found (filter_map h xs))
    behind None one = one
    behind (Some other) one = inr one

-- where a slot is told of, one of the things is of that slot
has_one : {T : Type 0} (slot : ℕ) (xs : List (ℕ × T)) → has_slot slot xs ≡ true → (x : ℕ × T) × IsOneOf x xs × (x.0 ≡ slot)
has_one slot [] is = absurd (false≢true is)
has_one slot (first ∷ xs) is =
    elim (or_cases (first.0 == slot) (has_slot slot xs) is) [
      | inl here ↦ (first, inl refl, eqb-true first.0 slot here)
      | inr there ↦ let later = has_one slot xs there in (later.0, inr later.1, later.2)
    ]

-- ---- a hangup

module _ (named : Members) (s : Switch) (bonds : Bonds s) (zero : NoneAtZero s) (live : AllHeldLive s) where
  -- who outlives a bridge is not told to hang up, if it lives
  told_on : (one : ℕ × After) → IsOneOf one (closure_of (world_of s) (living_of s named)).survivors → lives_at s one.0 ≡ true →
      (cause : Cause) → one.1 ≡ Hangup cause → ⊥
  told_on one is lived cause hangs =
      let w : World = world_of s in
      let members : Members = members_of w (living_of s named) in
      let told : IsTold (survivor_of w members) one members =
      one_told (survivor_of w members) one members (one_in_order one (filter_map (survivor_of w members) members) is) in
      let left = left_case members one (left_by w told.by) told.told in
      let peer : by_peer w told.by ≡ (one.0, cause) ∷ [] =
      ap (λ (found : Option (ℕ × After)). option_to_list (option_and_then hung found)) left.0
      ∙ ap (λ (after : After). option_to_list (option_map (λ (why : Cause). (one.0, why)) (hangup_cause after))) hangs in
      true≢false
      (sym (dragged_hang_up w (living_of s named) (one.0, cause) (are_slots s zero) (filter_passes (λ m. lives_at s m.0) named)
      (record {
        by = told.by;
        member = told.one;
        dragged =
            one_back (one.0, cause) (by_partner w told.by) (by_origination w told.by ++ by_peer w told.by)
            (one_back (one.0, cause) (by_origination w told.by) (by_peer w told.by)
            (subst (λ (all : Members). IsOneOf (one.0, cause) all) (sym peer) (inl refl)));
      }) lived) ∙ left.1)

  -- a leg of a bridge that ends hangs up, or outlives it
  leg_case : (slot : ℕ) (d : Chan) (row : Row) → chan_at s slot ≡ Some d → bridge_at s slot ≡ Some row → HasEnded named s row →
      (hangs_up slot named s ≡ true)
      ⊎ ((one : ℕ × After) × IsOneOf one (closure_of (world_of s) (living_of s named)).survivors × (one.0 ≡ slot))
  leg_case slot d row there part ended = by (subst (EndsBy named s) ended.is (end_by named s ended.end ended.one))
    where
      members : Members
      members = members_of (world_of s) (living_of s named)

      peer : (m : Member) → IsOneOf m members → row_at s m.0 ≡ Some row → slot ≡ peer_in row m.0 → (test : Bool) →
          has_slot slot members ≡ test →
          (hangs_up slot named s ≡ true)
          ⊎ ((one : ℕ × After) × IsOneOf one (closure_of (world_of s) (living_of s named)).survivors × (one.0 ≡ slot))
      peer m one its other true has = inl (same_members named s slot ∙ has)
      peer m one its other false has =
          let w : World = world_of s in
          let left : ℕ × After = (slot, after_bridge row slot (vars_of d) m.1) in
          let told : left_by w m ≡ Some left =
          ap (option_and_then (left_in w m)) its
          ∙ ap (λ (at : ℕ). option_map (λ vars. (at, after_bridge row at vars m.1)) (w.vars at)) (sym other)
          ∙ ap (λ (found : Option Chan). option_map (λ vars. (slot, after_bridge row slot vars m.1)) (option_map vars_of found)) there in
          let survives : survivor_of w members m ≡ Some left =
          ap (option_and_then (λ (l : ℕ × After). if has_slot l.0 members then None else Some l)) told
          ∙ ap (λ (test : Bool). if test then None else Some left) has in
          let all : List (ℕ × After) = filter_map (survivor_of w members) members in
          inr
          (has_one slot (survivors_of w members)
          (has_order slot [] all ∙ one_stands left all (told_one (survivor_of w members) left m members one survives)))

      by : EndsBy named s row → (hangs_up slot named s ≡ true)
          ⊎ ((one : ℕ × After) × IsOneOf one (closure_of (world_of s) (living_of s named)).survivors × (one.0 ≡ slot))
      by ends = either (cases_eq slot ends.by.0)
        where
          either : (slot ≡ ends.by.0) ⊎ (slot ≡ ends.by.0 → ⊥) → (hangs_up slot named s ≡ true)
              ⊎ ((one : ℕ × After) × IsOneOf one (closure_of (world_of s) (living_of s named)).survivors × (one.0 ≡ slot))
          either (inl same) =
              inl
              (same_members named s slot ∙ ap (λ (at : ℕ). has_slot at (members_of (world_of s) (living_of s named))) same
              ∙ one_stands ends.by (members_of (world_of s) (living_of s named)) ends.one)
          either (inr apart) =
              peer ends.by ends.one ends.its
              (other_leg row slot ends.by.0 (bonds.rows.leg slot row part)
              (bonds.rows.leg ends.by.0 row (row_seen s ends.by.0 row ends.its)) apart) (has_slot slot members) refl

-- A hangup, beside which others outlive a bridge. Whoever was excepted is so behind it, or is one of these.
module _ (open_at rest : ℕ → Type 0) (others : List (ℕ × After)) (named : Members) (s : Switch) (bonds : Bonds s) (zero : NoneAtZero s)
    (live : AllHeldLive s) (h : HeldBut open_at s) where
  -- what the hangup comes to, and with the others
  abbrev hung_ends : Ends
  hung_ends = closure_of (world_of s) (living_of s named)

  abbrev all_ends : Ends
  all_ends = with_survivors others hung_ends

  abbrev behind : Switch
  behind = after_closure all_ends s

  -- it hangs up, or outlives a bridge
  abbrev IsTurned : ℕ → Type 0
  IsTurned slot = (hangs_up slot named s ≡ true) ⊎ ((one : ℕ × After) × IsOneOf one all_ends.survivors × (one.0 ≡ slot))

  turned_old : (slot : ℕ) →
      (hangs_up slot named s ≡ true) ⊎ ((one : ℕ × After) × IsOneOf one hung_ends.survivors × (one.0 ≡ slot)) → IsTurned slot
  turned_old slot (inl hangs) = inl hangs
  turned_old slot (inr out) =
      inr (out.0, kept_fold out.0 hung_ends.survivors (filter (λ o. not (has_slot o.0 hung_ends.members)) others) out.1, out.2)

  turned_new : (slot : ℕ) (one : ℕ × After) → IsOneOf one others → one.0 ≡ slot → IsTurned slot
  turned_new slot one among same = by (hangs_up one.0 named s) refl
    where
      stay : List (ℕ × After)
      stay = filter (λ o. not (has_slot o.0 hung_ends.members)) others

      by : (test : Bool) → hangs_up one.0 named s ≡ test → IsTurned slot
      by true hangs = inl (ap (λ at. hangs_up at named s) (sym same) ∙ hangs)
      by false stays =
          let kept : has_slot one.0 stay ≡ true =
          any-filter_same (λ (o : ℕ × After). o.0 == one.0) (λ (o : ℕ × After). not (has_slot o.0 hung_ends.members)) true
          (λ o is. ap (λ at. not (has_slot at hung_ends.members)) (eqb-true o.0 one.0 is) ∙ ap not stays) others
          ∙ one_stands one others among in
          let out = has_one one.0 all_ends.survivors
          (has_order one.0 hung_ends.survivors stay ∙ or_behind (has_slot one.0 hung_ends.survivors) (has_slot one.0 stay) kept) in
          inr (out.0, out.1, out.2 ∙ same)

  module _ (bonded : Bonds behind)
      (stood : (slot : ℕ) (row : Row) → bridge_at s slot ≡ Some row → HasEnded named s row ⊎ (bridge_at behind slot ≡ Some row))
      (on : (one : ℕ × After) → IsOneOf one all_ends.survivors → lives_at s one.0 ≡ true → (cause : Cause) → one.1 ≡ Hangup cause → ⊥)
      (split : (at : ℕ) → open_at at → rest at ⊎ ((one : ℕ × After) × IsOneOf one others × (one.0 ≡ at))) where
    -- whoever outlives a bridge waits for the end of none
    outlived : (one : ℕ × After) → IsOneOf one all_ends.survivors → ((cause : Cause) → one.1 ≡ Hangup cause → ⊥) →
        Holds IsUnheld behind one.0
    outlived one is goes =
        outlived_unheld one all_ends.survivors (after_members hung_ends.ended hung_ends.members (after_ends hung_ends.ended s)) is goes
        (λ seat. holds_deaths IsHeldLive live_falls seat hung_ends s (live seat))

    never : (slot : ℕ) (c d : Chan) → chan_at behind slot ≡ Some c → c.wait ≡ Bridged → chan_at s slot ≡ Some d → d.wait ≡ Bridged →
        IsTurned slot → ⊥
    never slot c d there held was waited (inl hangs) =
        true≢false
        (sym (holds_closure IsHeldLive live_falls slot all_ends s (live slot) c there held)
        ∙ (sym (ap lives_as there) ∙ closure_dies all_ends slot s hangs))
    never slot c d there held was waited (inr out) =
        let lived : lives_at s out.0.0 ≡ true = ap (lives_at s) out.2 ∙ (ap lives was ∙ live slot d was waited) in
        outlived out.0 out.1 (on out.0 out.1 lived) c (ap (chan_at behind) out.2 ∙ there) held

    closed_held : HeldBut rest behind
    closed_held slot c there held = by (came_closure s all_ends slot c there)
      where
        stands : (d : Chan) → chan_at s slot ≡ Some d → d.wait ≡ Bridged → (row : Row) → bridge_at s slot ≡ Some row →
            HasEnded named s row ⊎ (bridge_at behind slot ≡ Some row) → rest slot ⊎ (is_some c.peer ≡ true)
        stands d was waited row part (inl ended) =
            absurd (never slot c d there held was waited (turned_old slot (leg_case named s bonds zero live slot d row was part ended)))
        stands d was waited row part (inr still) =
            let names : NamesPeer behind.channels slot (peer_in row slot) = bonded.legs slot row still in
            inr (ap (λ (x : Chan). is_some x.peer) (same_Some c names.chan (sym there ∙ names.there)) ∙ ap is_some names.names)

        in_row : (d : Chan) → chan_at s slot ≡ Some d → d.wait ≡ Bridged → (found : Option Row) → bridge_at s slot ≡ found →
            is_some found ≡ true → rest slot ⊎ (is_some c.peer ≡ true)
        in_row d was waited None part none = absurd (false≢true none)
        in_row d was waited (Some row) part is = stands d was waited row part (stood slot row part)

        excepted : (d : Chan) → chan_at s slot ≡ Some d → d.wait ≡ Bridged →
            rest slot ⊎ ((one : ℕ × After) × IsOneOf one others × (one.0 ≡ slot)) → rest slot ⊎ (is_some c.peer ≡ true)
        excepted d was waited (inl still) = inl still
        excepted d was waited (inr other) = absurd (never slot c d there held was waited (turned_new slot other.0 other.1 other.2))

        either : (d : Chan) → chan_at s slot ≡ Some d → d.wait ≡ Bridged → open_at slot ⊎ (is_some d.peer ≡ true) →
            rest slot ⊎ (is_some c.peer ≡ true)
        either d was waited (inl opened) = excepted d was waited (split slot opened)
        either d was waited (inr some) = in_row d was waited (bridge_at s slot) refl (bonds.back slot d was some)

        by : CameFrom s slot c → rest slot ⊎ (is_some c.peer ≡ true)
        by from = either from.was from.there (from.less.holds held) (h slot from.was from.there (from.less.holds held))

-- the hangup alone
pub hung_held : (open_at : ℕ → Type 0) (named : Members) (s : Switch) → Bonds s → NoneAtZero s → AllHeldLive s → HeldBut open_at s →
    HeldBut open_at (after_hangups named s)
unfolding after_hangups
hung_held open_at named s bonds zero live h =
    closed_held open_at open_at [] named s bonds zero live h (hung_bonds named s bonds) (hung_part named s bonds)
    (told_on named s bonds zero live) (λ at opened. inl opened)

-- ---- a channel comes to rest

-- those of whom only the rest is still excepted
abbrev WithRest : ℕ → (ℕ → Type 0) → ℕ → Type 0
WithRest slot rest at = (at ≡ slot) ⊎ rest at

-- in this slot stands a channel that does not wait for the end of a bridge
put_closes : (rest : ℕ → Type 0) (slot : ℕ) (old new : Chan) (t : Switch) → chan_at t slot ≡ Some old → IsUnheld new →
    HeldBut (WithRest slot rest) t → HeldBut rest (with_chan slot (Some new) t)
put_closes rest slot old new t there free h at c is held = by (written_or_kept t.channels slot (Some new) at c is)
  where
    by : IsWrittenOrKept t.channels slot (Some new) at c → rest at ⊎ (is_some c.peer ≡ true)
    by (inl here) = absurd (free (ap (λ (d : Chan). d.wait) (same_Some new c here.1) ∙ held))
    by (inr kept) = either (h at c kept.1 held)
      where
        either : WithRest slot rest at ⊎ (is_some c.peer ≡ true) → rest at ⊎ (is_some c.peer ≡ true)
        either (inl (inl same)) = absurd (kept.0 same)
        either (inl (inr still)) = inl still
        either (inr some) = inr some

-- where there is none, none does
none_closes : (rest : ℕ → Type 0) (slot : ℕ) (t : Switch) → chan_at t slot ≡ None → HeldBut (WithRest slot rest) t → HeldBut rest t
none_closes rest slot t none h at c is held = either (h at c is held)
  where
    either : WithRest slot rest at ⊎ (is_some c.peer ≡ true) → rest at ⊎ (is_some c.peer ≡ true)
    either (inl (inl same)) = absurd (none-some c (sym none ∙ (ap (chan_at t) (sym same) ∙ is)))
    either (inl (inr still)) = inl still
    either (inr some) = inr some

-- whoever leaves does not
left_held : (rest : ℕ → Type 0) (slot : ℕ) (s : Switch) → HeldBut (WithRest slot rest) s → HeldBut rest (after_leaving slot s)
left_held rest slot s h = by (chan_at t slot) refl
  where
    t : Switch
    t = orig_given_up slot (option_and_then awaited_by (chan_at s slot)) s

    k : HeldBut (WithRest slot rest) t
    k = given_up_kept (HeldBut (WithRest slot rest)) (λ number u k. k) slot (option_and_then awaited_by (chan_at s slot)) s h

    by : (found : Option Chan) → chan_at t slot ≡ found → HeldBut rest (with_changed_chan_from at_leisure slot found t)
    by None is = none_closes rest slot t is k
    by (Some c) is = put_closes rest slot c (at_leisure c) t is (rest_holds None c.state) k

-- so none of those does who bid farewell
farewells_held : (slots : List ℕ) (s : Switch) → HeldBut (λ at. IsOneOf at slots) s → HeldBut NoSlot (after_farewells slots s)
farewells_held [] s h = h
farewells_held (slot ∷ slots) s h =
    farewells_held slots (after_farewell slot s)
    (queue_left_kept (HeldBut (λ at. IsOneOf at slots)) (λ name at t k. k) (queue_at s slot) slot (after_leaving slot s)
    (left_held (λ at. IsOneOf at slots) slot s h))

-- ---- channels leave their bridges

module _ (slots : List ℕ) (s : Switch) (bonds : Bonds s) (zero : NoneAtZero s) (h : HeldBut NoSlot s) where
  -- the legs of the bridges that are left
  abbrev IsApart : ℕ → Type 0
  IsApart = IsOtherLeg slots s

  freed_held : (seat : ℕ) → IsApart seat → (t : Switch) → HeldBut IsApart t →
      HeldBut IsApart (with_changed_chan (unbridged NormalClearing) seat t)
  freed_held seat leg t k =
      changed_there (HeldBut IsApart) (unbridged NormalClearing) seat t
      (λ d there at c is held. by d at c held (written_or_kept t.channels seat (Some (unbridged NormalClearing d)) at c is)) k
    where
      by : (d : Chan) (at : ℕ) (c : Chan) → c.wait ≡ Bridged →
          IsWrittenOrKept t.channels seat (Some (unbridged NormalClearing d)) at c → IsApart at ⊎ (is_some c.peer ≡ true)
      by d at c held (inl here) = inl (subst IsApart (sym here.0) leg)
      by d at c held (inr kept) = k at c kept.1 held

  -- both legs of each are
  legs_apart : (e : Ended) → IsOneOf e (parted_rows slots s) → (e.1 ≡ NormalClearing) × IsApart e.0.caller × IsApart e.0.answerer
  legs_apart e one =
      let its : IsPartedAt slots s e = parted_at slots s e one in
      let part : bridge_at s its.by ≡ Some e.0 = row_seen s its.by e.0 its.its in
      let among : IsOneOf (e.0, NormalClearing) (parted_rows slots s) =
      subst (λ cause. IsOneOf (e.0, cause) (parted_rows slots s)) its.cause one in (
        its.cause,
        record { row = e.0; part = bonds.rows.caller its.by e.0 part; parted = among },
        record { row = e.0; part = bonds.rows.answerer its.by e.0 part; parted = among },
      )

  end_held : (e : Ended) → IsOneOf e (parted_rows slots s) → (t : Switch) → HeldBut IsApart t → HeldBut IsApart (after_parting e t)
  end_held e one t k =
      let legs = legs_apart e one in
      subst (λ cause. HeldBut IsApart (after_end e.0 cause t)) (sym legs.0)
      (freed_held e.0.answerer legs.2 (with_changed_chan (unbridged NormalClearing) e.0.caller (without_bridge e.0.number t))
      (freed_held e.0.caller legs.1 (without_bridge e.0.number t) k))

  ends_held : (parted : List Ended) → ((e : Ended) → IsOneOf e parted → IsOneOf e (parted_rows slots s)) → (t : Switch) →
      HeldBut IsApart t → HeldBut IsApart (after_partings parted t)
  ends_held [] all t k = k
  ends_held (e ∷ parted) all t k =
      ends_held parted (λ other one. all other (inr one)) (after_parting e t) (end_held e (all e (inl refl)) t k)

  opened : HeldBut IsApart s
  opened at c there held = either (h at c there held)
    where
      either : NoSlot at ⊎ (is_some c.peer ≡ true) → IsApart at ⊎ (is_some c.peer ≡ true)
      either (inl none) = absurd none
      either (inr some) = inr some

  -- as the bridges have ended
  abbrev parted : Switch
  parted = parted_state slots s

  parted_held : HeldBut IsApart parted
  parted_held = ends_held (parted_rows slots s) (λ e one. one) s opened

  parted_zero : NoneAtZero parted
  parted_zero = none_there parted (holds_parted slots s bonds (λ c. ⊥) (λ c none. none) 0 (λ c is. none-some c (sym zero ∙ is)))

  parted_live : AllHeldLive parted
  parted_live seat = holds_parted slots s bonds IsHeldLive (λ c lives. lives) seat (held_lives s bonds h seat)

  bonded : Bonds parted
  bonded = parted_bonds slots s bonds

  -- each leg of these bridges leaves, or is left
  leg_leaves : (at : ℕ) → IsApart at → IsOneOf at slots ⊎ ((one : ℕ × After) × IsOneOf one (others_left slots s) × (one.0 ≡ at))
  leg_leaves at leg = apart_or (cases_eq at its.by)
    where
      living : List ℕ
      living = living_among s slots

      its : IsPartedAt slots s (leg.row, NormalClearing)
      its = parted_at slots s (leg.row, NormalClearing) leg.parted

      part : bridge_at s its.by ≡ Some leg.row
      part = row_seen s its.by leg.row its.its

      leaves : (slot : ℕ) → IsOneOf slot living → IsOneOf slot slots
      leaves slot one = (one_passes (lives_at s) slot slots one).0

      left : at ≡ peer_in leg.row its.by → (test : Bool) → is_among at living ≡ test →
          IsOneOf at slots ⊎ ((one : ℕ × After) × IsOneOf one (others_left slots s) × (one.0 ≡ at))
      left other true among = inl (leaves at (among_one at living among))
      left other false stays =
          let w : World = world_of s in
          let peer : ℕ = peer_in leg.row its.by in
          let names : NamesPeer s.channels its.by peer = bonds.legs its.by leg.row part in
          let one : ℕ × After = (peer, after_bridge leg.row peer (vars_of names.peer) NormalClearing) in
          let told : left_by w (leaver its.by) ≡ Some one =
          ap (option_and_then (left_in w (leaver its.by))) its.its
          ∙ ap (λ (found : Option Chan).
          option_map (λ vars. (peer, after_bridge leg.row peer vars NormalClearing)) (option_map vars_of found)) names.peer_there in
          let stays_behind : left_behind w living its.by ≡ Some one =
          ap (unless_leaving living) told
          ∙ ap (λ test. if test then None else Some one) (ap (λ slot. is_among slot living) (sym other) ∙ stays) in
          inr (one, told_one (left_behind w living) one its.by living its.leaves stays_behind, sym other)

      apart_or : (at ≡ its.by) ⊎ (at ≡ its.by → ⊥) →
          IsOneOf at slots ⊎ ((one : ℕ × After) × IsOneOf one (others_left slots s) × (one.0 ≡ at))
      apart_or (inl same) = inl (leaves at (subst (λ slot. IsOneOf slot living) (sym same) its.leaves))
      apart_or (inr other) =
          left (other_leg leg.row at its.by (bonds.rows.leg at leg.row leg.part) (bonds.rows.leg its.by leg.row part) other)
          (is_among at living) refl

  -- whoever outlives a bridge is not told to hang up, if it lives
  told_other : (one : ℕ × After) → IsOneOf one (with_survivors (others_left slots s) (closure_at slots s)).survivors →
      lives_at parted one.0 ≡ true → (cause : Cause) → one.1 ≡ Hangup cause → ⊥
  told_other one is lived cause hangs = by (survivors_as_left slots s (closure_at slots s) one is)
    where
      by : IsOneOf one (closure_at slots s).survivors
          ⊎ (IsOneOf one (others_left slots s) × (has_slot one.0 (closure_at slots s).members ≡ false)) → ⊥
      by (inl old) = told_on (left_named slots s) parted bonded parted_zero parted_live one old lived cause hangs
      by (inr new) =
          let member : hung one ≡ Some (one.0, cause) =
          ap (λ (after : After). option_map (λ (why : Cause). (one.0, why)) (hangup_cause after)) hangs in
          let among : has_slot one.0 (left_named slots s) ≡ true =
          one_stands (one.0, cause) (left_named slots s) (told_one hung (one.0, cause) one (others_left slots s) new.0 member) in
          true≢false (sym (named_hangs_up (left_named slots s) parted one.0 lived among) ∙ new.1)

  bridges_left_held : HeldBut (λ at. IsOneOf at slots) (after_bridges_left slots s)
  bridges_left_held =
      let same : after_bridges_left slots s ≡ after_closure (with_survivors (others_left slots s) (closure_at slots s)) parted =
      bridges_left_as slots s bonds in
      subst (HeldBut (λ at. IsOneOf at slots)) (sym same)
      (closed_held IsApart (λ at. IsOneOf at slots) (others_left slots s) (left_named slots s) parted bonded parted_zero parted_live
      parted_held (subst Bonds same (bridges_left_bonds slots s bonds))
      (subst
      (λ (t : Switch). (slot : ℕ) (row : Row) → bridge_at parted slot ≡ Some row →
      HasEnded (left_named slots s) parted row ⊎ (bridge_at t slot ≡ Some row)) same (bridges_left_part slots s bonds)) told_other
      leg_leaves)

-- ---- channels leave what they are in

pub departed_held : (slots : List ℕ) (s : Switch) → Bonds s → NoneAtZero s → HeldBut NoSlot s → HeldBut NoSlot (after_departures slots s)
departed_held slots s bonds zero h =
    let named : Members = map (λ leg. (leg, OriginatorCancel)) (all_legs_at s slots) in
    let t : Switch = after_hangups named s in
    let none : NoneAtZero t =
    none_there t (holds_hung (λ c. ⊥) (λ hangs seat old new falls none. none) 0 named s (λ c is. none-some c (sym zero ∙ is))) in
    let held : HeldBut NoSlot t = hung_held NoSlot named s bonds zero (held_lives s bonds h) h in
    farewells_held slots (after_leaving_others slots s) (bridges_left_held slots t (hung_bonds named s bonds) none held)
