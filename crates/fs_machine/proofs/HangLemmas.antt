-- What a hangup comes to, step by step: a fact is kept that bears each single step.
use Rattle.std.proofs.Common.{◌≡◌, ℕ, Bool, true, false, not, if◌then◌else◌, List, [], ◌∷◌, filter, filter_map, Option, None, Some}
use Rattle.std.proofs.Common.{inl, inr, refl, sym, ap, ◌∙◌}
use Rattle.std.specs.List.{find}
use Rattle.std.proofs.lemmas.Bool.{false≢true}
use Rattle.fs_text.specs.declared.states.State.TheVariants.{CsHangup}
use Rattle.fs_text.specs.declared.causes.Cause.{Cause}
use Rattle.fs_text.specs.declared.event_names.EventName.TheVariants.{ChannelExecuteComplete}
use Rattle.fs_bridge.specs.declared.after.After.{After}
use Rattle.fs_bridge.specs.declared.after.After.TheVariants.{GoOn, Hangup, Park}
use Rattle.fs_bridge.specs.declared.row.Row.{Row}
use Rattle.fs_bridge.specs.Closure.{Member, Members, Ends, left_by, survivor_of, members_of, closure_of}
use Rattle.fs_bridge.specs.Hangups.{IsOneOf}
use Rattle.fs_bridge.specs.Leaving.{parted_world, all_left, first_round}
use Rattle.fs_bridge.specs.Orders.{has_slot}
use Rattle.fs_bridge.specs.Worlds.{World}
use Rattle.fs_bridge.proofs.DragLemmas.{one_order, one_in_order}
use Rattle.fs_bridge.proofs.OnceLemmas.{has_order}
use Rattle.fs_bridge.proofs.SettledLemmas.{one_stands}
use Rattle.fs_bridge.proofs.SurvivorLemmas.{IsTold, one_told, left_case}
use Rattle.fs_chan.specs.declared.chan.Chan.{Chan}
use Rattle.fs_chan.specs.Bridging.{awaited_by, unbridged}
use Rattle.fs_chan.specs.Changes.{is_live, at_rest, parked, hung_up}
use Rattle.fs_orig.specs.declared.orig.Orig.{Orig}
use Rattle.fs_orig.specs.Changes.{with_death}
use Rattle.fs_state.specs.declared.event.Event.{Event}
use Rattle.fs_state.specs.Switch.{Switch, chan_at, with_chan, without_bridge, orig_of, without_orig, with_event}
use Rattle.fs_state.specs.Moves.{application_event, running_at, with_state_events, with_changed_chan, after_move, orig_changed, leg_changed}
use Rattle.fs_state.specs.Moves.{is_owner, its_leg_changed, hangup_event, given_up_by, orig_given_up, after_hangup_from, after_one_hangup}
use Rattle.fs_state.specs.Hangups.{lives, lives_at, world_of, Ended, after_end, after_ends, unbridge_event, is_leg_of, with_end_told}
use Rattle.fs_state.specs.Hangups.{untold_by, after_member}
use Rattle.fs_state.specs.declared.event.QueueAction.TheVariants.{Abort}
use Rattle.fs_state.specs.Queues.{queue_event, abort_told}
use Rattle.fs_state.specs.Leaving.{after_parting, after_partings, living_among, leaving_of, after_bridges_left}
use Rattle.fs_machine.proofs.AbortLemmas.{abort_kept}
use Rattle.fs_machine.proofs.ListCounts.{one_passes}
use Rattle.fs_state.specs.Hangups.{after_members, after_outliving, after_survival, after_survivals, after_closure, living_of, after_hangups}
use Rattle.fs_machine.proofs.ClosureLemmas.{members_for, hangs_up, survivors_stay}
use Rattle.fs_machine.proofs.StayLemmas.{state_told_kept, differing_kept, moved_there, changed_there}

-- the living leg of a slot dies
abbrev pub dies : Cause → ℕ → ℕ → Orig → Orig
dies cause seat slot = leg_changed (λ position. with_death position seat cause) slot

-- what a channel becomes by a hangup: it is hung up, its bridge has ended, or it outlives its bridge
pub data Falls (hangs : ℕ → Bool) (slot : ℕ) (c : Chan) : Chan → Type 0 where
  Cut : (cause : Cause) → hangs slot ≡ true → Falls hangs slot c (hung_up cause c)
  Unbridged : (cause : Cause) → Falls hangs slot c (unbridged cause c)
  Rests : hangs slot ≡ false → is_live c ≡ true → Falls hangs slot c (at_rest c)
  Parks : hangs slot ≡ false → is_live c ≡ true → Falls hangs slot c (parked c)

-- what it becomes where it is not hung up
pub data Settles (hangs : ℕ → Bool) (slot : ℕ) (c : Chan) : Chan → Type 0 where
  Freed : (cause : Cause) → Settles hangs slot c (unbridged cause c)
  Resumes : hangs slot ≡ false → is_live c ≡ true → Settles hangs slot c (at_rest c)
  Halts : hangs slot ≡ false → is_live c ≡ true → Settles hangs slot c (parked c)

settles_falls : (hangs : ℕ → Bool) (slot : ℕ) (old new : Chan) → Settles hangs slot old new → Falls hangs slot old new
settles_falls hangs slot old new (Freed cause) = Unbridged cause
settles_falls hangs slot old new (Resumes outlives live) = Rests outlives live
settles_falls hangs slot old new (Halts outlives live) = Parks outlives live

-- an origination is given up, where what it dialed is
module _ (P : Switch → Type 0) (gives_up : (number : ℕ) (s : Switch) → P s → P (without_orig number s)) where
  whether : (test : Bool) (s t : Switch) → P s → P t → P (if test then s else t)
  whether true s t first second = first
  whether false s t first second = second

  pub given_up_kept : (slot : ℕ) (awaited : Option ℕ) (s : Switch) → P s → P (orig_given_up slot awaited s)
  given_up_kept slot None s h = h
  given_up_kept slot (Some number) s h = by (orig_of s number)
    where
      by : (found : Option Orig) → P (given_up_by slot number found s)
      by None = h
      by (Some o) = whether (is_owner slot o.owner) (without_orig number s) s (gives_up number s h) h

-- ---- a fact that bears one hangup

module _ (hangs : ℕ → Bool) (P : Switch → Type 0) (told : (event : Event) (s : Switch) → P s → P (with_event event s))
    (settles : (slot : ℕ) (old new : Chan) (s : Switch) → chan_at s slot ≡ Some old → Settles hangs slot old new → P s →
    P (with_chan slot (Some new) s))
    (ends : (number : ℕ) (s : Switch) → P s → P (without_bridge number s))
    (one_hung : (cause : Cause) (slot : ℕ) (s : Switch) → hangs slot ≡ true → P s → P (after_one_hangup cause slot s)) where
  -- ---- bridges that end

  unbridged_kept : (cause : Cause) (slot : ℕ) (s : Switch) → P s → P (with_changed_chan (unbridged cause) slot s)
  unbridged_kept cause slot s h =
      changed_there P (unbridged cause) slot s (λ c is. settles slot c (unbridged cause c) s is (Freed cause) h) h

  pub end_kept : (row : Row) (cause : Cause) (s : Switch) → P s → P (after_end row cause s)
  end_kept row cause s h =
      unbridged_kept cause row.answerer (with_changed_chan (unbridged cause) row.caller (without_bridge row.number s))
      (unbridged_kept cause row.caller (without_bridge row.number s) (ends row.number s h))

  pub ends_kept_by : (ended : List Ended) (s : Switch) → P s → P (after_ends ended s)
  ends_kept_by [] s h = h
  ends_kept_by (e ∷ ended) s h = ends_kept_by ended (after_end e.0 e.1 s) (end_kept e.0 e.1 s h)

  -- ---- who is hung up

  end_told_kept : (found : Option Ended) (s : Switch) → P s → P (with_end_told found s)
  end_told_kept None s h = h
  end_told_kept (Some e) s h = told (unbridge_event e) s h

  pub members_kept_by : (untold : List Ended) (members : Members) (s : Switch) →
      ((m : Member) → IsOneOf m members → hangs m.0 ≡ true) → P s → P (after_members untold members s)
  members_kept_by untold [] s all h = h
  members_kept_by untold (m ∷ members) s all h =
      members_kept_by (untold_by m.0 untold) members (after_member untold m s) (λ other one. all other (inr one))
      (one_hung m.1 m.0 (with_end_told (find (is_leg_of m.0) untold) (abort_told m.0 s)) (all m (inl refl))
      (end_told_kept (find (is_leg_of m.0) untold) (abort_told m.0 s)
      (abort_kept P m.0 (λ name t k. told (queue_event Abort name m.0) t k) s h)))

  -- ---- who outlives a bridge

  outliving_kept : (what : After) (slot : ℕ) (s : Switch) → hangs slot ≡ false → lives_at s slot ≡ true → P s →
      P (after_outliving what slot s)
  outliving_kept GoOn slot s outlives live h =
      told (application_event ChannelExecuteComplete (running_at slot s) slot) (after_move at_rest slot s)
      (moved_there P told at_rest slot s
      (λ c is. settles slot c (at_rest c) s is (Resumes outlives (sym (ap lives is) ∙ live)) h) h)
  outliving_kept Park slot s outlives live h =
      moved_there P told parked slot s (λ c is. settles slot c (parked c) s is (Halts outlives (sym (ap lives is) ∙ live)) h) h
  outliving_kept (Hangup cause) slot s outlives live h = h

  survival_kept : (what : After) (slot : ℕ) (s : Switch) → hangs slot ≡ false → P s → P (after_survival what slot s)
  survival_kept what slot s outlives h = by (lives_at s slot) refl
    where
      by : (live : Bool) → lives_at s slot ≡ live → P (if live then after_outliving what slot s else s)
      by true live = outliving_kept what slot s outlives live h
      by false dead = h

  pub survivals_kept_by : (survivors : List (ℕ × After)) (s : Switch) →
      ((one : ℕ × After) → IsOneOf one survivors → hangs one.0 ≡ false) → P s → P (after_survivals survivors s)
  survivals_kept_by [] s none h = h
  survivals_kept_by (one ∷ survivors) s none h =
      survivals_kept_by survivors (after_survival one.1 one.0 s) (λ other is. none other (inr is))
      (survival_kept one.1 one.0 s (none one (inl refl)) h)

  -- ---- all of it

  pub closure_kept_by : (e : Ends) (s : Switch) → ((m : Member) → IsOneOf m e.members → hangs m.0 ≡ true) →
      ((one : ℕ × After) → IsOneOf one e.survivors → hangs one.0 ≡ false) → P s → P (after_closure e s)
  closure_kept_by e s all none h =
      survivals_kept_by e.survivors (after_members e.ended e.members (after_ends e.ended s)) none
      (members_kept_by e.ended e.members (after_ends e.ended s) all (ends_kept_by e.ended s h))

-- those who hang up are members, and those who outlive a bridge are none
module _ (named : Members) (before : Switch) (P : Switch → Type 0) (told : (event : Event) (s : Switch) → P s → P (with_event event s))
    (settles : (slot : ℕ) (old new : Chan) (s : Switch) → chan_at s slot ≡ Some old →
    Settles (λ at. hangs_up at named before) slot old new → P s → P (with_chan slot (Some new) s))
    (ends : (number : ℕ) (s : Switch) → P s → P (without_bridge number s))
    (one_hung : (cause : Cause) (slot : ℕ) (s : Switch) → hangs_up slot named before ≡ true → P s →
    P (after_one_hangup cause slot s)) where
  pub hangups_kept_by : P before → P (after_hangups named before)
  unfolding after_hangups
  hangups_kept_by h =
      closure_kept_by (λ at. hangs_up at named before) P told settles ends one_hung
      (closure_of (world_of before) (living_of before named)) before (λ m one. one_stands m (members_for named before) one)
      (λ one is. survivors_stay named before one is) h

-- ---- a fact that bears each step of a hangup

module _ (hangs : ℕ → Bool) (P : Switch → Type 0) (told : (event : Event) (s : Switch) → P s → P (with_event event s))
    (falls : (slot : ℕ) (old new : Chan) (s : Switch) → chan_at s slot ≡ Some old → Falls hangs slot old new → P s →
    P (with_chan slot (Some new) s))
    (ends : (number : ℕ) (s : Switch) → P s → P (without_bridge number s))
    (legs : (cause : Cause) (seat slot number : ℕ) (s : Switch) → P s →
    P (orig_changed (dies cause seat slot) number s))
    (gives_up : (number : ℕ) (s : Switch) → P s → P (without_orig number s)) where
  its_leg_kept : (cause : Cause) (seat slot : ℕ) (leg_of : Option ℕ) (s : Switch) → P s →
      P (its_leg_changed (λ position. with_death position seat cause) slot leg_of s)
  its_leg_kept cause seat slot None s h = h
  its_leg_kept cause seat slot (Some number) s h = legs cause seat slot number s h

  pub one_hung_kept : (cause : Cause) (slot : ℕ) (s : Switch) → hangs slot ≡ true → P s → P (after_one_hangup cause slot s)
  one_hung_kept cause slot s hung h = by (chan_at s slot) refl
    where
      by : (found : Option Chan) → chan_at s slot ≡ found → P (after_hangup_from cause slot found s)
      by None is = h
      by (Some c) is =
          differing_kept P told (is_live c)
          (given_up_kept P gives_up slot (awaited_by c)
          (its_leg_changed (λ position. with_death position s.entries cause) slot c.leg_of
          (with_state_events c.state CsHangup slot (with_event (hangup_event cause slot) (with_chan slot (Some (hung_up cause c)) s))))
          (its_leg_kept cause s.entries slot c.leg_of
          (with_state_events c.state CsHangup slot (with_event (hangup_event cause slot) (with_chan slot (Some (hung_up cause c)) s)))
          (state_told_kept P told c.state CsHangup slot
          (told (hangup_event cause slot) (with_chan slot (Some (hung_up cause c)) s)
          (falls slot c (hung_up cause c) s is (Cut cause hung) h))))) h

  pub settles_kept : (slot : ℕ) (old new : Chan) (s : Switch) → chan_at s slot ≡ Some old → Settles hangs slot old new → P s →
      P (with_chan slot (Some new) s)
  settles_kept slot old new s there how h = falls slot old new s there (settles_falls hangs slot old new how) h

  pub members_kept : (untold : List Ended) (members : Members) (s : Switch) → ((m : Member) → IsOneOf m members → hangs m.0 ≡ true) → P s →
      P (after_members untold members s)
  members_kept = members_kept_by hangs P told settles_kept ends one_hung_kept

  pub survivals_kept : (survivors : List (ℕ × After)) (s : Switch) → ((one : ℕ × After) → IsOneOf one survivors → hangs one.0 ≡ false) →
      P s →
      P (after_survivals survivors s)
  survivals_kept = survivals_kept_by hangs P told settles_kept ends one_hung_kept

  pub ends_kept : (ended : List Ended) (s : Switch) → P s → P (after_ends ended s)
  ends_kept = ends_kept_by hangs P told settles_kept ends one_hung_kept

  pub closure_kept : (e : Ends) (s : Switch) → ((m : Member) → IsOneOf m e.members → hangs m.0 ≡ true) →
      ((one : ℕ × After) → IsOneOf one e.survivors → hangs one.0 ≡ false) → P s → P (after_closure e s)
  closure_kept = closure_kept_by hangs P told settles_kept ends one_hung_kept

module _ (named : Members) (before : Switch) (P : Switch → Type 0) (told : (event : Event) (s : Switch) → P s → P (with_event event s))
    (falls : (slot : ℕ) (old new : Chan) (s : Switch) → chan_at s slot ≡ Some old →
    Falls (λ at. hangs_up at named before) slot old new → P s → P (with_chan slot (Some new) s))
    (ends : (number : ℕ) (s : Switch) → P s → P (without_bridge number s))
    (legs : (cause : Cause) (seat slot number : ℕ) (s : Switch) → P s →
    P (orig_changed (dies cause seat slot) number s))
    (gives_up : (number : ℕ) (s : Switch) → P s → P (without_orig number s)) where
  pub hangups_kept : P before → P (after_hangups named before)
  unfolding after_hangups
  hangups_kept h =
      closure_kept (λ at. hangs_up at named before) P told falls ends legs gives_up
      (closure_of (world_of before) (living_of before named)) before (λ m one. one_stands m (members_for named before) one)
      (λ one is. survivors_stay named before one is) h

-- ---- channels that leave their bridges

not_true : (test : Bool) → not test ≡ true → test ≡ false
not_true true is = absurd (false≢true is)
not_true false is = refl

-- who hangs up as these leave
abbrev pub members_as_left : List ℕ → Switch → Members
members_as_left slots s = (leaving_of slots s).ends.members

-- a slot hangs up
abbrev pub hangs_as_left : List ℕ → Switch → ℕ → Bool
hangs_as_left slots s slot = has_slot slot (members_as_left slots s)

-- whoever outlives a bridge does not
pub stay_as_left : (slots : List ℕ) (s : Switch) (one : ℕ × After) → IsOneOf one (leaving_of slots s).ends.survivors →
    hangs_as_left slots s one.0 ≡ false
stay_as_left slots s one is =
    let w : World = world_of s in
    let left : List ℕ = living_among s slots in
    let v : World = parted_world w left in
    let named : Members = first_round w [] left in
    let e : Ends = closure_of v named in
    elim (one_order one e.survivors (filter (λ o. not (has_slot o.0 e.members)) (all_left w left)) is) [
      | inl old ↦
          let told : IsTold (survivor_of v (members_of v named)) one (members_of v named) =
          one_told (survivor_of v (members_of v named)) one (members_of v named)
          (one_in_order one (filter_map (survivor_of v (members_of v named)) (members_of v named)) old) in
          has_order one.0 [] (members_of v named) ∙ (left_case (members_of v named) one (left_by v told.by) told.told).1
      | inr new ↦ not_true (has_slot one.0 e.members)
          (one_passes (λ (o : ℕ × After). not (has_slot o.0 e.members)) one (all_left w left) new).1
    ]

module _ (slots : List ℕ) (before : Switch) (P : Switch → Type 0) (told : (event : Event) (s : Switch) → P s → P (with_event event s))
    (settles : (slot : ℕ) (old new : Chan) (s : Switch) → chan_at s slot ≡ Some old →
    Settles (hangs_as_left slots before) slot old new → P s → P (with_chan slot (Some new) s))
    (ends : (number : ℕ) (s : Switch) → P s → P (without_bridge number s))
    (one_hung : (cause : Cause) (slot : ℕ) (s : Switch) → hangs_as_left slots before slot ≡ true → P s →
    P (after_one_hangup cause slot s)) where
  partings_kept_by : (parted : List Ended) (s : Switch) → P s → P (after_partings parted s)
  partings_kept_by [] s h = h
  partings_kept_by (e ∷ parted) s h =
      partings_kept_by parted (after_parting e s)
      (told (unbridge_event e) (after_end e.0 e.1 s)
      (end_kept (hangs_as_left slots before) P told settles ends one_hung e.0 e.1 s h))

  pub bridges_left_kept_by : P before → P (after_bridges_left slots before)
  unfolding after_bridges_left
  bridges_left_kept_by h =
      closure_kept_by (hangs_as_left slots before) P told settles ends one_hung (leaving_of slots before).ends
      (after_partings (leaving_of slots before).parted before) (λ m one. one_stands m (members_as_left slots before) one)
      (λ one is. stay_as_left slots before one is) (partings_kept_by (leaving_of slots before).parted before h)

module _ (slots : List ℕ) (before : Switch) (P : Switch → Type 0) (told : (event : Event) (s : Switch) → P s → P (with_event event s))
    (falls : (slot : ℕ) (old new : Chan) (s : Switch) → chan_at s slot ≡ Some old →
    Falls (hangs_as_left slots before) slot old new → P s → P (with_chan slot (Some new) s))
    (ends : (number : ℕ) (s : Switch) → P s → P (without_bridge number s))
    (legs : (cause : Cause) (seat slot number : ℕ) (s : Switch) → P s →
    P (orig_changed (dies cause seat slot) number s))
    (gives_up : (number : ℕ) (s : Switch) → P s → P (without_orig number s)) where
  pub bridges_left_kept : P before → P (after_bridges_left slots before)
  bridges_left_kept h =
      bridges_left_kept_by slots before P told
      (settles_kept (hangs_as_left slots before) P told falls ends legs gives_up) ends
      (one_hung_kept (hangs_as_left slots before) P told falls ends legs gives_up) h
