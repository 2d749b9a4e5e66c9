-- Each act lets go of the legs of the bridges that it ends, and nothing in it comes back to them.
use Rattle.std.proofs.Common.{◌≡◌, ℕ, ◌<◌, Bool, true, false, if◌then◌else◌, List, [], ◌∷◌, ◌++◌, Option, None, Some}
use Rattle.std.proofs.Common.{unwrap_or, ◌⊎◌, inl, inr, codes, refl, sym, ap, subst, ◌∙◌, arith}
use Rattle.std.specs.Prelude.{map}
use Rattle.std.proofs.lemmas.Option.{none-some}
use Rattle.fs_text.specs.Texts.{Text}
use Rattle.fs_text.specs.Cause.{cause_name}
use Rattle.fs_text.specs.declared.causes.Cause.{Cause}
use Rattle.fs_text.specs.declared.causes.Cause.TheVariants.{LoseRace}
use Rattle.fs_text.specs.declared.event_names.EventName.{EventName}
use Rattle.fs_vars.specs.Pairs.{value_of}
use Rattle.fs_vars.specs.Variables.{Variables}
use Rattle.fs_bridge.specs.declared.row.Row.{Row}
use Rattle.fs_bridge.specs.declared.row.BridgeKind.{BridgeKind}
use Rattle.fs_bridge.specs.declared.row.BridgeKind.TheVariants.{Dial}
use Rattle.fs_bridge.specs.Bridges.{BridgeRows, has_leg, part_of, next_row, joined}
use Rattle.fs_bridge.specs.Hangups.{IsOneOf}
use Rattle.fs_bridge.proofs.DragLemmas.{one_parts}
use Rattle.fs_chan.specs.declared.chan.Chan.{Chan}
use Rattle.fs_chan.specs.Bridging.{awaiting, bridged, in_media, with_disposition, exported_pairs}
use Rattle.fs_chan.specs.Controlling.{held_by}
use Rattle.fs_orig.specs.declared.orig.Owner.TheVariants as owner
use Rattle.fs_orig.specs.declared.plan.LegPlan.{LegPlan}
use Rattle.fs_orig.specs.declared.winner.Winner.{Winner}
use Rattle.fs_orig.specs.declared.winner.Winner.TheVariants.{App, Route}
use Rattle.fs_orig.specs.Changes.{with_answer, at_next_group}
use Rattle.fs_orig.specs.Plans.{all_behind}
use Rattle.fs_seats.specs.Seats.{held_in, with_held}
use Rattle.fs_seats.proofs.RowLemmas.{each_put}
use Rattle.fs_state.specs.declared.event.Detail.{Detail}
use Rattle.fs_state.specs.declared.event.Detail.TheVariants as detail
use Rattle.fs_state.specs.declared.event.Event.{Event}
use Rattle.fs_state.specs.Switch.{Switch, chan_at, with_chan, bridge_at, with_bridge, with_event, without_orig, next_orig_number}
use Rattle.fs_state.specs.Moves.{plain_event, after_move, orig_changed, leg_changed, after_answer}
use Rattle.fs_state.specs.Hangups.{after_hangups}
use Rattle.fs_state.specs.Bridging.{bridge_event, can_join, peer_of, with_peer_from, with_peer, joined_as}
use Rattle.fs_machine.specs.declared.call.Call.{Call}
use Rattle.fs_machine.specs.Attempts.{first_group, orig_begun, with_group}
use Rattle.fs_machine.specs.Bridging.{caller_of, group_dialed, goes_on, after_going_on, bridge_failed_from, after_bridge_failure, disposed}
use Rattle.fs_machine.specs.Bridging.{after_win_told, after_bridge_win}
use Rattle.fs_machine.specs.Dialing.{tried_by_slot}
use Rattle.fs_machine.specs.Joining.{after_departures}
use Rattle.fs_machine.specs.Originations.{MadeGroup, group_made, pair_made, leg_end, far_end, end_made, named_end_made, won_by, after_winning}
use Rattle.fs_machine.proofs.Kept.{Stage, Fact, TellsNoBridge, Links, Keeps, Stays, KeptByTouches, KeptByCalls}
use Rattle.fs_machine.proofs.Kept.{IsShortCall, KeptByBirths, raced, HasHung, KeptByDials, KeptByMoves}
use Rattle.fs_machine.proofs.StayLemmas.{moved_plain, changed_there, held_keeps}
use Rattle.fs_machine.proofs.Walk.{answered_kept, disposed_kept, group_made_kept}
use Rattle.fs_machine.proofs.NameLemmas.{leg_chan, far_chan, pair_channels}
use Rattle.fs_machine.proofs.BondRows.{RowsFit, caller_leg, answerer_leg, new_part, old_part}
use Rattle.fs_machine.proofs.CanLemmas.{caller_lone, answerer_lone}
use Rattle.fs_machine.proofs.DrawnLemmas.{SameDrawn, hung_drawn, drawn_touches}
use Rattle.fs_machine.proofs.FrontLemmas.{Front, front_of, orig_changed_front, moves_by_front}
use Rattle.fs_machine.proofs.LimitLemmas.{AreLimited, cause_key, with_set_limited, with_set_stays}
use Rattle.fs_machine.proofs.LetGoLemmas.{IsThere, Limited, LimitedIn, Core, Spares, spares_same, spares_disposed, Tells, tells_so, Alone}
use Rattle.fs_machine.proofs.LetGoLemmas.{go_apart, go_put, there_put, limits_at, limits_put, no_end_in, Nothing, core_put, core_told}
use Rattle.fs_machine.proofs.LetGoLemmas.{core_same, core_changed, core_completed, hung_core, departed_core}

-- ---- what holds at each stage

-- no event tells an end
abbrev pub NoEnds : List Event → Type 0
NoEnds news = (row : Row) (cause : Cause) (event : Event) → IsOneOf event news → event.detail ≡ detail.Unbridge row cause → ⊥

-- nothing has ended: the same bridges stand, and their legs are there
pub record NothingIn (before : Switch) (channels : List (Option Chan)) (bridges : BridgeRows) (news : List Event) : Type 0 where
  pub same : bridges ≡ before.bridges
  pub there : (slot : ℕ) (row : Row) → bridge_at before slot ≡ Some row → IsThere channels slot
  pub limits : Limited channels
  pub none : NoEnds news

-- a slot is in a bridge whose number none had before
pub record IsJoined (before : Switch) (bridges : BridgeRows) (slot : ℕ) : Type 0 where
  pub row : Row
  pub part : part_of slot bridges ≡ Some row
  pub number : before.bridges.drawn < row.number

-- the channel in it names no peer, or one of such a bridge
abbrev pub Freed : Switch → BridgeRows → ℕ → Chan → Type 0
Freed before bridges slot c = (c.peer ≡ None) ⊎ IsJoined before bridges slot

-- both legs of a bridge that stood before are let go
pub record BothGone (before : Switch) (channels : List (Option Chan)) (bridges : BridgeRows) (row : Row) (cause : Cause) : Type 0 where
  pub caller_was : bridge_at before row.caller ≡ Some row
  pub answerer_was : bridge_at before row.answerer ≡ Some row
  pub caller : Tells (Freed before bridges row.caller) (held_in channels row.caller) cause
  pub answerer : Tells (Freed before bridges row.answerer) (held_in channels row.answerer) cause

-- so are those of each bridge that was told to have ended
pub record EndedIn (before : Switch) (channels : List (Option Chan)) (bridges : BridgeRows) (news : List Event) : Type 0 where
  pub limits : Limited channels
  pub told : (row : Row) (cause : Cause) (event : Event) → IsOneOf event news → event.detail ≡ detail.Unbridge row cause →
      BothGone before channels bridges row cause

abbrev pub Ending : Switch → Fact
Ending before None s = NothingIn before s.channels s.bridges s.news
Ending before (Some n) s = EndedIn before s.channels s.bridges s.news

-- ---- single steps

-- one more event is one of those, or the new one
one_more : (event other : Event) (news : List Event) (P : Event → Type 0) → ((x : Event) → IsOneOf x news → P x) → P event →
    IsOneOf other (news ++ event ∷ []) → P other
one_more event other news P old new one = by (one_parts other news (event ∷ []) one)
  where
    by : IsOneOf other news ⊎ IsOneOf other (event ∷ []) → P other
    by (inl was) = old other was
    by (inr (inl same)) = subst P (sym same) new
    by (inr (inr none)) = absurd none

-- it tells no end
abbrev TellsNoEnd : Event → Type 0
TellsNoEnd event = (row : Row) (cause : Cause) → event.detail ≡ detail.Unbridge row cause → ⊥

-- as one of a beginning
abbrev Begins : Detail → Type 0
Begins (detail.Bridge row) = Unit {0}
Begins _ = ⊥

plain_no_end : (event : Event) → TellsNoBridge event → TellsNoEnd event
plain_no_end event plain row cause is = no_end_in event.detail row cause plain.1 is

module _ (before : Switch) where
  nothing_told : (event : Event) (s : Switch) → TellsNoEnd event → Ending before None s → Ending before None (with_event event s)
  nothing_told event s ends h = record {
    same = h.same;
    there = h.there;
    limits = h.limits;
    none = λ row cause other one is.
        one_more event other s.news (λ x. x.detail ≡ detail.Unbridge row cause → ⊥) (λ x was. h.none row cause x was) (ends row cause) one is;
  }

  ended_told : (event : Event) (n : ℕ) (s : Switch) → TellsNoEnd event → Ending before (Some n) s →
      Ending before (Some n) (with_event event s)
  ended_told event n s ends h = record {
    limits = h.limits;
    told = λ row cause other one is.
        one_more event other s.news (λ x. x.detail ≡ detail.Unbridge row cause → BothGone before s.channels s.bridges row cause)
        (λ x was. h.told row cause x was) (λ same. absurd (ends row cause same)) one is;
  }

  told_at : (b : Stage) (event : Event) (s : Switch) → TellsNoEnd event → Ending before b s → Ending before b (with_event event s)
  told_at None event s ends h = nothing_told event s ends h
  told_at (Some n) event s ends h = ended_told event n s ends h

  -- a channel is changed that is let go or not
  ended_put : (slot : ℕ) (old new : Chan) (n : ℕ) (s : Switch) → chan_at s slot ≡ Some old →
      value_of new.vars.pairs cause_key ≡ value_of old.vars.pairs cause_key → (AreLimited old.vars → AreLimited new.vars) →
      (Freed before s.bridges slot old → Freed before s.bridges slot new) → Ending before (Some n) s →
      Ending before (Some n) (with_chan slot (Some new) s)
  ended_put slot old new n s there stays limits frees h = record {
    limits = limits_put s.channels slot new (limits (limits_at s.channels slot old there h.limits)) h.limits;
    told = λ row cause event one is. put row cause (h.told row cause event one is);
  }
    where
      frees_at : (q : ℕ) → q ≡ slot → Freed before s.bridges q old → Freed before s.bridges q new
      frees_at q same freed =
          subst (λ at. Freed before s.bridges at new) (sym same) (frees (subst (λ at. Freed before s.bridges at old) same freed))

      still : (q : ℕ) (cause : Cause) → Tells (Freed before s.bridges q) (held_in s.channels q) cause →
          Tells (Freed before s.bridges q) (held_in (with_held s.channels slot (Some new)) q) cause
      still q cause go = go_put (Freed before s.bridges q) s.channels slot old new there stays q cause (frees_at q) go

      put : (row : Row) (cause : Cause) → BothGone before s.channels s.bridges row cause →
          BothGone before (with_held s.channels slot (Some new)) s.bridges row cause
      put row cause g = record {
        caller_was = g.caller_was;
        answerer_was = g.answerer_was;
        caller = still row.caller cause g.caller;
        answerer = still row.answerer cause g.answerer;
      }

  -- one that is let go stays so
  ended_spared : (slot : ℕ) (old new : Chan) (n : ℕ) (s : Switch) → chan_at s slot ≡ Some old → Spares old new → Ending before (Some n) s →
      Ending before (Some n) (with_chan slot (Some new) s)
  ended_spared slot old new n s there spares h = ended_put slot old new n s there spares.cause spares.limits still h
    where
      still : Freed before s.bridges slot old → Freed before s.bridges slot new
      still (inl none) = inl (spares.alone none)
      still (inr is) = inr is

  -- as nothing has ended
  nothing_put : (slot : ℕ) (old new : Chan) (s : Switch) → chan_at s slot ≡ Some old → (AreLimited old.vars → AreLimited new.vars) →
      Ending before None s →
      Ending before None (with_chan slot (Some new) s)
  nothing_put slot old new s there limits h = record {
    same = h.same;
    there = λ q row is. there_put s.channels slot old new there q (h.there q row is);
    limits = limits_put s.channels slot new (limits (limits_at s.channels slot old there h.limits)) h.limits;
    none = h.none;
  }

  put_at : (b : Stage) (slot : ℕ) (old new : Chan) (s : Switch) → chan_at s slot ≡ Some old → Spares old new → Ending before b s →
      Ending before b (with_chan slot (Some new) s)
  put_at None slot old new s there spares h = nothing_put slot old new s there spares.limits h
  put_at (Some n) slot old new s there spares h = ended_spared slot old new n s there spares h

  same_at : (b : Stage) (t u : Switch) → Ending before b t → front_of u ≡ front_of t → Ending before b u
  same_at None t u h same = subst (λ (f : Front). NothingIn before f.channels f.bridges f.news) (sym same) h
  same_at (Some n) t u h same = subst (λ (f : Front). EndedIn before f.channels f.bridges f.news) (sym same) h

  plain_at : (b : Stage) (name : EventName) (slot : ℕ) (s : Switch) → TellsNoBridge (plain_event name slot) → Ending before b s →
      Ending before b (with_event (plain_event name slot) s)
  plain_at b name slot s plain h = told_at b (plain_event name slot) s (plain_no_end (plain_event name slot) plain) h

  moved_at : (b : Stage) (change : Chan → Chan) (slot : ℕ) (s : Switch) → ((c : Chan) → Spares c (change c)) → Ending before b s →
      Ending before b (after_move change slot s)
  moved_at b change slot s spares h =
      moved_plain (Ending before b) (plain_at b) change slot s (λ c is. put_at b slot c (change c) s is (spares c) h) h

  -- ---- from one stage to the next

  spent_at : (s : Switch) → Ending before None s → Ending before (Some 0) s
  spent_at s h = record { limits = h.limits; told = λ row cause event one is. absurd (h.none row cause event one is) }

  core_ended : (n : ℕ) (s : Switch) → Core before Nothing s → Ending before (Some n) s
  core_ended n s h = record {
    limits = h.limits;
    told = λ row cause event one is.
        let g = h.told row cause event one is in
        record {
          caller_was = g.caller_was;
          answerer_was = g.answerer_was;
          caller = alone row.caller cause g.caller;
          answerer = alone row.answerer cause g.answerer;
        };
  }
    where
      alone : (q : ℕ) (cause : Cause) → Tells Alone (held_in s.channels q) cause →
          Tells (Freed before s.bridges q) (held_in s.channels q) cause
      alone q cause go = tells_so Alone (Freed before s.bridges q) (held_in s.channels q) cause (λ c none. inl none) go

  -- ---- what leaves a channel what it is

  changed_at : (b : Stage) (slot : ℕ) (old new : Chan) (s : Switch) → chan_at s slot ≡ Some old → Keeps b old new → Ending before b s →
      Ending before b (with_chan slot (Some new) s)
  changed_at None slot old new s there keeps h = nothing_put slot old new s there keeps.vars.limits h
  changed_at (Some n) slot old new s there keeps h =
      ended_spared slot old new n s there
      (record {
        alone = λ none. ap (λ (l : Links). l.peer) keeps.links ∙ none;
        cause = keeps.vars.cause refl;
        limits = keeps.vars.limits;
      }) h

  globals_at : (b : Stage) (globals : Variables) (s : Switch) → Ending before b s → Ending before b (record s { globals = globals })
  globals_at None globals s h = h
  globals_at (Some n) globals s h = h

  touches_end : KeptByTouches (Ending before)
  touches_end = record {
    told = λ event {b = b} {s = s} plain h. told_at b event s (plain_no_end event plain) h;
    globals = λ globals {b = b} {s = s} h. globals_at b globals s h;
    changed = λ slot old new {b = b} {s = s} there stays h. changed_at b slot old new s there stays.keeps h;
    answers = λ seat slot number {b = b} {s = s} h.
        same_at b s (orig_changed (leg_changed (λ position. with_answer position seat) slot) number s) h
        (orig_changed_front (leg_changed (λ position. with_answer position seat) slot) number s);
  }

  -- ---- two are joined

  -- whoever was in a bridge of a new number is so beside one more
  more_joined : (kind : BridgeKind) (caller answerer n : ℕ) (s : Switch) → bridge_at s caller ≡ None → bridge_at s answerer ≡ None →
      Ending before (Some n) s →
      Ending before (Some n) (with_bridge caller answerer kind s)
  more_joined kind caller answerer n s first second h = record {
    limits = h.limits;
    told = λ row cause event one is.
        let g = h.told row cause event one is in
        record {
          caller_was = g.caller_was;
          answerer_was = g.answerer_was;
          caller = more row.caller cause g.caller;
          answerer = more row.answerer cause g.answerer;
        };
  }
    where
      rows : BridgeRows
      rows = joined caller answerer kind s.bridges

      still : (q : ℕ) (c : Chan) → Freed before s.bridges q c → Freed before rows q c
      still q c (inl none) = inl none
      still q c (inr is) = inr (record {
        row = is.row;
        part = old_part caller answerer kind s.bridges first second q is.row is.part;
        number = is.number;
      })

      more : (q : ℕ) (cause : Cause) → Tells (Freed before s.bridges q) (held_in s.channels q) cause →
          Tells (Freed before rows q) (held_in s.channels q) cause
      more q cause go = tells_so (Freed before s.bridges q) (Freed before rows q) (held_in s.channels q) cause (still q) go

  -- one who is in such a bridge may name a peer
  peer_ended : (slot other n : ℕ) (s : Switch) → IsJoined before s.bridges slot → Ending before (Some n) s →
      Ending before (Some n) (with_peer slot other s)
  peer_ended slot other n s is h = by (chan_at s other)
    where
      by : (found : Option Chan) → Ending before (Some n) (with_peer_from slot other found s)
      by None = h
      by (Some d) =
          changed_there (Ending before (Some n)) (bridged (peer_of other d)) slot s
          (λ c there.
          ended_put slot c (bridged (peer_of other d) c) n s there (with_set_stays (codes "signal_bond") cause_key d.uuid c.vars refl)
          (λ limited. with_set_limited c.vars (codes "signal_bond") d.uuid limited) (λ freed. inr is) h) h

  peer_joined : (slot other q : ℕ) (s : Switch) → IsJoined before s.bridges q → IsJoined before (with_peer slot other s).bridges q
  peer_joined slot other q s is = by (chan_at s other)
    where
      by : (found : Option Chan) → IsJoined before (with_peer_from slot other found s).bridges q
      by None = is
      by (Some d) = changed_there (λ (t : Switch). IsJoined before t.bridges q) (bridged (peer_of other d)) slot s (λ c there. is) is

  -- two who are in none are joined by a bridge of a new number, where none has been drawn since
  joined_ended : (kind : BridgeKind) (caller answerer n : ℕ) (s : Switch) → can_join caller answerer s ≡ true →
      s.bridges.drawn ≡ before.bridges.drawn → Ending before (Some n) s →
      Ending before (Some n) (joined_as kind caller answerer s)
  joined_ended kind caller answerer n s can drawn h =
      ended_told (bridge_event row) n (with_peer answerer caller (with_peer caller answerer t)) (λ row cause is. subst Begins is tt)
      (peer_ended answerer caller n (with_peer caller answerer t)
      (peer_joined caller answerer answerer t (is_joined answerer (answerer_leg row)))
      (peer_ended caller answerer n t (is_joined caller (caller_leg row)) (more_joined kind caller answerer n s first second h)))
    where
      t : Switch
      t = with_bridge caller answerer kind s

      row : Row
      row = next_row caller answerer kind s.bridges

      first : bridge_at s caller ≡ None
      first = caller_lone caller answerer s can

      second : bridge_at s answerer ≡ None
      second = answerer_lone caller answerer s can

      is_joined : (q : ℕ) → has_leg q row ≡ true → IsJoined before t.bridges q
      is_joined q leg = record {
        row = row;
        part = new_part caller answerer kind s.bridges first second q leg;
        number = omega (arith, drawn);
      }

  -- ---- channels are born

  pair_news : (uuid : Option Text) (call : Call) (orig a b : ℕ) (s : Switch) →
      (end_made call (far_end a b) (named_end_made uuid call (leg_end orig a b) s)).news ≡ s.news
  pair_news None call orig a b s = refl
  pair_news (Some uuid) call orig a b s = refl

  pair_bridges : (uuid : Option Text) (call : Call) (orig a b : ℕ) (s : Switch) →
      (end_made call (far_end a b) (named_end_made uuid call (leg_end orig a b) s)).bridges ≡ s.bridges
  pair_bridges None call orig a b s = refl
  pair_bridges (Some uuid) call orig a b s = refl

  filled : (P : Chan → Type 0) (channels : List (Option Chan)) (slot q : ℕ) (cause : Cause) → held_in channels slot ≡ None →
      Tells P (held_in channels q) cause → q ≡ slot → ⊥
  filled P channels slot q cause free go same = none-some go.chan (sym free ∙ (ap (held_in channels) (sym same) ∙ go.there))

  pair_ended : (call : Call) (orig a b : ℕ) (s : Switch) → IsShortCall call → held_in s.channels a ≡ None → held_in s.channels b ≡ None →
      Ending before (Some 0) s →
      Ending before (Some 0) (pair_made call orig a b s)
  pair_ended call orig a b s short first second h =
      subst (λ (channels : List (Option Chan)). EndedIn before channels made.bridges made.news) (sym (pair_channels call orig a b s))
      (subst (λ (rows : BridgeRows). EndedIn before filled_now rows made.news) (sym (pair_bridges call.uuid call orig a b s))
      (subst (EndedIn before filled_now s.bridges) (sym (pair_news call.uuid call orig a b s))
      (record {
        limits = limits_put (with_held s.channels a (Some leg)) b far short.vars (limits_put s.channels a leg short.vars h.limits);
        told = λ row cause event one is. put row cause (h.told row cause event one is);
      })))
    where
      made : Switch
      made = pair_made call orig a b s

      leg : Chan
      leg = leg_chan call orig a b s

      far : Chan
      far = far_chan call orig a b s

      filled_now : List (Option Chan)
      filled_now = with_held (with_held s.channels a (Some leg)) b (Some far)

      fill : (q : ℕ) (cause : Cause) → Tells (Freed before s.bridges q) (held_in s.channels q) cause →
          Tells (Freed before s.bridges q) (held_in filled_now q) cause
      fill q cause go =
          go_apart (Freed before s.bridges q) (with_held s.channels a (Some leg)) b q (Some far) cause
          (filled (Freed before s.bridges q) s.channels b q cause second go)
          (go_apart (Freed before s.bridges q) s.channels a q (Some leg) cause
          (filled (Freed before s.bridges q) s.channels a q cause first go) go)

      put : (row : Row) (cause : Cause) → BothGone before s.channels s.bridges row cause → BothGone before filled_now s.bridges row cause
      put row cause g = record {
        caller_was = g.caller_was;
        answerer_was = g.answerer_was;
        caller = fill row.caller cause g.caller;
        answerer = fill row.answerer cause g.answerer;
      }

  births_end : KeptByBirths (Ending before)
  births_end = record {
    spent = λ {s = s} h. spent_at s h;
    pair = λ call orig a b {s = s} short named first second h. pair_ended call orig a b s short first.free second.free h;
  }

  -- ---- a leg wins

  won_spares : (winner : Winner) (c : Chan) → Spares c (won_by winner c)
  won_spares (App application argument) c = spares_same c (won_by (App application argument) c) refl refl
  won_spares (Route to) c = spares_same c (won_by (Route to) c) refl refl

  won_ended : (winner : Winner) (slot : ℕ) (s : Switch) → Ending before (Some 0) s → Ending before (Some 0) (after_winning winner slot s)
  unfolding after_winning
  won_ended winner slot s h = moved_at (Some 0) (won_by winner) slot s (won_spares winner) h

-- ---- a bridge that failed, or is won

-- the channel goes on, or hangs up
failed_core : (before : Switch) (cause : Cause) (slot : ℕ) (s : Switch) → Core before Nothing s →
    Core before Nothing (after_bridge_failure cause slot s)
unfolding after_bridge_failure
failed_core before cause slot s h = by (chan_at s slot)
  where
    t : Switch
    t = disposed (cause_name cause) slot s

    told : Core before Nothing t
    told = core_changed before Nothing (with_disposition (cause_name cause)) slot s (spares_disposed (cause_name cause)) h

    on : (onward : Bool) → Core before Nothing (after_going_on onward cause slot t)
    on true = core_completed before Nothing slot t told
    on false = hung_core before ((slot, cause) ∷ []) t told

    by : (found : Option Chan) → Core before Nothing (bridge_failed_from found cause slot s)
    by None = h
    by (Some c) = on (goes_on cause c.vars)

module _ (before : Switch) (core : Core before Nothing before) where
  core_hung : (s : Switch) → HasHung before s → Core before Nothing s
  core_hung s (inl same) = subst (Core before Nothing) (sym same) core
  core_hung s (inr some) = subst (Core before Nothing) (sym some.1) (hung_core before some.0 before core)

  -- what answers and tells of it leaves all that is known
  abbrev CoreAt : Fact
  CoreAt None s = Unit {0}
  CoreAt (Some n) s = Core before Nothing s

  core_told_at : (b : Stage) (event : Event) (s : Switch) → TellsNoBridge event → CoreAt b s → CoreAt b (with_event event s)
  core_told_at None event s plain h = tt
  core_told_at (Some n) event s plain h = core_told before Nothing event s plain h

  core_globals_at : (b : Stage) (globals : Variables) (s : Switch) → CoreAt b s → CoreAt b (record s { globals = globals })
  core_globals_at None globals s h = tt
  core_globals_at (Some n) globals s h = h

  core_changed_at : (b : Stage) (slot : ℕ) (old new : Chan) (s : Switch) → chan_at s slot ≡ Some old → Stays b old new → CoreAt b s →
      CoreAt b (with_chan slot (Some new) s)
  core_changed_at None slot old new s there stays h = tt
  core_changed_at (Some n) slot old new s there stays h =
      core_put before Nothing slot old new s there
      (record {
        alone = λ none. ap (λ (l : Links). l.peer) stays.keeps.links ∙ none;
        cause = stays.keeps.vars.cause refl;
        limits = stays.keeps.vars.limits;
      }) h

  core_same_at : (b : Stage) (t u : Switch) → front_of u ≡ front_of t → CoreAt b t → CoreAt b u
  core_same_at None t u same h = tt
  core_same_at (Some n) t u same h = core_same before Nothing t u same h

  touches_core : KeptByTouches CoreAt
  touches_core = record {
    told = λ event {b = b} {s = s} plain h. core_told_at b event s plain h;
    globals = λ globals {b = b} {s = s} h. core_globals_at b globals s h;
    changed = λ slot old new {b = b} {s = s} there stays h. core_changed_at b slot old new s there stays h;
    answers = λ seat slot number {b = b} {s = s} h.
        core_same_at b s (orig_changed (leg_changed (λ position. with_answer position seat) slot) number s)
        (orig_changed_front (leg_changed (λ position. with_answer position seat) slot) number s) h;
  }

  bridge_won_ended : (slot leg : ℕ) (s : Switch) → SameDrawn before s → Core before Nothing s →
      Ending before (Some 0) (after_bridge_win slot leg s)
  unfolding after_bridge_win
  bridge_won_ended slot leg s drawn h = by (can_join slot leg u) refl
    where
      u : Switch
      u = after_win_told slot s

      told : Core before Nothing u
      told =
          disposed_kept CoreAt touches_core (codes "SUCCESS") slot {b = Some 0} {s = after_answer slot s}
          (answered_kept CoreAt touches_core slot {b = Some 0} {s = s} h)

      still_drawn : SameDrawn before u
      still_drawn =
          disposed_kept (λ b t. SameDrawn before t) (drawn_touches before) (codes "SUCCESS") slot {b = Some 0} {s = after_answer slot s}
          (answered_kept (λ b t. SameDrawn before t) (drawn_touches before) slot {b = Some 0} {s = s} drawn)

      by : (test : Bool) → can_join slot leg u ≡ test →
          Ending before (Some 0) (if test then after_move in_media leg (joined_as Dial slot leg u) else u)
      by true can =
          moved_at before (Some 0) in_media leg (joined_as Dial slot leg u) (λ c. spares_same c (in_media c) refl refl)
          (joined_ended before Dial slot leg 0 u can still_drawn (core_ended before 0 u told))
      by false cannot = core_ended before 0 u told

  -- ---- every move

  -- as nothing has ended, all is known
  early_core : (s : Switch) → Ending before None s → Core before Nothing s
  early_core s h = record {
    fit = subst (λ (bridges : BridgeRows). RowsFit bridges) (sym h.same) core.fit;
    stood = λ slot row is. stood slot row is;
    there = λ slot row is. h.there slot row (stood slot row is);
    limits = h.limits;
    told = λ row cause event one is. absurd (h.none row cause event one is);
    gone = λ e none. absurd none;
  }
    where
      stood : (slot : ℕ) (row : Row) → bridge_at s slot ≡ Some row → bridge_at before slot ≡ Some row
      stood slot row is = ap (part_of slot) (sym h.same) ∙ is

  calls_end : KeptByCalls (Ending before)
  calls_end = record {
    touches = touches_end before;
    hung = λ named {s = s} early h. core_ended before 0 (after_hangups named s) (hung_core before named s (early_core s early));
    joined = λ kind caller answerer c d {s = s} can there other one two first second was h.
        joined_ended before kind caller answerer 0 s can (was.drawn ∙ ap (λ (rows : BridgeRows). rows.drawn) was.first.same) h;
    departs = λ slots {s = s} early h. core_ended before 0 (after_departures slots s) (departed_core before slots s (early_core s early));
    more = λ h. h;
    gone = λ slot old {s = s} there dead early h. record {
      limits = each_put LimitedIn s.channels slot None h.limits tt;
      told = λ row cause event one is. absurd (early.none row cause event one is);
    };
  }

  dialed_ended : (slot : ℕ) (c : Chan) (groups : List (List LegPlan)) (timeout : ℕ) (s : Switch) → Ending before None s →
      Ending before (Some 0)
      (tried_by_slot slot groups timeout (next_orig_number s) (group_dialed (Some c) (first_group groups) (next_orig_number s) s))
  dialed_ended slot c groups timeout s h =
      let number : ℕ = next_orig_number s in
      let plans : List LegPlan = all_behind (exported_pairs c.vars) (first_group groups) in
      let made : MadeGroup = group_made plans (caller_of c) number s in
      let begun : Switch = orig_begun (owner.Slot slot) groups made.legs timeout made.state in
      moved_at before (Some 0) (awaiting number) slot begun (λ d. spares_same d (awaiting number d) refl refl)
      (same_at before (Some 0) made.state begun
      (group_made_kept (Ending before) (births_end before) plans (caller_of c) number {s = s} (spent_at before s h)) refl)

  regrouped_ended : (number : ℕ) (made : MadeGroup) → Ending before (Some 0) made.state → Ending before (Some 0) (with_group number made)
  regrouped_ended number made h =
      same_at before (Some 0) made.state (with_group number made) h (orig_changed_front (at_next_group made.legs) number made.state)

  dials_end : KeptByDials before (Ending before)
  dials_end = record {
    spent = λ {s = s} h. spent_at before s h;
    dials = λ slot c groups timeout {s = s} there works are h. dialed_ended slot c groups timeout s h;
    regroups = λ number o plans caller {s = s} there next h.
        regrouped_ended number (group_made plans caller number s)
        (group_made_kept (Ending before) (births_end before) plans caller number {s = s} h);
    fails = λ slot orig cause {s = s} waits over h.
        core_ended before 0 (after_bridge_failure cause slot (without_orig orig s))
        (failed_core before cause slot (without_orig orig s)
        (core_same before Nothing s (without_orig orig s) refl (core_hung s over.from)));
    wins = λ slot orig leg slots waits won h.
        bridge_won_ended slot (unwrap_or leg.slot 0) (without_orig orig (raced slots before))
        (hung_drawn (map (λ loser. (loser, LoseRace)) slots) before)
        (core_same before Nothing (raced slots before) (without_orig orig (raced slots before)) refl
        (hung_core before (map (λ loser. (loser, LoseRace)) slots) before core));
  }

  pub ending_moves : KeptByMoves before (Ending before)
  ending_moves =
      moves_by_front before (Ending before) (same_at before) calls_end (births_end before) dials_end
      (λ job who winner caller orig leg slots does won h. won_ended before winner (unwrap_or leg.slot 0) (raced slots before) h)
      (λ s h. spent_at before s h)
      (λ slot conn c text s there waits h.
      changed_at before (Some 0) slot c (held_by conn c) s there (held_keeps conn c text waits) h)
