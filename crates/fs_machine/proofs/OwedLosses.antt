-- What channels do leaves connections, jobs and what jobs own as they are; of the originations that slots own some may go.
use Rattle.std.proofs.Common.{sym, ◌≡◌, ℕ, ◌+◌, ◌≤◌, Bool, true, false, if◌then◌else◌, List, [], ◌∷◌, Option, None, Some, refl, ap, ◌∙◌}
use Rattle.std.proofs.Common.{arith}
use Rattle.std.proofs.lemmas.Bool.{false≢true, eqb-true}
use Rattle.std.specs.Option.{option_and_then}
use Rattle.fs_text.specs.Cause.{cause_name}
use Rattle.fs_text.specs.declared.causes.Cause.{Cause}
use Rattle.fs_text.specs.declared.states.State.TheVariants.{CsHangup}
use Rattle.fs_bridge.specs.declared.row.BridgeKind.{BridgeKind}
use Rattle.fs_bridge.specs.declared.row.BridgeKind.TheVariants.{Dial}
use Rattle.fs_bridge.specs.Closure.{Members}
use Rattle.fs_chan.specs.declared.chan.Chan.{Chan}
use Rattle.fs_chan.specs.Bridging.{awaited_by, bridged, in_media, at_leisure}
use Rattle.fs_chan.specs.Changes.{is_live, at_rest, hung_up}
use Rattle.fs_orig.specs.declared.caller.Caller.{Caller}
use Rattle.fs_orig.specs.declared.leg.OrigLeg.{OrigLeg}
use Rattle.fs_orig.specs.declared.orig.Orig.{Orig}
use Rattle.fs_orig.specs.declared.orig.Owner.{Owner}
use Rattle.fs_orig.specs.declared.orig.Owner.TheVariants as owner
use Rattle.fs_orig.specs.declared.plan.LegPlan.{LegPlan}
use Rattle.fs_orig.specs.declared.winner.Winner.{Winner}
use Rattle.fs_orig.specs.Legs.{is_at, position_in}
use Rattle.fs_orig.specs.Changes.{with_answer, with_death, may_enter_next, at_next_group}
use Rattle.fs_seats.specs.Seats.{with_held, held_in}
use Rattle.fs_seats.proofs.TableLemmas.{taken_in, taken_less}
use Rattle.fs_seats.proofs.NumberLemmas.{Numbers}
use Rattle.fs_state.specs.declared.event.Event.{Event}
use Rattle.fs_state.specs.Switch.{Switch, chan_at, with_chan, with_bridge, without_bridge, orig_of, without_orig, with_event}
use Rattle.fs_text.specs.declared.event_names.EventName.TheVariants.{ChannelExecuteComplete}
use Rattle.fs_state.specs.Moves.{application_event, running_at, with_state_events, after_move, orig_changed_from, orig_changed}
use Rattle.fs_state.specs.Moves.{leg_changed_at, leg_changed, after_completion}
use Rattle.fs_state.specs.Moves.{is_owner, its_leg_changed, hangup_event, given_up_by, orig_given_up, after_hangup_from, after_one_hangup}
use Rattle.fs_state.specs.Hangups.{after_hangups}
use Rattle.fs_state.specs.Leaving.{after_bridges_left}
use Rattle.fs_state.specs.Bridging.{peer_of, with_peer_from, with_peer, joined_as}
use Rattle.fs_machine.specs.declared.call.Call.{Call}
use Rattle.fs_machine.specs.Attempts.{awaits, with_group}
use Rattle.fs_machine.specs.Bridging.{goes_on, after_going_on, bridge_failed_from, after_bridge_failure, disposed, after_bridge_win}
use Rattle.fs_machine.specs.Controlling.{after_letting_go}
use Rattle.fs_machine.specs.Joining.{after_leaving, after_departures}
use Rattle.fs_machine.proofs.LeaveLemmas.{departed_kept}
use Rattle.fs_machine.specs.Originations.{leg_end, pair_made, MadeGroup, group_made, won_by, after_winning}
use Rattle.fs_machine.proofs.Kept.{Stage, Fact, KeptByTouches, KeptByCalls, KeptByBirths}
use Rattle.fs_machine.proofs.NameLemmas.{leg_by}
use Rattle.fs_machine.proofs.StayLemmas.{state_told_kept, moved_there, changed_there}
use Rattle.fs_machine.proofs.HangLemmas.{dies, hangups_kept_by, bridges_left_kept_by}
use Rattle.fs_machine.proofs.WonLemmas.{bridge_won_kept}
use Rattle.fs_machine.proofs.RestLemmas.{rest_of}
use Rattle.fs_machine.proofs.Walk.{let_go_kept, disposed_kept, group_made_kept}
use Rattle.fs_machine.proofs.OwedTables.{of_slot, left_stood, by_job, by_slot, IsOwnedAt, owned_in, owned_there, owned_changed}
use Rattle.fs_machine.proofs.OwedTables.{owned_removed, untold_removed, none_removed}

-- what a later switch has of the originations and of the rest of an earlier one
pub record Loses (s t : Switch) : Type 0 where
  pub rest : rest_of t ≡ rest_of s
  pub jobs : owned_in by_job t.origs ≡ owned_in by_job s.origs
  pub slots : taken_in (owned_in by_slot t.origs) ≤ taken_in (owned_in by_slot s.origs)
  pub stood : (seat number : ℕ) → held_in (owned_in of_slot t.origs) seat ≡ Some number →
      held_in (owned_in of_slot s.origs) seat ≡ Some number
  pub drawn : t.drawn.origs ≡ s.drawn.origs

-- what stands in a list that is the same
stood_same : (old new : List (Option ℕ)) → new ≡ old → (seat number : ℕ) → held_in new seat ≡ Some number →
    held_in old seat ≡ Some number
stood_same old new same seat number is = sym (ap (λ (l : List (Option ℕ)). held_in l seat) same) ∙ is

pub loses_none : (s t : Switch) → rest_of t ≡ rest_of s → t.origs ≡ s.origs → t.drawn.origs ≡ s.drawn.origs → Loses s t
loses_none s t rest origs drawn =
    let slots : taken_in (owned_in by_slot t.origs) ≡ taken_in (owned_in by_slot s.origs) = ap (λ o. taken_in (owned_in by_slot o)) origs in
    record {
      rest = rest;
      jobs = ap (owned_in by_job) origs;
      slots = omega (arith, slots);
      stood = stood_same (owned_in of_slot s.origs) (owned_in of_slot t.origs) (ap (owned_in of_slot) origs);
      drawn = drawn;
    }

pub loses_trans : (s t u : Switch) → Loses s t → Loses t u → Loses s u
loses_trans s t u first second =
    let one : taken_in (owned_in by_slot t.origs) ≤ taken_in (owned_in by_slot s.origs) = first.slots in
    let two : taken_in (owned_in by_slot u.origs) ≤ taken_in (owned_in by_slot t.origs) = second.slots in
    record {
      rest = second.rest ∙ first.rest;
      jobs = second.jobs ∙ first.jobs;
      slots = omega (arith, one, two);
      stood = λ seat number is. first.stood seat number (second.stood seat number is);
      drawn = second.drawn ∙ first.drawn;
    }

-- where neither the rest nor originations change
on : (s t u : Switch) → rest_of u ≡ rest_of t → u.origs ≡ t.origs → u.drawn.origs ≡ t.drawn.origs → Loses s t → Loses s u
on s t u rest origs drawn h = loses_trans s t u h (loses_none t u rest origs drawn)

self : (s : Switch) → Loses s s
self s = loses_none s s refl refl refl

-- ---- originations are changed, or go

-- a change of an origination that leaves it its owner
abbrev KeepsOwner : (Orig → Orig) → Type 0
KeepsOwner change = (o : Orig) → (change o).owner ≡ o.owner

changed_loses : (change : Orig → Orig) → KeepsOwner change → (number : ℕ) (s : Switch) → Loses s (orig_changed change number s)
changed_loses change keeps number s = by (orig_of s number) refl
  where
    by : (found : Option Orig) → orig_of s number ≡ found → Loses s (orig_changed_from change number found s)
    by None is = self s
    by (Some o) is =
        let slots : owned_in by_slot (orig_changed_from change number (Some o) s).origs ≡ owned_in by_slot s.origs =
        owned_changed by_slot s.origs number o (change o) is (keeps o) in
        let taken : taken_in (owned_in by_slot (orig_changed_from change number (Some o) s).origs) ≡ taken_in (owned_in by_slot s.origs) =
        ap taken_in slots in
        record {
          rest = refl;
          jobs = owned_changed by_job s.origs number o (change o) is (keeps o);
          slots = omega (arith, taken);
          stood = stood_same (owned_in of_slot s.origs) (owned_in of_slot (orig_changed_from change number (Some o) s).origs)
              (owned_changed of_slot s.origs number o (change o) is (keeps o));
          drawn = refl;
        }

answer_keeps : (seat slot : ℕ) → KeepsOwner (leg_changed (λ position. with_answer position seat) slot)
answer_keeps seat slot o = by (position_in slot o.legs)
  where
    by : (found : Option ℕ) → (leg_changed_at (λ position. with_answer position seat) found o).owner ≡ o.owner
    by None = refl
    by (Some position) = refl

death_keeps : (cause : Cause) (seat slot : ℕ) → KeepsOwner (dies cause seat slot)
death_keeps cause seat slot o = by (position_in slot o.legs)
  where
    by : (found : Option ℕ) → (leg_changed_at (λ position. with_death position seat cause) found o).owner ≡ o.owner
    by None = refl
    by (Some position) = refl

next_keeps : (legs : List OrigLeg) → KeepsOwner (at_next_group legs)
next_keeps legs o = by (may_enter_next o)
  where
    by : (test : Bool) → (if test then record o { current = o.current + 1; legs = legs } else o).owner ≡ o.owner
    by true = refl
    by false = refl

-- one goes that a slot owns
pub without_loses : (s : Switch) (number slot : ℕ) (o : Orig) → orig_of s number ≡ Some o → o.owner ≡ owner.Slot slot →
    Loses s (without_orig number s)
without_loses s number slot o is same =
    let there : IsOwnedAt by_slot s.origs number o = owned_there by_slot s.origs number o is in
    let less : taken_in (with_held (owned_in by_slot s.origs) there.seat None) + 1 ≡ taken_in (owned_in by_slot s.origs) =
    taken_less (owned_in by_slot s.origs) there.seat slot (there.told ∙ ap (λ (by : Owner). by_slot by number) same) in
    let left : taken_in (owned_in by_slot (without_orig number s).origs)
    ≡ taken_in (with_held (owned_in by_slot s.origs) there.seat None) =
    ap taken_in (owned_removed by_slot s.origs number there.seat there.at) in
    record {
      rest = refl;
      jobs = untold_removed by_job s.origs number o is (ap (λ (by : Owner). by_job by number) same);
      slots = omega (arith, less, left);
      stood = left_stood of_slot s.origs number;
      drawn = refl;
    }

-- one goes that is not there
missing_loses : (s : Switch) (number : ℕ) → orig_of s number ≡ None → Loses s (without_orig number s)
missing_loses s number none =
    let taken : taken_in (owned_in by_slot (without_orig number s).origs) ≡ taken_in (owned_in by_slot s.origs) =
    ap taken_in (none_removed by_slot s.origs number none) in
    record {
      rest = refl;
      jobs = none_removed by_job s.origs number none;
      slots = omega (arith, taken);
      stood = left_stood of_slot s.origs number;
      drawn = refl;
    }

its_slot : (slot : ℕ) (by : Owner) → is_owner slot by ≡ true → by ≡ owner.Slot slot
its_slot slot (owner.Slot other) is = ap owner.Slot (eqb-true other slot is)
its_slot slot (owner.Job job) is = absurd (false≢true is)

-- what a slot dialed is given up
given_up_loses : (slot : ℕ) (awaited : Option ℕ) (s : Switch) → Loses s (orig_given_up slot awaited s)
given_up_loses slot None s = self s
given_up_loses slot (Some number) s = by (orig_of s number) refl
  where
    whether : (o : Orig) → orig_of s number ≡ Some o → (test : Bool) → is_owner slot o.owner ≡ test →
        Loses s (if test then without_orig number s else s)
    whether o is true owns = without_loses s number slot o is (its_slot slot o.owner owns)
    whether o is false other = self s

    by : (found : Option Orig) → orig_of s number ≡ found → Loses s (given_up_by slot number found s)
    by None is = self s
    by (Some o) is = whether o is (is_owner slot o.owner) refl

-- ---- what channels do

touches_lose : (s : Switch) → KeptByTouches (λ b t. Loses s t)
touches_lose s = record {
  told = λ event {s = t} plain h. on s t (with_event event t) refl refl refl h;
  globals = λ globals {s = t} h. on s t (record t { globals = globals }) refl refl refl h;
  changed = λ slot old new {s = t} there stays h. on s t (with_chan slot (Some new) t) refl refl refl h;
  answers = λ seat slot number {s = t} h.
      loses_trans s t (orig_changed (leg_changed (λ position. with_answer position seat) slot) number t) h
      (changed_loses (leg_changed (λ position. with_answer position seat) slot) (answer_keeps seat slot) number t);
}

told_loses : (s : Switch) (event : Event) (t : Switch) → Loses s t → Loses s (with_event event t)
told_loses s event t h = on s t (with_event event t) refl refl refl h

pub moved_loses : (change : Chan → Chan) (slot : ℕ) (s : Switch) → Loses s (after_move change slot s)
moved_loses change slot s =
    moved_there (λ (t : Switch). Loses s t) (told_loses s) change slot s
    (λ c is. loses_none s (with_chan slot (Some (change c)) s) refl refl refl) (self s)

one_hung_loses : (cause : Cause) (slot : ℕ) (s : Switch) → Loses s (after_one_hangup cause slot s)
one_hung_loses cause slot s = by (chan_at s slot)
  where
    died : (leg_of : Option ℕ) (t : Switch) → Loses t (its_leg_changed (λ position. with_death position s.entries cause) slot leg_of t)
    died None t = self t
    died (Some number) t = changed_loses (dies cause s.entries slot) (death_keeps cause s.entries slot) number t

    of : (c : Chan) (test : Bool) →
        Loses s
        (if test then orig_given_up slot (awaited_by c) (its_leg_changed (λ position. with_death position s.entries cause) slot c.leg_of
        (with_state_events c.state CsHangup slot (with_event (hangup_event cause slot) (with_chan slot (Some (hung_up cause c)) s))))
        else s)
    of c true =
        let cut : Switch = with_event (hangup_event cause slot) (with_chan slot (Some (hung_up cause c)) s) in
        let told : Switch = with_state_events c.state CsHangup slot cut in
        let dead : Switch = its_leg_changed (λ position. with_death position s.entries cause) slot c.leg_of told in
        loses_trans s dead (orig_given_up slot (awaited_by c) dead)
        (loses_trans s told dead
        (state_told_kept (λ (t : Switch). Loses s t) (told_loses s) c.state CsHangup slot {s = cut} (loses_none s cut refl refl refl))
        (died c.leg_of told)) (given_up_loses slot (awaited_by c) dead)
    of c false = self s

    by : (found : Option Chan) → Loses s (after_hangup_from cause slot found s)
    by None = self s
    by (Some c) = of c (is_live c)

pub hung_loses : (named : Members) (s : Switch) → Loses s (after_hangups named s)
hung_loses named s =
    hangups_kept_by named s (λ (t : Switch). Loses s t) (told_loses s)
    (λ slot old new t there settles h. on s t (with_chan slot (Some new) t) refl refl refl h)
    (λ number t h. on s t (without_bridge number t) refl refl refl h)
    (λ cause slot t hung h. loses_trans s t (after_one_hangup cause slot t) h (one_hung_loses cause slot t)) (self s)

bridges_left_lose : (slots : List ℕ) (s : Switch) → Loses s (after_bridges_left slots s)
bridges_left_lose slots s =
    bridges_left_kept_by slots s (λ (t : Switch). Loses s t) (told_loses s)
    (λ slot old new t there settles h. on s t (with_chan slot (Some new) t) refl refl refl h)
    (λ number t h. on s t (without_bridge number t) refl refl refl h)
    (λ cause slot t hung h. loses_trans s t (after_one_hangup cause slot t) h (one_hung_loses cause slot t)) (self s)

peer_loses : (slot other : ℕ) (s : Switch) → Loses s (with_peer slot other s)
peer_loses slot other s = by (chan_at s other)
  where
    by : (found : Option Chan) → Loses s (with_peer_from slot other found s)
    by None = self s
    by (Some c) =
        changed_there (λ (t : Switch). Loses s t) (bridged (peer_of other c)) slot s
        (λ d is. loses_none s (with_chan slot (Some (bridged (peer_of other c) d)) s) refl refl refl) (self s)

pub joined_loses : (kind : BridgeKind) (caller answerer : ℕ) (s : Switch) → Loses s (joined_as kind caller answerer s)
joined_loses kind caller answerer s =
    let t : Switch = with_bridge caller answerer kind s in
    let u : Switch = with_peer caller answerer t in
    let v : Switch = with_peer answerer caller u in
    on s v (joined_as kind caller answerer s) refl refl refl
    (loses_trans s u v
    (loses_trans s t u (loses_none s t refl refl refl) (peer_loses caller answerer t)) (peer_loses answerer caller u))

pub left_loses : (slot : ℕ) (s : Switch) → Loses s (after_leaving slot s)
left_loses slot s =
    let awaited : Option ℕ = option_and_then awaited_by (chan_at s slot) in
    let t : Switch = orig_given_up slot awaited s in
    changed_there (λ (u : Switch). Loses s u) at_leisure slot t
    (λ c is. on s t (with_chan slot (Some (at_leisure c)) t) refl refl refl (given_up_loses slot awaited s)) (given_up_loses slot awaited s)

departed_loses : (slots : List ℕ) (s : Switch) → Loses s (after_departures slots s)
departed_loses slots s =
    departed_kept (λ (t : Switch). Loses s t) (told_loses s) (λ at t h. loses_trans s t (after_leaving at t) h (left_loses at t))
    (λ named t h. loses_trans s t (after_hangups named t) h (hung_loses named t))
    (λ all t h. loses_trans s t (after_bridges_left all t) h (bridges_left_lose all t)) slots s (self s)

pub winning_loses : (winner : Winner) (slot : ℕ) (s : Switch) → Loses s (after_winning winner slot s)
unfolding after_winning
winning_loses winner slot s = moved_loses (won_by winner) slot s

-- and it leaves the table of originations as it is
pub winning_numbers : (winner : Winner) (slot : ℕ) (s : Switch) → Numbers s.origs s.drawn.origs →
    Numbers (after_winning winner slot s).origs (after_winning winner slot s).drawn.origs
unfolding after_winning
winning_numbers winner slot s h =
    moved_there (λ (t : Switch). Numbers t.origs t.drawn.origs) (λ event t k. k) (won_by winner) slot s (λ c is. h) h

-- a connection lets its channel go
pub freed_loses : (conn : ℕ) (s : Switch) → Loses s (after_letting_go conn s)
freed_loses conn s = let_go_kept (λ b t. Loses s t) (touches_lose s) conn {b = None} {s = s} (self s)

-- a channel goes on
pub completed_loses : (slot : ℕ) (s : Switch) → Loses s (after_completion slot s)
completed_loses slot s =
    told_loses s (application_event ChannelExecuteComplete (running_at slot s) slot) (after_move at_rest slot s) (moved_loses at_rest slot s)

-- a fact that bears such losses is kept by what happens to channels
pub calls_by_losses : (P : Fact) → ((b : Stage) (t u : Switch) → P b t → Loses t u → P b u) →
    ((t : Switch) → P (Some 0) t → P (Some 1) t) → KeptByCalls P
calls_by_losses P loses more = record {
  touches = record {
    told = λ event {b = b} {s = s} plain h. loses b s (with_event event s) h (loses_none s (with_event event s) refl refl refl);
    globals = λ globals {b = b} {s = s} h.
        loses b s (record s { globals = globals }) h (loses_none s (record s { globals = globals }) refl refl refl);
    changed = λ slot old new {b = b} {s = s} there stays h.
        loses b s (with_chan slot (Some new) s) h (loses_none s (with_chan slot (Some new) s) refl refl refl);
    answers = λ seat slot number {b = b} {s = s} h.
        loses b s (orig_changed (leg_changed (λ position. with_answer position seat) slot) number s) h
        (changed_loses (leg_changed (λ position. with_answer position seat) slot) (answer_keeps seat slot) number s);
  };
  hung = λ named {s = s} early h. loses (Some 0) s (after_hangups named s) h (hung_loses named s);
  joined = λ kind caller answerer c d {s = s} can there other one two idle spare was h.
      loses (Some 0) s (joined_as kind caller answerer s) h (joined_loses kind caller answerer s);
  departs = λ slots {s = s} early h. loses (Some 0) s (after_departures slots s) h (departed_loses slots s);
  more = λ {s = s} h. more s h;
  gone = λ slot old {s = s} there dead early h.
      more (with_chan slot None s) (loses (Some 0) s (with_chan slot None s) h (loses_none s (with_chan slot None s) refl refl refl));
}

-- ---- what comes of a bridge that is dialed

disposed_loses : (text : List ℕ) (slot : ℕ) (s : Switch) → Loses s (disposed text slot s)
disposed_loses text slot s = disposed_kept (λ b t. Loses s t) (touches_lose s) text slot {b = None} {s = s} (self s)

pub failure_loses : (cause : Cause) (slot : ℕ) (s : Switch) → Loses s (after_bridge_failure cause slot s)
unfolding after_bridge_failure
failure_loses cause slot s = by (chan_at s slot)
  where
    t : Switch
    t = disposed (cause_name cause) slot s

    onward : (goes : Bool) → Loses s (after_going_on goes cause slot t)
    onward true =
        told_loses s (application_event ChannelExecuteComplete (running_at slot t) slot) (after_move at_rest slot t)
        (loses_trans s t (after_move at_rest slot t) (disposed_loses (cause_name cause) slot s) (moved_loses at_rest slot t))
    onward false =
        loses_trans s t (after_hangups ((slot, cause) ∷ []) t) (disposed_loses (cause_name cause) slot s)
        (hung_loses ((slot, cause) ∷ []) t)

    by : (found : Option Chan) → Loses s (bridge_failed_from found cause slot s)
    by None = self s
    by (Some c) = onward (goes_on cause c.vars)

pub bridge_won_loses : (slot leg : ℕ) (s : Switch) → Loses s (after_bridge_win slot leg s)
bridge_won_loses slot leg s =
    bridge_won_kept (λ (t : Switch). Loses s t) (λ (t : Switch). Loses s t) (touches_lose s) slot leg
    (λ u can h. loses_trans s (joined_as Dial slot leg u) (after_move in_media leg (joined_as Dial slot leg u))
    (loses_trans s u (joined_as Dial slot leg u) h (joined_loses Dial slot leg u)) (moved_loses in_media leg (joined_as Dial slot leg u)))
    (λ u cannot h. h) s (self s)

-- ---- legs are made

pair_loses : (call : Call) (orig a b : ℕ) (s : Switch) → Loses s (pair_made call orig a b s)
pair_loses call orig a b s =
    loses_none s (pair_made call orig a b s)
    (leg_by (λ t. rest_of t ≡ rest_of s) call.uuid call (leg_end orig a b) s refl (λ own. refl))
    (leg_by (λ t. t.origs ≡ s.origs) call.uuid call (leg_end orig a b) s refl (λ own. refl))
    (leg_by (λ t. t.drawn.origs ≡ s.drawn.origs) call.uuid call (leg_end orig a b) s refl (λ own. refl))

births_lose : (s : Switch) → KeptByBirths (λ b t. Loses s t)
births_lose s = record {
  spent = λ h. h;
  pair = λ call orig a b {s = t} short named first second h. loses_trans s t (pair_made call orig a b t) h (pair_loses call orig a b t);
}

pub group_loses : (plans : List LegPlan) (caller : Caller) (orig : ℕ) (s : Switch) → Loses s (group_made plans caller orig s).state
group_loses plans caller orig s = group_made_kept (λ b t. Loses s t) (births_lose s) plans caller orig {s = s} (self s)

pub regrouped_loses : (number : ℕ) (plans : List LegPlan) (caller : Caller) (s : Switch) →
    Loses s (with_group number (group_made plans caller number s))
regrouped_loses number plans caller s =
    let made : MadeGroup = group_made plans caller number s in
    loses_trans s made.state (with_group number made) (group_loses plans caller number s)
    (changed_loses (at_next_group made.legs) (next_keeps made.legs) number made.state)

-- ---- what a channel waits for

-- a channel owns the origination that it waits for, if that is there
abbrev pub OwnsAwaited : Switch → Type 0
OwnsAwaited s = (slot number : ℕ) (c : Chan) (o : Orig) → chan_at s slot ≡ Some c → awaited_by c ≡ Some number → orig_of s number ≡ Some o →
    o.owner ≡ owner.Slot slot

-- so it goes with nothing of what jobs own
pub awaited_loses : (s : Switch) (slot number : ℕ) → OwnsAwaited s → awaits slot number s ≡ true → Loses s (without_orig number s)
awaited_loses s slot number owns waits = by (orig_of s number) refl
  where
    awaited : (found : Option ℕ) → is_at number found ≡ true → found ≡ Some number
    awaited None is = absurd (false≢true is)
    awaited (Some other) is = ap Some (eqb-true other number is)

    owned : (o : Orig) → orig_of s number ≡ Some o → (found : Option Chan) → chan_at s slot ≡ found →
        option_and_then awaited_by found ≡ Some number → o.owner ≡ owner.Slot slot
    owned o is None at none = absurd (cc)
    owned o is (Some c) at same = owns slot number c o at same is

    by : (found : Option Orig) → orig_of s number ≡ found → Loses s (without_orig number s)
    by None is = missing_loses s number is
    by (Some o) is =
        without_loses s number slot o is
        (owned o is (chan_at s slot) refl (awaited (option_and_then awaited_by (chan_at s slot)) waits))
