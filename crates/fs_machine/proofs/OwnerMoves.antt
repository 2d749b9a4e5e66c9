-- Each act leaves those waiting that own what they dialed, and whoever waits owns what it waits for, if that is there.
use Rattle.std.proofs.Common.{◌≡◌, ℕ, ◌+◌, ◌-◌, ◌<◌, ◌^◌, Bool, true, false, if◌then◌else◌, List, [], ◌∷◌, length, Option, None, Some}
use Rattle.std.proofs.Common.{option_and_then, unwrap_or, refl, sym, ap, subst, ◌∙◌, arith, true≢false, ◌≤◌, ◌==◌, length-set}
use Rattle.std.specs.Prelude.{is_some}
use Rattle.std.proofs.lemmas.Bool.{false≢true, eqb-true}
use Rattle.std.proofs.lemmas.Option.{none-some, same_Some}
use Rattle.std.proofs.lemmas.Cmp.{nat_eq_equiv}
use Rattle.fs_text.specs.declared.causes.Cause.{Cause}
use Rattle.fs_text.specs.Texts.{Text}
use Rattle.fs_text.specs.Cause.{cause_name}
use Rattle.fs_bridge.specs.declared.row.BridgeKind.{BridgeKind}
use Rattle.fs_bridge.specs.declared.row.BridgeKind.TheVariants.{Dial}
use Rattle.fs_chan.specs.declared.chan.Chan.{Chan}
use Rattle.fs_chan.specs.declared.wait.Wait.{Wait}
use Rattle.fs_chan.specs.declared.wait.Wait.TheVariants.{Legs, Bridged}
use Rattle.fs_chan.specs.Changes.{is_live, at_rest}
use Rattle.fs_chan.specs.Controlling.{held_by}
use Rattle.fs_chan.specs.Bridging.{awaiting, awaited_by, bridged, in_media, at_leisure, exported_pairs, awaited_in}
use Rattle.fs_orig.specs.declared.caller.Caller.{Caller}
use Rattle.fs_orig.specs.declared.leg.OrigLeg.{OrigLeg}
use Rattle.fs_orig.specs.declared.orig.Orig.{Orig}
use Rattle.fs_orig.specs.declared.plan.LegPlan.{LegPlan}
use Rattle.fs_orig.specs.declared.winner.Winner.{Winner}
use Rattle.fs_orig.specs.declared.orig.Owner.TheVariants as owner
use Rattle.fs_orig.specs.declared.winner.Winner.TheVariants.{App, Route}
use Rattle.fs_orig.specs.Legs.{is_at}
use Rattle.fs_orig.specs.Changes.{with_answer, may_enter_next, at_next_group}
use Rattle.fs_orig.specs.Plans.{all_behind}
use Rattle.fs_seats.specs.declared.numbered.Numbered.{Numbered}
use Rattle.fs_seats.specs.Seats.{no_seats, held_in, with_held}
use Rattle.fs_seats.specs.Rows.{has_number}
use Rattle.fs_seats.proofs.HeldLemmas.{IsFree, held_within}
use Rattle.fs_seats.proofs.NumberLemmas.{Numbers}
use Rattle.fs_state.specs.declared.conn.Conn.{Conn}
use Rattle.fs_state.specs.declared.conn.Parting.TheVariants as parting
use Rattle.fs_state.specs.declared.job.Asker.{Asker}
use Rattle.fs_state.specs.declared.job.JobWork.{JobWork}
use Rattle.fs_state.specs.declared.job.JobWork.TheVariants.{Originate}
use Rattle.fs_state.specs.Switch.{Switch, chan_at, with_chan, with_new_conn, next_orig_number, orig_of, without_orig, with_bridge}
use Rattle.fs_state.specs.Moves.{after_move_from, orig_changed, leg_changed, after_move, orig_given_up}
use Rattle.fs_state.specs.Bridging.{peer_of, with_peer_from, with_peer, joined_as}
use Rattle.fs_state.proofs.LegTables.{berthed}
use Rattle.fs_machine.specs.declared.call.Call.{Call}
use Rattle.fs_machine.specs.Texts.{made_text, failed_text}
use Rattle.fs_machine.specs.Connections.{conn_changed, admitted, parted, with_subs_changed}
use Rattle.fs_machine.specs.Controlling.{coming_number, controller}
use Rattle.fs_machine.specs.Originations.{pair_made, MadeGroup, group_made, won_by, after_winning}
use Rattle.fs_machine.specs.Attempts.{first_group, orig_begun, tried_by_job, originate_begun, with_group, awaits}
use Rattle.fs_machine.specs.declared.owing.Giver.{Giver}
use Rattle.fs_machine.specs.declared.owing.Giver.TheVariants as giver
use Rattle.fs_machine.specs.Owing.{job_number, after_job_end}
use Rattle.fs_machine.specs.Sound.{Awaits, IsOwnedBy}
use Rattle.fs_machine.specs.Bridging.{caller_of, group_dialed, goes_on, after_going_on, bridge_failed_from, after_bridge_failure}
use Rattle.fs_machine.specs.Bridging.{after_bridge_win, disposed}
use Rattle.fs_machine.specs.Dialing.{tried_by_slot}
use Rattle.fs_machine.specs.Joining.{after_leaving, after_departures}
use Rattle.fs_state.specs.Leaving.{after_leaving_others}
use Rattle.fs_machine.proofs.NameLemmas.{leg_chan, far_chan, pair_channels}
use Rattle.fs_machine.proofs.Kept.{Stage, Fact, Links, Keeps, KeptByTouches, KeptByCalls, KeptByBirths, KeptByDials, raced, KeptByMoves}
use Rattle.fs_machine.proofs.Kept.{hold_in, IsApt, IsAtWork, none_joined_by, goes_on_by, let_go_by, KeptByApi}
use Rattle.fs_machine.proofs.StayLemmas.{state_told_kept, moved_there, changed_there, held_keeps}
use Rattle.fs_machine.proofs.HangLemmas.{given_up_kept}
use Rattle.fs_machine.proofs.LeaveLemmas.{farewells_kept}
use Rattle.fs_machine.proofs.Walk.{disposed_kept, group_made_kept}
use Rattle.fs_machine.proofs.LegLemmas.{Channels, Roles, roles_of, IsLegOf, LegsStand}
use Rattle.fs_machine.proofs.LegBirths.{pair_roles, second_free, spared_births}
use Rattle.fs_machine.proofs.LegHangups.{winning_leg}
use Rattle.fs_machine.proofs.WonLemmas.{bridge_won_kept}
use Rattle.fs_machine.proofs.BondTables.{Bonds, Bonding}
use Rattle.fs_machine.proofs.OwnerLemmas.{IsWaiting, Owned, OwnsNone, dials_owns, put_owned, fresh_owned, alike_owned, Came, none_came}
use Rattle.fs_machine.proofs.OwnerLemmas.{came_without, KeepsOwner, leg_keeps, changed_owned, changed_came, without_owned, without_none}
use Rattle.fs_machine.proofs.OwnerLemmas.{given_up_owned, given_up_none, begun_owned, dialed_owned}
use Rattle.fs_machine.proofs.JoinLemmas.{rest_dials}
use Rattle.fs_machine.proofs.OwnerHangups.{rest_owned, hung_owned}
use Rattle.fs_machine.proofs.OwnerLeaves.{others_owned}
use Rattle.fs_machine.proofs.LegMoves.{orig_changed_drawn, group_drawn}
use Rattle.fs_machine.proofs.LegMoves.{conn_roles, begun_roles, background_roles, ended_roles, won_roles}
use Rattle.fs_machine.proofs.LegMoves.{same_next}
use Rattle.fs_machine.proofs.StopLemmas.{none_distinct, none_within, no_rows}

-- ---- the fact

-- as long as nothing has begun, there is a number for an origination
abbrev pub RoomAt : Stage → ℕ → Type 0
RoomAt None drawn = drawn < 2 ^ 64 - 1
RoomAt (Some freed) drawn = Unit {0}

pub record OwningAt (b : Stage) (s : Switch) : Type 0 where
  pub bonds : Bonds s
  pub owned : Owned (roles_of s)
  pub room : RoomAt b s.drawn.origs

abbrev pub Owning : Fact
Owning b s = OwningAt b s

-- so it is as a sound switch has it
pub record Owners (s : Switch) : Type 0 where
  pub numbers : Numbers s.origs s.drawn.origs
  pub wait : (slot number : ℕ) → IsOwnedBy s slot number → Awaits s slot number
  pub own : (slot number : ℕ) (c : Chan) (o : Orig) → chan_at s slot ≡ Some c → awaited_by c ≡ Some number →
      orig_of s number ≡ Some o → o.owner ≡ owner.Slot slot
  pub drawn : (slot number : ℕ) (c : Chan) → chan_at s slot ≡ Some c → awaited_by c ≡ Some number → number ≤ s.drawn.origs

numbered : (held : Option (Numbered Orig)) (row : Numbered Orig) (number : ℕ) → held ≡ Some row → row.number ≡ number →
    has_number number held ≡ true
numbered held row number is same =
    ap (has_number number) is ∙ (ap (λ (n : ℕ). n == number) same ∙ nat_eq_equiv.refl number)

pub owners_of : (s : Switch) → Owned (roles_of s) → Owners s
owners_of s h = record {
  numbers = record {
    apart = λ p q a c first second same. h.distinct a.number p q (numbered (held_in s.origs p) a a.number first refl)
        (numbered (held_in s.origs q) c a.number second (sym same));
    within = λ p a there. h.within a.number p (numbered (held_in s.origs p) a a.number there refl);
  };
  wait = λ slot number is.
      let w : IsWaiting s.channels slot number = h.wait slot number is.orig is.there is.owned in
      record { chan = w.chan; there = w.there; live = w.live; waits = w.waits };
  own = h.own;
  drawn = h.drawn;
}

room_same : (b : Stage) (s t : Switch) → t.drawn.origs ≡ s.drawn.origs → RoomAt b s.drawn.origs → RoomAt b t.drawn.origs
room_same b s t same room = subst (RoomAt b) (sym same) room

next_number : (s : Switch) → RoomAt None s.drawn.origs → next_orig_number s ≡ s.drawn.origs + 1
next_number s room = omega (arith, room)

-- ---- what channels do

awaited_held : (wait : Wait) → awaited_in (hold_in wait) ≡ awaited_in wait
awaited_held (Legs orig) = refl
awaited_held Bridged = refl
awaited_held _ = refl

keeps_awaits : {b : Stage} (old new : Chan) → Keeps b old new → awaited_by new ≡ awaited_by old
keeps_awaits old new keeps =
    sym (awaited_held new.wait) ∙ (ap (λ (l : Links). awaited_in l.hold) keeps.links ∙ awaited_held old.wait)

keeps_owned : {b : Stage} (slot : ℕ) (old new : Chan) (s : Switch) → chan_at s slot ≡ Some old → Keeps b old new → Owned (roles_of s) →
    Owned (roles_of (with_chan slot (Some new) s))
keeps_owned slot old new s there keeps h =
    alike_owned (roles_of s) slot old new there (keeps_awaits old new keeps) keeps.live (ap (λ (l : Links). l.leg_of) keeps.links) h

answer_keeps : (seat slot : ℕ) → KeepsOwner (leg_changed (λ position. with_answer position seat) slot)
answer_keeps seat slot = leg_keeps (λ position. with_answer position seat) slot (λ position o. refl)

answered_owned : (seat slot number : ℕ) (s : Switch) → Owned (roles_of s) →
    Owned (roles_of (orig_changed (leg_changed (λ position. with_answer position seat) slot) number s))
answered_owned seat slot number s h =
    changed_owned (leg_changed (λ position. with_answer position seat) slot) number s (answer_keeps seat slot) h

-- what it dialed is given up, and it comes to rest
left_owned : (slot : ℕ) (s : Switch) → Owned (roles_of s) → Owned (roles_of (after_leaving slot s))
left_owned slot s h =
    changed_there (λ (u : Switch). Owned (roles_of u)) at_leisure slot t
    (λ c there. rest_owned (roles_of t) slot c (at_leisure c) there (none c there) (rest_dials None c.state) owned) owned
  where
    awaited : Option ℕ
    awaited = option_and_then awaited_by (chan_at s slot)

    t : Switch
    t = orig_given_up slot awaited s

    owned : Owned (roles_of t)
    owned = given_up_owned slot awaited s h

    same : t.channels ≡ s.channels
    same = given_up_kept (λ (u : Switch). u.channels ≡ s.channels) (λ number u k. k) slot awaited s refl

    none : (c : Chan) → chan_at t slot ≡ Some c → OwnsNone t.origs slot
    none c there =
        let was : chan_at s slot ≡ Some c = sym (ap (λ (channels : Channels). held_in channels slot) same) ∙ there in
        subst (λ (aw : Option ℕ). OwnsNone (orig_given_up slot aw s).origs slot) (sym (ap (option_and_then awaited_by) was))
        (given_up_none slot c s was h)

-- channels leave all that they were in
departed_owned : (slots : List ℕ) (s : Switch) → Bonds s → Owned (roles_of s) → Owned (roles_of (after_departures slots s))
departed_owned slots s bonds h =
    farewells_kept (λ (t : Switch). Owned (roles_of t)) (λ event t k. k) left_owned slots (after_leaving_others slots s)
    (others_owned slots s bonds h)

gone_owned : (slot : ℕ) (old : Chan) (s : Switch) → chan_at s slot ≡ Some old → is_live old ≡ false → Owned (roles_of s) →
    Owned (roles_of (with_chan slot None s))
gone_owned slot old s there dead h =
    fresh_owned (roles_of s) slot None (held_within s.channels slot old there)
    (dials_owns (roles_of s) slot
    (λ c is live. absurd (true≢false (sym live ∙ (ap is_live (same_Some c old (sym is ∙ there)) ∙ dead)))) h)
    (λ c is. absurd (none-some c is)) h

-- ---- bridges

-- two slots own nothing
record OwnNone (a b : ℕ) (s : Switch) : Type 0 where
  owned : Owned (roles_of s)
  first : OwnsNone s.origs a
  second : OwnsNone s.origs b

peer_none : (a b other : ℕ) (s : Switch) → OwnNone a b s → OwnNone a b (with_peer a other s)
peer_none a b other s h = by (chan_at s other)
  where
    by : (found : Option Chan) → OwnNone a b (with_peer_from a other found s)
    by None = h
    by (Some d) =
        changed_there (λ (t : Switch). OwnNone a b t) (bridged (peer_of other d)) a s
        (λ c there. record {
          owned = rest_owned (roles_of s) a c (bridged (peer_of other d) c) there h.first refl h.owned;
          first = h.first;
          second = h.second;
        }) h

swapped : (a b : ℕ) (s : Switch) → OwnNone a b s → OwnNone b a s
swapped a b s h = record { owned = h.owned; first = h.second; second = h.first }

joined_none : (kind : BridgeKind) (a b : ℕ) (s : Switch) → OwnNone a b s → OwnNone a b (joined_as kind a b s)
joined_none kind a b s h =
    let t : Switch = with_bridge a b kind s in
    let u : OwnNone a b (with_peer a b t) = peer_none a b b t (record { owned = h.owned; first = h.first; second = h.second }) in
    let v : OwnNone b a (with_peer b a (with_peer a b t)) = peer_none b a a (with_peer a b t) (swapped a b (with_peer a b t) u) in
    record { owned = v.owned; first = v.second; second = v.first }

joined_owned : (kind : BridgeKind) (a b : ℕ) (c d : Chan) (s : Switch) → chan_at s a ≡ Some c → chan_at s b ≡ Some d →
    awaited_by c ≡ None → awaited_by d ≡ None → Owned (roles_of s) → Owned (roles_of (joined_as kind a b s))
joined_owned kind a b c d s one two first second h =
    (joined_none kind a b s (record { owned = h; first = none a c one first; second = none b d two second })).owned
  where
    none : (slot : ℕ) (x : Chan) → chan_at s slot ≡ Some x → awaited_by x ≡ None → OwnsNone s.origs slot
    none slot x there dials = dials_owns (roles_of s) slot (λ y is live. ap awaited_by (same_Some y x (sym is ∙ there)) ∙ dials) h

-- a leg that owned nothing comes into media
media_owned : (slot : ℕ) (s : Switch) → Owned (roles_of s) → OwnsNone s.origs slot → Owned (roles_of (after_move in_media slot s))
media_owned slot s h none =
    moved_there (λ (t : Switch). Owned (roles_of t)) (λ event t k. k) in_media slot s
    (λ c there. put_owned (roles_of s) slot (Some (in_media c)) (held_within s.channels slot c there)
    (λ number o is owned. absurd (none number o is owned))
    (λ d number is awaits.
    let was : awaited_by c ≡ Some number = ap awaited_by (same_Some (in_media c) d is) ∙ awaits in
    (h.drawn slot number c there was, λ o row. h.own slot number c o there was row))
    (λ d is leg. absurd (true≢false (sym leg ∙ ap (λ (x : Chan). is_some x.leg_of) (sym (same_Some (in_media c) d is))))) h) h

-- ---- the legs of a group are made

pair_owned : (call : Call) (orig a b : ℕ) (s : Switch) → IsFree Chan s.channels 1 a → IsFree Chan s.channels (a + 1) b →
    Owned (roles_of s) → Owned (roles_of (pair_made call orig a b s))
pair_owned call orig a b s free_a free_b h =
    subst Owned
    (sym (pair_roles call orig a b s ∙ ap (λ (channels : Channels). record (roles_of s) { channels = channels })
    (pair_channels call orig a b s)))
    (fresh_owned with_one b (Some far) (subst (λ (n : ℕ). b < n) (sym (length-set s.channels a (Some leg))) free_b.within)
    (none with_one b (second_free leg a b s.channels free_b) one) (λ c is. ap awaited_by (sym (same_Some far c is))) one)
  where
    leg : Chan
    leg = leg_chan call orig a b s

    far : Chan
    far = far_chan call orig a b s

    with_one : Roles
    with_one = record (roles_of s) { channels = with_held s.channels a (Some leg) }

    none : (r : Roles) (slot : ℕ) → held_in r.channels slot ≡ None → Owned r → OwnsNone r.origs slot
    none r slot free k = dials_owns r slot (λ c is live. absurd (none-some c (sym free ∙ is))) k

    one : Owned with_one
    one =
        fresh_owned (roles_of s) a (Some leg) free_a.within (none (roles_of s) a free_a.free h)
        (λ c is. ap awaited_by (sym (same_Some leg c is))) h

owned_births : KeptByBirths (λ b s. Owned (roles_of s))
owned_births = record {
  spent = λ h. h;
  pair = λ call orig a b {s = s} short named first second h. pair_owned call orig a b s first second h;
}

made_owned : (plans : List LegPlan) (caller : Caller) (number : ℕ) (s : Switch) → Owned (roles_of s) →
    Owned (roles_of (group_made plans caller number s).state)
made_owned plans caller number s h =
    group_made_kept (λ b t. Owned (roles_of t)) owned_births plans caller number {s = s} h

next_keeps : (legs : List OrigLeg) → KeepsOwner (at_next_group legs)
next_keeps legs o = by (may_enter_next o)
  where
    by : (test : Bool) → (if test then record o { current = o.current + 1; legs = legs } else o).owner ≡ o.owner
    by true = refl
    by false = refl

regroups_owned : (number : ℕ) (plans : List LegPlan) (caller : Caller) (s : Switch) → Owned (roles_of s) →
    Owned (roles_of (with_group number (group_made plans caller number s)))
regroups_owned number plans caller s h =
    let made : MadeGroup = group_made plans caller number s in
    changed_owned (at_next_group made.legs) number made.state (next_keeps made.legs) (made_owned plans caller number s h)

-- the number is the one that was next before its legs were made, and there is one still
made_next : (plans : List LegPlan) (caller : Caller) (s : Switch) → RoomAt None s.drawn.origs →
    (next_orig_number (group_made plans caller (next_orig_number s) s).state ≡ next_orig_number s)
    × RoomAt None (group_made plans caller (next_orig_number s) s).state.drawn.origs
made_next plans caller s room = (
  same_next plans caller s,
  room_same None s (group_made plans caller (next_orig_number s) s).state (group_drawn plans caller (next_orig_number s) s) room,
)

originates_owned : (by : Giver) (groups : List (List LegPlan)) (winner : Winner) (caller : Caller) (timeout : Option ℕ) (s : Switch) →
    RoomAt None s.drawn.origs → Owned (roles_of s) → Owned (roles_of (originate_begun by groups winner caller timeout s))
originates_owned by groups winner caller timeout s room h =
    tried (group_made plans caller (next_orig_number s) s) (made_next plans caller s room).1
    (made_owned plans caller (next_orig_number s) s h)
  where
    plans : List LegPlan
    plans = first_group groups

    tried : (made : MadeGroup) → RoomAt None made.state.drawn.origs → Owned (roles_of made.state) →
        Owned (roles_of (tried_by_job by groups winner caller (unwrap_or timeout 60) (next_orig_number s) made))
    tried made free k =
        let work : JobWork = Originate (next_orig_number s) winner caller in
        let job : ℕ = job_number by made.state in
        let t : Switch = orig_begun (owner.Job job) groups made.legs (unwrap_or timeout 60) made.state in
        subst Owned (sym (begun_roles by work t))
        (begun_owned (roles_of made.state) (next_orig_number made.state) job _ (next_number made.state free) refl k)

moved_roles : (change : Chan → Chan) (slot : ℕ) (c : Chan) (s : Switch) → chan_at s slot ≡ Some c →
    roles_of (after_move change slot s) ≡ record (roles_of s) { channels = with_held s.channels slot (Some (change c)) }
moved_roles change slot c s there =
    subst (λ (found : Option Chan). roles_of (after_move_from change slot found s) ≡ record
    (roles_of s) { channels = with_held s.channels slot (Some (change c)) }) (sym there)
    (state_told_kept (λ (t : Switch). roles_of t ≡ record (roles_of s) { channels = with_held s.channels slot (Some (change c)) })
    (λ event t h. h) c.state (change c).state slot {s = with_chan slot (Some (change c)) s} refl)

dials_owned : (slot : ℕ) (c : Chan) (groups : List (List LegPlan)) (timeout : ℕ) (s : Switch) → chan_at s slot ≡ Some c → IsAtWork c →
    IsApt c → RoomAt None s.drawn.origs → Owned (roles_of s) →
    Owned
    (roles_of (tried_by_slot slot groups timeout (next_orig_number s) (group_dialed (Some c) (first_group groups) (next_orig_number s) s)))
dials_owned slot c groups timeout s there works apt room h =
    tried (group_made plans (caller_of c) (next_orig_number s) s) (made_next plans (caller_of c) s room).0
    (made_next plans (caller_of c) s room).1
    (group_made_kept (λ b t. chan_at t slot ≡ Some c) (spared_births slot c) plans (caller_of c) (next_orig_number s) {s = s} there)
    (made_owned plans (caller_of c) (next_orig_number s) s h)
  where
    plans : List LegPlan
    plans = all_behind (exported_pairs c.vars) (first_group groups)

    tried : (made : MadeGroup) → next_orig_number made.state ≡ next_orig_number s → RoomAt None made.state.drawn.origs →
        chan_at made.state slot ≡ Some c → Owned (roles_of made.state) →
        Owned (roles_of (tried_by_slot slot groups timeout (next_orig_number s) made))
    tried made same free here k =
        let t : Switch = orig_begun (owner.Slot slot) groups made.legs timeout made.state in
        subst (λ (n : ℕ). Owned (roles_of (after_move (awaiting n) slot t))) same
        (subst Owned (sym (moved_roles (awaiting (next_orig_number made.state)) slot c t here))
        (dialed_owned (roles_of made.state) slot (next_orig_number made.state) c _ (next_number made.state free) here works.live
        (sym (awaited_held c.wait) ∙ ap awaited_in works.free) (λ leg. true≢false (sym (apt.idle leg) ∙ works.busy)) refl k))

-- ---- what came of what a channel dialed

-- it waits for this
waits_for : (slot orig : ℕ) (s : Switch) → awaits slot orig s ≡ true → (c : Chan) → chan_at s slot ≡ Some c → awaited_by c ≡ Some orig
waits_for slot orig s is c there =
    by (awaited_by c) (sym (ap (λ (found : Option Chan). is_at orig (option_and_then awaited_by found)) there) ∙ is)
  where
    by : (found : Option ℕ) → is_at orig found ≡ true → found ≡ Some orig
    by None none = absurd (false≢true none)
    by (Some other) same = ap Some (eqb-true other orig same)

-- bonds and owners stand, and two slots own nothing
record Unowning (a b : ℕ) (s : Switch) : Type 0 where
  bonds : Bonds s
  none : OwnNone a b s

module _ (before : Switch) (bonding : KeptByMoves before Bonding) where
  unowning_touches : (a b : ℕ) → KeptByTouches (λ k s. Unowning a b s)
  unowning_touches a b = record {
    told = λ event {b = k} {s = s} plain h. record {
      bonds = bonding.calls.touches.told event {b = k} {s = s} plain h.bonds;
      none = record { owned = h.none.owned; first = h.none.first; second = h.none.second };
    };
    globals = λ globals {b = k} {s = s} h. record {
      bonds = bonding.calls.touches.globals globals {b = k} {s = s} h.bonds;
      none = record { owned = h.none.owned; first = h.none.first; second = h.none.second };
    };
    changed = λ slot old new {b = k} {s = s} there stays h. record {
      bonds = bonding.calls.touches.changed slot old new {b = k} {s = s} there stays h.bonds;
      none = record {
        owned = keeps_owned slot old new s there stays.keeps h.none.owned;
        first = h.none.first;
        second = h.none.second;
      };
    };
    answers = λ seat slot number {b = k} {s = s} h.
        let came : Came s.origs (orig_changed (leg_changed (λ position. with_answer position seat) slot) number s).origs =
        changed_came (leg_changed (λ position. with_answer position seat) slot) number s (answer_keeps seat slot) in
        record {
          bonds = bonding.calls.touches.answers seat slot number {b = k} {s = s} h.bonds;
          none = record {
            owned = answered_owned seat slot number s h.none.owned;
            first = none_came s.origs (orig_changed (leg_changed (λ position. with_answer position seat) slot) number s).origs a came
                h.none.first;
            second = none_came s.origs (orig_changed (leg_changed (λ position. with_answer position seat) slot) number s).origs b came
                h.none.second;
          };
        };
  }

  bridge_failed_owned : (cause : Cause) (slot other : ℕ) (s : Switch) → Unowning slot other s →
      Owned (roles_of (after_bridge_failure cause slot s))
  unfolding after_bridge_failure
  bridge_failed_owned cause slot other s h = by (chan_at s slot)
    where
      t : Switch
      t = disposed (cause_name cause) slot s

      told : Unowning slot other t
      told = disposed_kept (λ k u. Unowning slot other u) (unowning_touches slot other) (cause_name cause) slot {b = None} {s = s} h

      on : (onward : Bool) → Owned (roles_of (after_going_on onward cause slot t))
      on true =
          moved_there (λ (u : Switch). Owned (roles_of u)) (λ event u k. k) at_rest slot t
          (λ c there. rest_owned (roles_of t) slot c (at_rest c) there told.none.first (rest_dials c.socket c.state) told.none.owned)
          told.none.owned
      on false = hung_owned ((slot, cause) ∷ []) t told.bonds told.none.owned

      by : (found : Option Chan) → Owned (roles_of (bridge_failed_from found cause slot s))
      by None = h.none.owned
      by (Some c) = on (goes_on cause c.vars)

  bridge_won_owned : (slot leg : ℕ) (s : Switch) → Unowning slot leg s → Owned (roles_of (after_bridge_win slot leg s))
  bridge_won_owned slot leg s h =
      bridge_won_kept (λ (t : Switch). Unowning slot leg t) (λ (t : Switch). Owned (roles_of t)) (unowning_touches slot leg) slot leg
      (λ t can k. let both : OwnNone slot leg (joined_as Dial slot leg t) = joined_none Dial slot leg t k.none in
      media_owned leg (joined_as Dial slot leg t) both.owned both.second)
      (λ t cannot k. k.none.owned) s h

-- what has won dials nothing
leg_none : (orig : ℕ) (leg : OrigLeg) (s : Switch) → IsLegOf s.channels (berthed orig leg.slot) → Owned (roles_of s) →
    OwnsNone s.origs (unwrap_or leg.slot 0)
leg_none orig leg s stands h =
    let at : chan_at s (unwrap_or leg.slot 0) ≡ Some stands.chan =
    ap (λ (slot : Option ℕ). chan_at s (unwrap_or slot 0)) stands.is ∙ stands.there in
    dials_owns (roles_of s) (unwrap_or leg.slot 0)
    (λ c is live.
    h.lone (unwrap_or leg.slot 0) c is
    (ap is_some (ap (λ (d : Chan). d.leg_of) (same_Some c stands.chan (sym is ∙ at)) ∙ stands.names))) h

winner_dials : (winner : Winner) (c : Chan) → awaited_by (won_by winner c) ≡ None
winner_dials (App application argument) c = refl
winner_dials (Route to) c = refl

won_owned : (winner : Winner) (orig : ℕ) (leg : OrigLeg) (s : Switch) → IsLegOf s.channels (berthed orig leg.slot) → Owned (roles_of s) →
    Owned (roles_of (without_orig orig (after_winning winner (unwrap_or leg.slot 0) s)))
won_owned winner orig leg s stands h =
    let slot : ℕ = unwrap_or leg.slot 0 in
    let at : chan_at s slot ≡ Some stands.chan = ap (λ (which : Option ℕ). chan_at s (unwrap_or which 0)) stands.is ∙ stands.there in
    without_owned orig (after_winning winner slot s)
    (subst Owned (sym (won_roles winner slot stands.chan s at))
    (rest_owned (roles_of s) slot stands.chan (won_by winner stands.chan) at (leg_none orig leg s stands h)
    (winner_dials winner stands.chan) h))

-- ---- every move

module _ (before : Switch) (stand : LegsStand (roles_of before)) (bonding : KeptByMoves before Bonding) where
  owning_touches : KeptByTouches Owning
  owning_touches = record {
    told = λ event {b = b} {s = s} plain h.
        record { bonds = bonding.calls.touches.told event {b = b} {s = s} plain h.bonds; owned = h.owned; room = h.room };
    globals = λ globals {b = b} {s = s} h.
        record { bonds = bonding.calls.touches.globals globals {b = b} {s = s} h.bonds; owned = h.owned; room = h.room };
    changed = λ slot old new {b = b} {s = s} there stays h. record {
      bonds = bonding.calls.touches.changed slot old new {b = b} {s = s} there stays h.bonds;
      owned = keeps_owned slot old new s there stays.keeps h.owned;
      room = h.room;
    };
    answers = λ seat slot number {b = b} {s = s} h. record {
      bonds = bonding.calls.touches.answers seat slot number {b = b} {s = s} h.bonds;
      owned = answered_owned seat slot number s h.owned;
      room = room_same b s (orig_changed (leg_changed (λ position. with_answer position seat) slot) number s)
          (orig_changed_drawn (leg_changed (λ position. with_answer position seat) slot) number s) h.room;
    };
  }

  owning_calls : KeptByCalls Owning
  owning_calls = record {
    touches = owning_touches;
    hung = λ named {s = s} early h. record {
      bonds = bonding.calls.hung named {s = s} early.bonds h.bonds;
      owned = hung_owned named s h.bonds h.owned;
      room = tt;
    };
    joined = λ kind a b c d {s = s} can one two lone alone first second was h. record {
      bonds = bonding.calls.joined kind a b c d {s = s} can one two lone alone first second
          (none_joined_by was (λ t k. k.bonds)) h.bonds;
      owned = joined_owned kind a b c d s one two first second h.owned;
      room = tt;
    };
    departs = λ slots {s = s} early h. record {
      bonds = bonding.calls.departs slots {s = s} early.bonds h.bonds;
      owned = departed_owned slots s h.bonds h.owned;
      room = tt;
    };
    more = λ {s = s} h. record { bonds = bonding.calls.more {s = s} h.bonds; owned = h.owned; room = tt };
    gone = λ slot old {s = s} there dead early h. record {
      bonds = bonding.calls.gone slot old {s = s} there dead early.bonds h.bonds;
      owned = gone_owned slot old s there dead h.owned;
      room = tt;
    };
  }

  owning_dials : KeptByDials before Owning
  owning_dials = record {
    spent = λ {s = s} h. record { bonds = bonding.dials.spent {s = s} h.bonds; owned = h.owned; room = tt };
    dials = λ slot c groups timeout {s = s} there works are h. record {
      bonds = bonding.dials.dials slot c groups timeout {s = s} there works are h.bonds;
      owned = dials_owned slot c groups timeout s there works (h.bonds.apt slot c there) h.room h.owned;
      room = tt;
    };
    regroups = λ number o plans caller {s = s} there next h. record {
      bonds = bonding.dials.regroups number o plans caller {s = s} there next h.bonds;
      owned = regroups_owned number plans caller s h.owned;
      room = tt;
    };
    fails = λ slot orig cause {s = s} waits over h.
        let none : OwnsNone (without_orig orig s).origs slot = without_none orig slot s h.owned (waits_for slot orig s waits) in
        record {
          bonds = bonding.dials.fails slot orig cause {s = s} waits over h.bonds;
          owned = bridge_failed_owned before bonding cause slot slot (without_orig orig s)
              (record { bonds = h.bonds; none = record { owned = without_owned orig s h.owned; first = none; second = none } });
          room = tt;
        };
    wins = λ slot orig leg slots waits won h.
        let s : Switch = raced slots before in
        record {
          bonds = bonding.dials.wins slot orig leg slots waits won h.bonds;
          owned = bridge_won_owned before bonding slot (unwrap_or leg.slot 0) (without_orig orig s)
              (record {
                bonds = h.bonds;
                none = record {
                  owned = without_owned orig s h.owned;
                  first = without_none orig slot s h.owned (waits_for slot orig s waits);
                  second = none_came s.origs (without_orig orig s).origs (unwrap_or leg.slot 0)
                      (came_without s.origs orig h.owned.distinct)
                      (leg_none orig leg s (winning_leg before orig leg slots won stand) h.owned);
                };
              });
          room = tt;
        };
  }

  ended_owned : (number : ℕ) (who : Asker) (answer : Text) (s : Switch) → Owned (roles_of s) →
      Owned (roles_of (after_job_end number who answer s))
  ended_owned number who answer s h = subst Owned (sym (ended_roles number who answer s)) h

  conn_owned : (change : Conn → Conn) (conn : ℕ) (s : Switch) → Owned (roles_of s) → Owned (roles_of (conn_changed change conn s))
  conn_owned change conn s h = subst Owned (sym (conn_roles change conn s)) h

  -- no origination is left
  nothing_owned : (r : Roles) (count : ℕ) → Owned r → Owned (record r { origs = no_seats {T = Numbered Orig} count })
  nothing_owned r count h = record {
    distinct = none_distinct Orig count;
    within = none_within Orig count r.drawn;
    wait = λ slot number o there owned. absurd (none-some o (sym (no_rows count number) ∙ there));
    own = λ slot number c o there waits is. absurd (none-some o (sym (no_rows count number) ∙ is));
    drawn = h.drawn;
    lone = h.lone;
  }

  owning_api : (by : Giver) → KeptByApi by Bonding → KeptByApi by Owning
  owning_api by bonds = record {
    spent = λ {s = s} h. record { bonds = bonds.spent {s = s} h.bonds; owned = h.owned; room = tt };
    draws = λ {s = s} h. record { bonds = bonds.draws {s = s} h.bonds; owned = h.owned; room = tt };
    waits = λ what {s = s} wait may room h. record {
      bonds = bonds.waits what {s = s} wait (goes_on_by Owning Bonding by s may (λ t k. k.bonds)) room h.bonds;
      owned = subst Owned (sym (begun_roles by what s)) h.owned;
      room = tt;
    };
    originates = λ groups winner caller timeout {s = s} may are short room h. record {
      bonds = bonds.originates groups winner caller timeout {s = s} (goes_on_by Owning Bonding by s may (λ t k. k.bonds)) are short room h.bonds;
      owned = originates_owned by groups winner caller timeout s h.room h.owned;
      room = tt;
    };
    leavings = λ {n = n} {s = s} h. record { bonds = bonds.leavings {n = n} {s = s} h.bonds; owned = h.owned; room = tt };
    ends = λ reply notice {s = s} dead h. record {
      bonds = bonds.ends reply notice {s = s} dead h.bonds;
      owned = nothing_owned (roles_of s) (length s.origs) h.owned;
      room = tt;
    };
  }

  pub owners_moves : KeptByMoves before Owning
  owners_moves = record {
    calls = owning_calls;
    jobs = record {
      out = λ number job {s = s} does h.
          record { bonds = bonding.jobs.out number job {s = s} does h.bonds; owned = h.owned; room = h.room };
      runs = λ number job. owning_api (giver.Job number job) (bonding.jobs.runs number job);
      woken = λ number who what answer {s = s} wait does h. record {
        bonds = bonding.jobs.woken number who what answer {s = s} wait does h.bonds;
        owned = ended_owned number who answer s h.owned;
        room = tt;
      };
      failed = λ job who winner caller orig cause {s = s} does over h. record {
        bonds = bonding.jobs.failed job who winner caller orig cause {s = s} does over h.bonds;
        owned = ended_owned job who (failed_text cause) (without_orig orig s) (without_owned orig s h.owned);
        room = tt;
      };
      wins = λ job who winner caller orig leg slots does won h.
          let s : Switch = raced slots before in
          record {
            bonds = bonding.jobs.wins job who winner caller orig leg slots does won h.bonds;
            owned = ended_owned job who (made_text leg.uuid) (without_orig orig (after_winning winner (unwrap_or leg.slot 0) s))
                (won_owned winner orig leg s (winning_leg before orig leg slots won stand) h.owned);
            room = tt;
          };
    };
    dials = owning_dials;
    commands = λ conn. record {
      api = owning_api (giver.Conn conn) (bonding.commands conn).api;
      noticed = λ frame {b = b} {s = s} h.
          record { bonds = (bonding.commands conn).noticed frame {b = b} {s = s} h.bonds; owned = h.owned; room = h.room };
      gave = λ frame {b = b} {s = s} h.
          record { bonds = (bonding.commands conn).gave frame {b = b} {s = s} h.bonds; owned = h.owned; room = h.room };
      asked = λ change {n = n} {s = s} h. record {
        bonds = (bonding.commands conn).asked change {n = n} {s = s} h.bonds;
        owned = conn_owned (with_subs_changed change) conn s h.owned;
        room = tt;
      };
      admitted = λ {n = n} {s = s} fresh h. record {
        bonds = (bonding.commands conn).admitted {n = n} {s = s} fresh h.bonds;
        owned = conn_owned admitted conn s h.owned;
        room = tt;
      };
      parted = λ why {n = n} {s = s} leaves was h. record {
        bonds = (bonding.commands conn).parted why {n = n} {s = s} leaves (let_go_by was (λ t k. k.bonds)) h.bonds;
        owned = conn_owned (parted why) conn s h.owned;
        room = tt;
      };
      backgrounds = λ given command {s = s} room h. record {
        bonds = (bonding.commands conn).backgrounds given command {s = s} room h.bonds;
        owned = subst Owned (sym (background_roles given command s)) h.owned;
        room = tt;
      };
    };
    visits = record {
      arrived = λ {s = s} h. record { bonds = bonding.visits.arrived {s = s} h.bonds; owned = h.owned; room = tt };
      taken = λ conn {s = s} h. record { bonds = bonding.visits.taken conn {s = s} h.bonds; owned = h.owned; room = tt };
      holds = λ slot c text {s = s} there waits room h. record {
        bonds = bonding.visits.holds slot c text {s = s} there waits room h.bonds;
        owned = keeps_owned slot c (held_by (coming_number s) c) (with_new_conn (controller slot c text) s) there
            (held_keeps {b = None} (coming_number s) c text waits) h.owned;
        room = tt;
      };
      silent = λ conn {s = s} was h. record {
        bonds = bonding.visits.silent conn {s = s} (let_go_by was (λ t k. k.bonds)) h.bonds;
        owned = conn_owned (parted parting.EndOfInput) conn s h.owned;
        room = tt;
      };
      left = λ conn {s = s} was h.
          record { bonds = bonding.visits.left conn {s = s} (let_go_by was (λ t k. k.bonds)) h.bonds; owned = h.owned; room = tt };
      halted = λ reply notice {s = s} dead h. record {
        bonds = bonding.visits.halted reply notice {s = s} dead h.bonds;
        owned = nothing_owned (roles_of s) (length s.origs) h.owned;
        room = tt;
      };
    };
  }
