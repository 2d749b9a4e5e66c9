-- Each act leaves each living leg of an origination a live channel that names the origination.
use Rattle.std.proofs.Common.{◌≡◌, ℕ, ◌+◌, ◌-◌, ◌<◌, ◌^◌, min, Bool, true, false, List, [], ◌∷◌, length, Option, None, Some, option_and_then}
use Rattle.std.proofs.Common.{unwrap_or, ◌⊎◌, inl, inr, refl, sym, ap, subst, ◌∙◌, arith, map}
use Rattle.std.proofs.lemmas.Bool.{cases_eq, both_ways}
use Rattle.std.proofs.lemmas.Option.{same_Some}
use Rattle.fs_text.specs.declared.causes.Cause.{Cause}
use Rattle.fs_text.specs.declared.causes.Cause.TheVariants.{LoseRace}
use Rattle.fs_text.specs.Texts.{Text}
use Rattle.fs_text.specs.Cause.{cause_name}
use Rattle.fs_bridge.specs.declared.row.BridgeKind.{BridgeKind}
use Rattle.fs_bridge.specs.declared.row.BridgeKind.TheVariants.{Dial}
use Rattle.fs_bridge.specs.Closure.{Members}
use Rattle.fs_chan.specs.declared.chan.Chan.{Chan}
use Rattle.fs_chan.specs.Changes.{is_live, at_rest}
use Rattle.fs_chan.specs.Bridging.{awaiting, awaited_by, bridged, in_media, at_leisure, exported_pairs}
use Rattle.fs_chan.specs.Controlling.{held_by}
use Rattle.fs_orig.specs.declared.caller.Caller.{Caller}
use Rattle.fs_orig.specs.declared.leg.OrigLeg.{OrigLeg}
use Rattle.fs_orig.specs.declared.orig.Orig.{Orig}
use Rattle.fs_orig.specs.declared.plan.LegPlan.{LegPlan}
use Rattle.fs_orig.specs.declared.winner.Winner.{Winner}
use Rattle.fs_orig.specs.declared.orig.Owner.TheVariants as owner
use Rattle.fs_orig.specs.declared.orig.Owner.{Owner}
use Rattle.fs_orig.specs.Changes.{with_answer, at_next_group}
use Rattle.fs_orig.specs.Plans.{all_behind}
use Rattle.fs_seats.specs.Seats.{held_in, with_held}
use Rattle.fs_seats.specs.Rows.{has_number, without_row}
use Rattle.fs_seats.proofs.HeldLemmas.{held_here, held_there, held_within}
use Rattle.fs_seats.proofs.RowLemmas.{none_stands, numbers-with_row, seat_of-without_row_same, distinct-without_row, within-without_row}
use Rattle.fs_state.specs.declared.conn.Conn.{Conn}
use Rattle.fs_state.specs.declared.conn.Parting.TheVariants as parting
use Rattle.fs_state.specs.declared.job.Asker.{Asker}
use Rattle.fs_state.specs.declared.job.Asker.TheVariants as asker
use Rattle.fs_state.specs.declared.job.JobWork.{JobWork}
use Rattle.fs_state.specs.declared.job.JobWork.TheVariants.{Originate}
use Rattle.fs_state.specs.Switch.{Switch, chan_at, with_chan, next_orig_number, orig_of, without_orig, with_new_job, without_job}
use Rattle.fs_state.specs.Switch.{with_bridge, with_new_conn}
use Rattle.fs_state.specs.Moves.{after_move_from, orig_changed_from, orig_changed, leg_changed, with_changed_chan, after_move}
use Rattle.fs_state.specs.Moves.{orig_given_up}
use Rattle.fs_state.specs.Hangups.{after_hangups}
use Rattle.fs_state.specs.Leaving.{after_bridges_left}
use Rattle.fs_state.specs.Bridging.{peer_of, with_peer_from, with_peer, joined_as}
use Rattle.fs_state.proofs.LegTables.{berthed, berth_at, in_slot, berth_number, without_fewer}
use Rattle.fs_machine.specs.Texts.{made_text, failed_text}
use Rattle.fs_machine.specs.Connections.{conn_changed, admitted, parted, owed_since, not_owed, with_subs_changed}
use Rattle.fs_machine.specs.Controlling.{coming_number, controller}
use Rattle.fs_machine.specs.Originations.{MadeGroup, group_made, won_by, after_winning}
use Rattle.fs_machine.specs.Attempts.{first_group, orig_begun, tried_by_job, originate_begun, with_group}
use Rattle.fs_machine.specs.declared.owing.Giver.{Giver}
use Rattle.fs_machine.specs.declared.owing.Giver.TheVariants as giver
use Rattle.fs_machine.specs.Owing.{job_number, after_job_begin, background_begun, after_job_end}
use Rattle.fs_machine.specs.Bridging.{caller_of, group_dialed, goes_on, after_going_on, bridge_failed_from, after_bridge_failure}
use Rattle.fs_machine.specs.Bridging.{after_bridge_win, disposed}
use Rattle.fs_machine.specs.Dialing.{tried_by_slot}
use Rattle.fs_machine.specs.Joining.{after_leaving, after_departures}
use Rattle.fs_machine.proofs.LeaveLemmas.{departed_kept}
use Rattle.fs_machine.proofs.FrontLemmas.{conn_unread}
use Rattle.fs_machine.proofs.Kept.{Fact, Links, KeptByTouches, KeptByCalls, KeptByBirths, KeptByApi, KeptByDials, raced, KeptByMoves}
use Rattle.fs_machine.proofs.StayLemmas.{state_told_kept, moved_there, changed_there, orig_changed_channels}
use Rattle.fs_machine.proofs.HangLemmas.{dies, given_up_kept, hangups_kept, bridges_left_kept}
use Rattle.fs_machine.proofs.Walk.{disposed_kept, group_made_kept}
use Rattle.fs_machine.proofs.LegLemmas.{Channels, Roles, roles_of, IsLegOf, LegsStand, no_legs, legs_cut, legs_follow, free_follows, put_legs}
use Rattle.fs_machine.proofs.LegLemmas.{without_legs, given_up_legs, answered_legs}
use Rattle.fs_machine.proofs.LegBirths.{pair_roles, pair_legs, GroupStands, group_stands, new_orig_legs, regrouped_legs}
use Rattle.fs_machine.proofs.LegHangups.{hung_legs, bridges_left_legs, winning_leg}
use Rattle.fs_machine.proofs.WonLemmas.{bridge_won_kept}

-- ---- what draws no number of an origination

pub orig_changed_drawn : (change : Orig → Orig) (number : ℕ) (s : Switch) → (orig_changed change number s).drawn.origs ≡ s.drawn.origs
orig_changed_drawn change number s = by (orig_of s number)
  where
    by : (found : Option Orig) → (orig_changed_from change number found s).drawn.origs ≡ s.drawn.origs
    by None = refl
    by (Some o) = refl

pub hung_drawn : (named : Members) (s : Switch) → (after_hangups named s).drawn.origs ≡ s.drawn.origs
hung_drawn named s =
    hangups_kept named s (λ (t : Switch). t.drawn.origs ≡ s.drawn.origs) (λ event t k. k) (λ slot old new t there falls k. k)
    (λ number t k. k) (λ cause seat slot number t k. orig_changed_drawn (dies cause seat slot) number t ∙ k) (λ number t k. k) refl

bridges_left_drawn : (slots : List ℕ) (s : Switch) → (after_bridges_left slots s).drawn.origs ≡ s.drawn.origs
bridges_left_drawn slots s =
    bridges_left_kept slots s (λ (t : Switch). t.drawn.origs ≡ s.drawn.origs) (λ event t k. k) (λ slot old new t there falls k. k)
    (λ number t k. k) (λ cause seat slot number t k. orig_changed_drawn (dies cause seat slot) number t ∙ k) (λ number t k. k) refl

pub given_up_drawn : (slot : ℕ) (awaited : Option ℕ) (s : Switch) → (orig_given_up slot awaited s).drawn.origs ≡ s.drawn.origs
given_up_drawn slot awaited s = given_up_kept (λ (t : Switch). t.drawn.origs ≡ s.drawn.origs) (λ number t k. k) slot awaited s refl

births_drawn : (n : ℕ) → KeptByBirths (λ b t. t.drawn.origs ≡ n)
births_drawn n = record {
  spent = λ h. h;
  pair = λ call orig a b {s = s} short named first second h. ap (λ (r : Roles). r.drawn) (pair_roles call orig a b s) ∙ h;
}

pub group_drawn : (plans : List LegPlan) (caller : Caller) (number : ℕ) (s : Switch) →
    (group_made plans caller number s).state.drawn.origs ≡ s.drawn.origs
group_drawn plans caller number s =
    group_made_kept (λ b t. t.drawn.origs ≡ s.drawn.origs) (births_drawn s.drawn.origs) plans caller number {s = s} refl

-- ---- legs stand as long as few originations were tried, so that the next number is new

abbrev Stand : Roles → Type 0
Stand r = r.drawn < 2 ^ 62 → LegsStand r

abbrev pub Legs : Fact
Legs b s = Stand (roles_of s)

same_roles : (s t : Switch) → roles_of t ≡ roles_of s → Stand (roles_of s) → Stand (roles_of t)
same_roles s t same h = subst Stand (sym same) h

pub conn_roles : (change : Conn → Conn) (conn : ℕ) (s : Switch) → roles_of (conn_changed change conn s) ≡ roles_of s
conn_roles change conn s = conn_unread roles_of (λ conns t. refl) change conn s

-- what begins and ends jobs leaves all that legs see
pub begun_roles : (by : Giver) (what : JobWork) (s : Switch) → roles_of (after_job_begin by what s) ≡ roles_of s
begun_roles (giver.Conn conn) what s =
    conn_roles (owed_since s.entries) conn (with_new_job (record { asker = asker.Conn conn; work = what }) s)
begun_roles (giver.Job number job) what s = refl

pub background_roles : (given : Option Text) (command : Text) (s : Switch) → roles_of (background_begun given command s) ≡ roles_of s
background_roles None command s = refl
background_roles (Some uuid) command s = refl

pub ended_roles : (number : ℕ) (who : Asker) (answer : Text) (s : Switch) → roles_of (after_job_end number who answer s) ≡ roles_of s
ended_roles number (asker.Conn conn) answer s = conn_roles not_owed conn (without_job number s)
ended_roles number (asker.Background job) answer s = refl

-- what keeps legs, and draws none
legs_then : (s t : Switch) → t.drawn.origs ≡ s.drawn.origs → (LegsStand (roles_of s) → LegsStand (roles_of t)) →
    Stand (roles_of s) → Stand (roles_of t)
legs_then s t same keeps h few = keeps (h (subst (λ (n : ℕ). n < 2 ^ 62) same few))

-- a change leaves a channel the leg that it was
record IsLegStill (change : Chan → Chan) : Type 0 where
  leg : (c : Chan) → (change c).leg_of ≡ c.leg_of
  live : (c : Chan) → is_live (change c) ≡ is_live c

changed_legs : (change : Chan → Chan) (slot : ℕ) (s : Switch) → IsLegStill change → Stand (roles_of s) →
    Stand (roles_of (with_changed_chan change slot s))
changed_legs change slot s still h =
    changed_there (λ (t : Switch). Stand (roles_of t)) change slot s
    (λ c there few. put_legs slot c (change c) s there (still.leg c) (still.live c) (h few)) h

moved_legs : (change : Chan → Chan) (slot : ℕ) (s : Switch) → IsLegStill change → Stand (roles_of s) →
    Stand (roles_of (after_move change slot s))
moved_legs change slot s still h =
    moved_there (λ (t : Switch). Stand (roles_of t)) (λ event t k. k) change slot s
    (λ c there few. put_legs slot c (change c) s there (still.leg c) (still.live c) (h few)) h

legs_touches : KeptByTouches Legs
legs_touches = record {
  told = λ event plain h. h;
  globals = λ globals h. h;
  changed = λ slot old new {s = s} there stays h few.
      put_legs slot old new s there (ap (λ (l : Links). l.leg_of) stays.keeps.links) stays.keeps.live (h few);
  answers = λ seat slot number {s = s} h.
      legs_then s (orig_changed (leg_changed (λ position. with_answer position seat) slot) number s)
      (orig_changed_drawn (leg_changed (λ position. with_answer position seat) slot) number s)
      (answered_legs seat slot number s) h;
}

-- ---- hangups, and what channels leave

hung_stand : (named : Members) (s : Switch) → Stand (roles_of s) → Stand (roles_of (after_hangups named s))
hung_stand named s h = legs_then s (after_hangups named s) (hung_drawn named s) (hung_legs named s) h

left_legs : (slot : ℕ) (s : Switch) → Stand (roles_of s) → Stand (roles_of (after_leaving slot s))
left_legs slot s h =
    let awaited : Option ℕ = option_and_then awaited_by (chan_at s slot) in
    let t : Switch = orig_given_up slot awaited s in
    changed_legs at_leisure slot t (record { leg = λ c. refl; live = λ c. refl })
    (legs_then s t (given_up_drawn slot awaited s) (given_up_legs slot awaited s) h)

bridges_left_stand : (slots : List ℕ) (s : Switch) → Stand (roles_of s) → Stand (roles_of (after_bridges_left slots s))
bridges_left_stand slots s h =
    legs_then s (after_bridges_left slots s) (bridges_left_drawn slots s) (bridges_left_legs slots s) h

departed_legs : (slots : List ℕ) (s : Switch) → Stand (roles_of s) → Stand (roles_of (after_departures slots s))
departed_legs slots s h =
    departed_kept (λ (t : Switch). Stand (roles_of t)) (λ event t k. k) left_legs hung_stand bridges_left_stand slots s h

-- ---- bridges

peer_legs : (slot other : ℕ) (s : Switch) → Stand (roles_of s) → Stand (roles_of (with_peer slot other s))
peer_legs slot other s h = by (chan_at s other)
  where
    by : (found : Option Chan) → Stand (roles_of (with_peer_from slot other found s))
    by None = h
    by (Some d) = changed_legs (bridged (peer_of other d)) slot s (record { leg = λ c. refl; live = λ c. refl }) h

joined_legs : (kind : BridgeKind) (caller answerer : ℕ) (s : Switch) → Stand (roles_of s) →
    Stand (roles_of (joined_as kind caller answerer s))
joined_legs kind caller answerer s h =
    let t : Switch = with_bridge caller answerer kind s in
    peer_legs answerer caller (with_peer caller answerer t) (peer_legs caller answerer t h)

bridge_failed_legs : (cause : Cause) (slot : ℕ) (s : Switch) → Stand (roles_of s) → Stand (roles_of (after_bridge_failure cause slot s))
unfolding after_bridge_failure
bridge_failed_legs cause slot s h = by (chan_at s slot)
  where
    t : Switch
    t = disposed (cause_name cause) slot s

    told : Stand (roles_of t)
    told = disposed_kept Legs legs_touches (cause_name cause) slot {b = None} {s = s} h

    on : (onward : Bool) → Stand (roles_of (after_going_on onward cause slot t))
    on true = moved_legs at_rest slot t (record { leg = λ c. refl; live = λ c. refl }) told
    on false = hung_stand ((slot, cause) ∷ []) t told

    by : (found : Option Chan) → Stand (roles_of (bridge_failed_from found cause slot s))
    by None = h
    by (Some c) = on (goes_on cause c.vars)

-- ---- a leg is won by a channel

-- legs stand, and a channel names an origination that has ended
record IsWon (orig slot : ℕ) (s : Switch) : Type 0 where
  legs : LegsStand (roles_of s)
  ended : (seat : ℕ) → has_number orig (held_in s.origs seat) ≡ false
  names : (c : Chan) → chan_at s slot ≡ Some c → c.leg_of ≡ Some orig

put_won : (orig slot seat : ℕ) (old new : Chan) (s : Switch) → chan_at s seat ≡ Some old → new.leg_of ≡ old.leg_of →
    is_live new ≡ is_live old → IsWon orig slot s → IsWon orig slot (with_chan seat (Some new) s)
put_won orig slot seat old new s there same live h = record {
  legs = put_legs seat old new s there same live h.legs;
  ended = h.ended;
  names = λ c is. by c is (cases_eq slot seat);
}
  where
    by : (c : Chan) → held_in (with_held s.channels seat (Some new)) slot ≡ Some c → (slot ≡ seat) ⊎ (slot ≡ seat → ⊥) →
        c.leg_of ≡ Some orig
    by c is (inl here) =
        let now : held_in (with_held s.channels seat (Some new)) slot ≡ Some new =
        ap (held_in (with_held s.channels seat (Some new))) here
        ∙ held_here s.channels seat (Some new) (held_within s.channels seat old there) in
        ap (λ (d : Chan). d.leg_of) (same_Some c new (sym is ∙ now)) ∙ same ∙ h.names old (ap (held_in s.channels) here ∙ there)
    by c is (inr other) = h.names c (sym (held_there s.channels seat slot (Some new) other) ∙ is)

answered_won : (orig slot seat at number : ℕ) (s : Switch) → IsWon orig slot s →
    IsWon orig slot (orig_changed (leg_changed (λ position. with_answer position seat) at) number s)
answered_won orig slot seat at number s h = record {
  legs = answered_legs seat at number s h.legs;
  ended = by (orig_of s number);
  names = λ c is. h.names c (sym (ap (λ (channels : Channels). held_in channels slot) (orig_changed_channels change number s)) ∙ is);
}
  where
    change : Orig → Orig
    change = leg_changed (λ position. with_answer position seat) at

    by : (found : Option Orig) → (p : ℕ) → has_number orig (held_in (orig_changed_from change number found s).origs p) ≡ false
    by None p = h.ended p
    by (Some o) p = numbers-with_row s.origs number (change o) orig p ∙ h.ended p

won_touches : (orig slot : ℕ) → KeptByTouches (λ b s. IsWon orig slot s)
won_touches orig slot = record {
  told = λ event plain h. record { legs = h.legs; ended = h.ended; names = h.names };
  globals = λ globals h. record { legs = h.legs; ended = h.ended; names = h.names };
  changed = λ seat old new {s = s} there stays h.
      put_won orig slot seat old new s there (ap (λ (l : Links). l.leg_of) stays.keeps.links) stays.keeps.live h;
  answers = λ seat at number {s = s} h. answered_won orig slot seat at number s h;
}

peer_won : (orig slot seat other : ℕ) (s : Switch) → IsWon orig slot s → IsWon orig slot (with_peer seat other s)
peer_won orig slot seat other s h = by (chan_at s other)
  where
    by : (found : Option Chan) → IsWon orig slot (with_peer_from seat other found s)
    by None = h
    by (Some d) =
        changed_there (λ (t : Switch). IsWon orig slot t) (bridged (peer_of other d)) seat s
        (λ c there. put_won orig slot seat c (bridged (peer_of other d) c) s there refl refl h) h

joined_won : (orig slot : ℕ) (kind : BridgeKind) (caller answerer : ℕ) (s : Switch) → IsWon orig slot s →
    IsWon orig slot (joined_as kind caller answerer s)
joined_won orig slot kind caller answerer s h =
    let t : Switch = with_bridge caller answerer kind s in
    let won : IsWon orig slot (with_peer answerer caller (with_peer caller answerer t)) =
    peer_won orig slot answerer caller (with_peer caller answerer t)
    (peer_won orig slot caller answerer t (record { legs = h.legs; ended = h.ended; names = h.names })) in
    record { legs = won.legs; ended = won.ended; names = won.names }

-- it is no leg any more
media_legs : (orig slot : ℕ) (s : Switch) → IsWon orig slot s → LegsStand (roles_of (after_move in_media slot s))
media_legs orig slot s h =
    moved_there (λ (t : Switch). LegsStand (roles_of t)) (λ event t k. k) in_media slot s
    (λ c there. legs_cut (roles_of s) s.origs slot c (Some (in_media c)) there h.legs.distinct h.legs.within
    (λ seat position berth has. has) (λ seat position number has is. none seat position number c there has is) h.legs) h.legs
  where
    none : (seat position number : ℕ) (c : Chan) → chan_at s slot ≡ Some c →
        berth_at s.origs seat position ≡ Some (in_slot number slot) → c.leg_of ≡ Some number → ⊥
    none seat position number c there has is =
        both_ways (has_number orig (held_in s.origs seat)) (h.ended seat)
        (subst (λ (n : ℕ). has_number n (held_in s.origs seat) ≡ true) (same_Some number orig (sym is ∙ h.names c there))
        (berth_number position (held_in s.origs seat) (in_slot number slot) has))

won_now : (orig : ℕ) (leg : OrigLeg) (s : Switch) → IsLegOf s.channels (berthed orig leg.slot) → LegsStand (roles_of s) →
    IsWon orig (unwrap_or leg.slot 0) (without_orig orig s)
won_now orig leg s stands h = record {
  legs = without_legs orig s h;
  ended = λ seat.
      none_stands (without_row s.origs orig) orig (seat_of-without_row_same s.origs orig h.distinct) seat;
  names = λ c is.
      let at : chan_at s (unwrap_or leg.slot 0) ≡ Some stands.chan =
      ap (λ (slot : Option ℕ). chan_at s (unwrap_or slot 0)) stands.is ∙ stands.there in
      ap (λ (d : Chan). d.leg_of) (same_Some c stands.chan (sym is ∙ at)) ∙ stands.names;
}

bridge_won_legs : (slot orig leg : ℕ) (s : Switch) → IsWon orig leg s → Stand (roles_of (after_bridge_win slot leg s))
bridge_won_legs slot orig leg s h =
    bridge_won_kept (λ (t : Switch). IsWon orig leg t) (λ (t : Switch). Stand (roles_of t)) (won_touches orig leg) slot leg
    (λ t can k few. media_legs orig leg (joined_as Dial slot leg t) (joined_won orig leg Dial slot leg t k)) (λ t cannot k few. k.legs) s h

-- ---- a leg is won by a job

pub won_roles : (winner : Winner) (slot : ℕ) (c : Chan) (s : Switch) → chan_at s slot ≡ Some c →
    roles_of (after_winning winner slot s) ≡ record (roles_of s) { channels = with_held s.channels slot (Some (won_by winner c)) }
unfolding after_winning
won_roles winner slot c s there =
    subst (λ (found : Option Chan). roles_of (after_move_from (won_by winner) slot found s) ≡ record
    (roles_of s) { channels = with_held s.channels slot (Some (won_by winner c)) }) (sym there)
    (state_told_kept (λ (t : Switch). roles_of t ≡ record (roles_of s) { channels = with_held s.channels slot (Some (won_by winner c)) })
    (λ event t h. h) c.state (won_by winner c).state slot
    {s = with_chan slot (Some (won_by winner c)) s} refl)

won_legs : (winner : Winner) (number : ℕ) (leg : OrigLeg) (s : Switch) → IsLegOf s.channels (berthed number leg.slot) →
    LegsStand (roles_of s) → LegsStand (roles_of (without_orig number (after_winning winner (unwrap_or leg.slot 0) s)))
won_legs winner number leg s stands h =
    at stands.at (ap (λ (slot : Option ℕ). unwrap_or slot 0) stands.is) stands.chan stands.there stands.names
  where
    at : (slot : ℕ) → unwrap_or leg.slot 0 ≡ slot → (c : Chan) → chan_at s slot ≡ Some c → c.leg_of ≡ Some number →
        LegsStand (roles_of (without_orig number (after_winning winner (unwrap_or leg.slot 0) s)))
    at slot same c there names =
        subst (λ (n : ℕ). LegsStand (roles_of (without_orig number (after_winning winner n s)))) (sym same)
        (subst (λ (r : Roles). LegsStand (record r { origs = without_row r.origs number })) (sym (won_roles winner slot c s there))
        (legs_cut (roles_of s) (without_row s.origs number) slot c (Some (won_by winner c)) there
        (distinct-without_row s.origs number h.distinct)
        (within-without_row s.origs number s.drawn.origs h.within) (without_fewer s.origs number) gone h))
      where
        gone : (seat position n : ℕ) → berth_at (without_row s.origs number) seat position ≡ Some (in_slot n slot) → c.leg_of ≡ Some n → ⊥
        gone seat position n left is =
            both_ways (has_number number (held_in (without_row s.origs number) seat))
            (none_stands (without_row s.origs number) number (seat_of-without_row_same s.origs number h.distinct) seat)
            (subst (λ (m : ℕ). has_number m (held_in (without_row s.origs number) seat) ≡ true) (same_Some n number (sym is ∙ names))
            (berth_number position (held_in (without_row s.origs number) seat) (in_slot n slot) left))

-- ---- an origination begins, or comes to its next group

legs_births : KeptByBirths Legs
legs_births =
    record {
      spent = λ h. h;
      pair = λ call orig a b {s = s} short named first second h few.
          pair_legs call orig a b s first second
          (h (subst (λ (n : ℕ). n < 2 ^ 62) (ap (λ (r : Roles). r.drawn) (pair_roles call orig a b s)) few));
    }

begun_legs : (by : Owner) (groups : List (List LegPlan)) (timeout number : ℕ) (before : Channels) (made : MadeGroup) →
    next_orig_number made.state ≡ number → GroupStands number made.legs before made.state.channels → Stand (roles_of made.state) →
    Stand (roles_of (orig_begun by groups made.legs timeout made.state))
begun_legs by groups timeout number before made same stands h few =
    let fewer : made.state.drawn.origs < 2 ^ 62 = omega (arith, few) in
    new_orig_legs _ before made.state fewer
    (subst (λ (n : ℕ). GroupStands n made.legs before made.state.channels) (sym same) stands) (h fewer)

-- the number is the one that was next before its legs were made
pub same_next : (plans : List LegPlan) (caller : Caller) (s : Switch) →
    next_orig_number (group_made plans caller (next_orig_number s) s).state ≡ next_orig_number s
same_next plans caller s = ap (λ (n : ℕ). min (n + 1) (2 ^ 64 - 1)) (group_drawn plans caller (next_orig_number s) s)

originates_legs : (who : Giver) (groups : List (List LegPlan)) (winner : Winner) (caller : Caller) (timeout : Option ℕ) (s : Switch) →
    Stand (roles_of s) → Stand (roles_of (originate_begun who groups winner caller timeout s))
originates_legs who groups winner caller timeout s h =
    tried (group_made plans caller (next_orig_number s) s) (same_next plans caller s) (group_stands plans caller (next_orig_number s) s)
    (group_made_kept Legs legs_births plans caller (next_orig_number s) {s = s} h)
  where
    plans : List LegPlan
    plans = first_group groups

    tried : (made : MadeGroup) → next_orig_number made.state ≡ next_orig_number s →
        GroupStands (next_orig_number s) made.legs s.channels made.state.channels → Stand (roles_of made.state) →
        Stand (roles_of (tried_by_job who groups winner caller (unwrap_or timeout 60) (next_orig_number s) made))
    tried made same stands h =
        let work : JobWork = Originate (next_orig_number s) winner caller in
        let by : Owner = owner.Job (job_number who made.state) in
        let t : Switch = orig_begun by groups made.legs (unwrap_or timeout 60) made.state in
        same_roles t (after_job_begin who work t) (begun_roles who work t)
        (begun_legs by groups (unwrap_or timeout 60) (next_orig_number s) s.channels made same stands h)

dialed_legs : (slot : ℕ) (c : Chan) (groups : List (List LegPlan)) (timeout : ℕ) (s : Switch) → Stand (roles_of s) →
    Stand
    (roles_of (tried_by_slot slot groups timeout (next_orig_number s) (group_dialed (Some c) (first_group groups) (next_orig_number s) s)))
dialed_legs slot c groups timeout s h =
    tried (group_made plans (caller_of c) (next_orig_number s) s) (same_next plans (caller_of c) s)
    (group_stands plans (caller_of c) (next_orig_number s) s)
    (group_made_kept Legs legs_births plans (caller_of c) (next_orig_number s) {s = s} h)
  where
    plans : List LegPlan
    plans = all_behind (exported_pairs c.vars) (first_group groups)

    tried : (made : MadeGroup) → next_orig_number made.state ≡ next_orig_number s →
        GroupStands (next_orig_number s) made.legs s.channels made.state.channels → Stand (roles_of made.state) →
        Stand (roles_of (tried_by_slot slot groups timeout (next_orig_number s) made))
    tried made same stands h =
        moved_legs (awaiting (next_orig_number s)) slot (orig_begun (owner.Slot slot) groups made.legs timeout made.state)
        (record { leg = λ d. refl; live = λ d. refl })
        (begun_legs (owner.Slot slot) groups timeout (next_orig_number s) s.channels made same stands h)

regroups_legs : (number : ℕ) (plans : List LegPlan) (caller : Caller) (s : Switch) → Stand (roles_of s) →
    Stand (roles_of (with_group number (group_made plans caller number s)))
regroups_legs number plans caller s h few =
    let made : MadeGroup = group_made plans caller number s in
    let fewer : made.state.drawn.origs < 2 ^ 62 =
    subst (λ (n : ℕ). n < 2 ^ 62) (orig_changed_drawn (at_next_group made.legs) number made.state) few in
    regrouped_legs number made.legs s.channels made.state (group_stands plans caller number s)
    (group_made_kept Legs legs_births plans caller number {s = s} h fewer)

-- ---- every move

legs_calls : KeptByCalls Legs
legs_calls = record {
  touches = legs_touches;
  hung = λ named {s = s} early h. hung_stand named s h;
  joined = λ kind caller answerer c d {s = s} can one two lone alone first second was h. joined_legs kind caller answerer s h;
  departs = λ slots {s = s} early h. departed_legs slots s h;
  more = λ h. h;
  gone = λ slot old {s = s} there dead early h few.
      legs_follow (roles_of s) (with_held s.channels slot None)
      (free_follows s.channels slot None (λ c is. ap is_live (same_Some c old (sym is ∙ there)) ∙ dead)) (h few);
}

ended_legs : (number : ℕ) (who : Asker) (answer : Text) (s : Switch) → Stand (roles_of s) →
    Stand (roles_of (after_job_end number who answer s))
ended_legs number who answer s h = same_roles s (after_job_end number who answer s) (ended_roles number who answer s) h

legs_api : (by : Giver) → KeptByApi by Legs
legs_api by = record {
  spent = λ h. h;
  draws = λ h. h;
  waits = λ what {s = s} wait may room h. same_roles s (after_job_begin by what s) (begun_roles by what s) h;
  originates = λ groups winner caller timeout {s = s} may are short room h. originates_legs by groups winner caller timeout s h;
  leavings = λ h. h;
  ends = λ reply notice {s = s} dead h few. no_legs s.channels (length s.origs) s.drawn.origs;
}

-- the legs that stood before stand as others lose the race
module _ (before : Switch) (stand : LegsStand (roles_of before)) where
  raced_legs : (slots : List ℕ) → LegsStand (roles_of (raced slots before))
  raced_legs slots = hung_legs (map (λ loser. (loser, LoseRace)) slots) before stand

  legs_dials : KeptByDials before Legs
  legs_dials = record {
    spent = λ h. h;
    dials = λ slot c groups timeout {s = s} there works are h. dialed_legs slot c groups timeout s h;
    regroups = λ number o plans caller {s = s} there next h. regroups_legs number plans caller s h;
    fails = λ slot orig cause {s = s} waits over h. bridge_failed_legs cause slot (without_orig orig s) (λ few. without_legs orig s (h few));
    wins = λ slot orig leg slots waits won h.
        bridge_won_legs slot orig (unwrap_or leg.slot 0) (without_orig orig (raced slots before))
        (won_now orig leg (raced slots before) (winning_leg before orig leg slots won stand) (raced_legs slots));
  }

  pub legs_moves : KeptByMoves before Legs
  legs_moves = record {
    calls = legs_calls;
    jobs = record {
      out = λ number job does h. h;
      runs = λ number job. legs_api (giver.Job number job);
      woken = λ number who what answer {s = s} wait does h. ended_legs number who answer s h;
      failed = λ job who winner caller orig cause {s = s} does over h. ended_legs job who (failed_text cause) (without_orig orig s)
          (λ few. without_legs orig s (h few));
      wins = λ job who winner caller orig leg slots does won h.
          let s : Switch = raced slots before in
          ended_legs job who (made_text leg.uuid) (without_orig orig (after_winning winner (unwrap_or leg.slot 0) s))
          (λ few. won_legs winner orig leg s (winning_leg before orig leg slots won stand) (raced_legs slots));
    };
    dials = legs_dials;
    commands = λ conn. record {
      api = legs_api (giver.Conn conn);
      noticed = λ frame h. h;
      gave = λ frame h. h;
      asked = λ change {s = s} h. same_roles s (conn_changed (with_subs_changed change) conn s)
          (conn_roles (with_subs_changed change) conn s) h;
      admitted = λ {s = s} fresh h. same_roles s (conn_changed admitted conn s) (conn_roles admitted conn s) h;
      parted = λ why {s = s} leaves was h. same_roles s (conn_changed (parted why) conn s) (conn_roles (parted why) conn s) h;
      backgrounds = λ given command {s = s} room h. same_roles s (background_begun given command s) (background_roles given command s) h;
    };
    visits = record {
      arrived = λ h. h;
      taken = λ conn h. h;
      holds = λ slot c text {s = s} there waits room h few.
          put_legs slot c (held_by (coming_number s) c) (with_new_conn (controller slot c text) s) there refl refl (h few);
      silent = λ conn {s = s} was h. same_roles s (conn_changed (parted parting.EndOfInput) conn s)
          (conn_roles (parted parting.EndOfInput) conn s) h;
      left = λ conn was h. h;
      halted = λ reply notice {s = s} dead h few. no_legs s.channels (length s.origs) s.drawn.origs;
    };
  }
