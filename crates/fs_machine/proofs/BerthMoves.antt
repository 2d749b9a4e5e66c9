-- Each act leaves it so that whatever channel names an origination is a living leg of it.
use Rattle.std.proofs.Common.{◌≡◌, ℕ, Bool, true, false, List, [], ◌∷◌, map, Option, None, Some, slice_get, unwrap_or, ◌⊎◌, inl, inr, refl}
use Rattle.std.proofs.Common.{sym}
use Rattle.std.proofs.Common.{ap, subst, ◌∙◌}
use Rattle.std.proofs.lemmas.Option.{none-some, same_Some}
use Rattle.fs_text.specs.Texts.{Text}
use Rattle.fs_text.specs.Cause.{cause_name}
use Rattle.fs_text.specs.declared.causes.Cause.{Cause}
use Rattle.fs_text.specs.declared.causes.Cause.TheVariants.{LoseRace}
use Rattle.fs_bridge.specs.Bridges.{has_number_left}
use Rattle.fs_bridge.specs.declared.row.BridgeKind.{BridgeKind}
use Rattle.fs_bridge.specs.declared.row.BridgeKind.TheVariants.{Dial}
use Rattle.fs_chan.specs.declared.chan.Chan.{Chan}
use Rattle.fs_chan.specs.Bridging.{awaiting, awaited_by, exported_pairs, bridged, in_media, with_disposition}
use Rattle.fs_chan.specs.Changes.{at_rest}
use Rattle.fs_chan.specs.Controlling.{held_by}
use Rattle.fs_chan.specs.Moments.{moment_after}
use Rattle.fs_orig.specs.declared.caller.Caller.{Caller}
use Rattle.fs_orig.specs.declared.leg.OrigLeg.{OrigLeg}
use Rattle.fs_orig.specs.declared.orig.Orig.{Orig}
use Rattle.fs_orig.specs.declared.orig.Owner.{Owner}
use Rattle.fs_orig.specs.declared.orig.Owner.TheVariants as owner
use Rattle.fs_orig.specs.declared.plan.LegPlan.{LegPlan}
use Rattle.fs_orig.specs.declared.winner.Winner.{Winner}
use Rattle.fs_orig.specs.declared.winner.Winner.TheVariants.{App, Route}
use Rattle.fs_orig.specs.Changes.{new_orig}
use Rattle.fs_orig.specs.Plans.{all_behind}
use Rattle.fs_seats.specs.Rows.{row_of, without_row, with_new_row}
use Rattle.fs_seats.proofs.TableLemmas.{kept_without}
use Rattle.fs_state.specs.declared.conn.Conn.{Conn}
use Rattle.fs_state.specs.declared.conn.Parting.TheVariants as parting
use Rattle.fs_state.specs.declared.job.Asker.{Asker}
use Rattle.fs_state.specs.declared.job.JobWork.{JobWork}
use Rattle.fs_state.specs.declared.job.JobWork.TheVariants.{Originate}
use Rattle.fs_state.specs.Switch.{Switch, chan_at, with_chan, with_bridge, next_orig_number, without_orig, is_full_of_jobs}
use Rattle.fs_state.specs.Moves.{after_move_from, after_move}
use Rattle.fs_state.specs.Hangups.{lives_at}
use Rattle.fs_state.specs.Bridging.{peer_of, with_peer_from, with_peer, joined_as}
use Rattle.fs_state.proofs.LegTables.{berthed}
use Rattle.fs_machine.specs.Texts.{made_text, failed_text}
use Rattle.fs_machine.specs.Connections.{conn_changed, admitted, parted, with_subs_changed}
use Rattle.fs_machine.specs.Controlling.{coming_number}
use Rattle.fs_machine.specs.Originations.{seconds, MadeGroup, group_made, won_by, after_winning}
use Rattle.fs_machine.specs.Attempts.{first_group, orig_begun, originate_begun, awaits}
use Rattle.fs_machine.specs.Bridging.{caller_of, group_dialed, goes_on, after_going_on, disposed, bridge_failed_from, after_bridge_failure}
use Rattle.fs_machine.specs.Bridging.{after_bridge_win}
use Rattle.fs_machine.specs.Dialing.{tried_by_slot}
use Rattle.fs_machine.specs.declared.owing.Giver.{Giver}
use Rattle.fs_machine.specs.declared.owing.Giver.TheVariants as giver
use Rattle.fs_machine.specs.Owing.{job_number, after_job_begin, background_begun, after_job_end}
use Rattle.fs_machine.specs.Sound.{IsLegIn}
use Rattle.fs_machine.proofs.Kept.{Stage, Fact, Links, KeptByTouches, KeptByCalls, raced, HasWon, IsOver, KeptByJobs, KeptByDials}
use Rattle.fs_machine.proofs.Kept.{none_joined_by, AreDead, goes_on_by, let_go_by, KeptByApi, KeptByCommands, KeptByMoves}
use Rattle.fs_machine.proofs.StayLemmas.{state_told_kept, moved_there, changed_there}
use Rattle.fs_machine.proofs.CameLemmas.{CameFrom, came_self, came_hung}
use Rattle.fs_machine.proofs.ClosureLemmas.{NoneAtZero}
use Rattle.fs_machine.proofs.Walk.{disposed_kept}
use Rattle.fs_machine.proofs.WonLemmas.{joinable_won_kept}
use Rattle.fs_machine.proofs.JoinableLemmas.{winner_joins}
use Rattle.fs_machine.proofs.LegLemmas.{roles_of, Roles, IsLegOf, LegsStand, put_legs, without_legs}
use Rattle.fs_machine.proofs.LegHangups.{winning_leg}
use Rattle.fs_machine.proofs.LegMoves.{conn_roles, begun_roles, background_roles, ended_roles, won_roles}
use Rattle.fs_machine.proofs.PartnerMoves.{zero_put, not_zero}
use Rattle.fs_machine.proofs.BondTables.{Bonds, Bonding, NoSlot}
use Rattle.fs_machine.proofs.BondMoves.{bonds_touches}
use Rattle.fs_machine.proofs.AwaitedLemmas.{Awaits}
use Rattle.fs_machine.proofs.AwaitedMoves.{free_dials}
use Rattle.fs_machine.proofs.BerthLemmas.{BerthedBut, Berthed, berth_now, put_berthed, close_berthed, answered_berthed, without_berthed}
use Rattle.fs_machine.proofs.BerthLemmas.{AllLively, all_lively, dead_names, hung_berthed, departed_berthed}
use Rattle.fs_machine.proofs.BerthBirths.{begun_berthed, regrouped_berthed}
use Rattle.fs_machine.proofs.BerthTables.{HasBerth, leg_in}

-- ---- what happens to channels

berthed_touches : (open_at : ℕ → Type 0) → KeptByTouches (λ b s. BerthedBut open_at (roles_of s))
berthed_touches open_at = record {
  told = λ event plain h. h;
  globals = λ globals h. h;
  changed = λ slot old new {s = s} there stays h.
      put_berthed open_at (roles_of s) slot old new there (λ number is. sym (ap (λ (l : Links). l.leg_of) stays.keeps.links) ∙ is) h;
  answers = λ seat slot number {s = s} h. answered_berthed open_at seat slot number s h;
}

peer_berthed : (open_at : ℕ → Type 0) (slot other : ℕ) (s : Switch) → BerthedBut open_at (roles_of s) →
    BerthedBut open_at (roles_of (with_peer slot other s))
peer_berthed open_at slot other s h = by (chan_at s other)
  where
    by : (found : Option Chan) → BerthedBut open_at (roles_of (with_peer_from slot other found s))
    by None = h
    by (Some d) =
        changed_there (λ (t : Switch). BerthedBut open_at (roles_of t)) (bridged (peer_of other d)) slot s
        (λ c there. put_berthed open_at (roles_of s) slot c (bridged (peer_of other d) c) there (λ number is. is) h) h

joined_berthed : (open_at : ℕ → Type 0) (kind : BridgeKind) (a b : ℕ) (s : Switch) → BerthedBut open_at (roles_of s) →
    BerthedBut open_at (roles_of (joined_as kind a b s))
joined_berthed open_at kind a b s h =
    let t : Switch = with_bridge a b kind s in
    peer_berthed open_at b a (with_peer a b t) (peer_berthed open_at a b t h)

-- the leg that has won is none any more
media_berthed : (at : ℕ) (s : Switch) → BerthedBut (λ slot. slot ≡ at) (roles_of s) → Berthed (after_move in_media at s)
media_berthed at s h = by (chan_at s at) refl
  where
    -- nobody is in the slot that is open
    none : chan_at s at ≡ None → Berthed s
    none is slot number c there names = either (h slot number c there names)
      where
        either : (slot ≡ at) ⊎ HasBerth s.origs number slot → NoSlot slot ⊎ HasBerth s.origs number slot
        either (inl same) = absurd (none-some c (sym is ∙ (ap (chan_at s) (sym same) ∙ there)))
        either (inr berth) = inr berth

    by : (found : Option Chan) → chan_at s at ≡ found → Berthed (after_move_from in_media at found s)
    by None is = none is
    by (Some c) is =
        state_told_kept Berthed (λ event t k. k) c.state (in_media c).state at {s = with_chan at (Some (in_media c)) s}
        (close_berthed (roles_of s) at (in_media c) refl h)

-- a channel has failed to bridge
failed_berthed : (cause : Cause) (slot : ℕ) (s : Switch) → LegsStand (roles_of s) → NoneAtZero s → Bonds s → Berthed s →
    Berthed (after_bridge_failure cause slot s)
unfolding after_bridge_failure
failed_berthed cause slot s legs zero bonds h = by (chan_at s slot)
  where
    text : Text
    text = cause_name cause

    t : Switch
    t = disposed text slot s

    told : Berthed t
    told = disposed_kept (λ b u. Berthed u) (berthed_touches NoSlot) text slot {b = None} {s = s} h

    stand : LegsStand (roles_of t)
    stand =
        changed_there (λ (u : Switch). LegsStand (roles_of u)) (with_disposition text) slot s
        (λ c there. put_legs slot c (with_disposition text c) s there refl refl legs) legs

    bonded : Bonds t
    bonded = disposed_kept Bonding bonds_touches text slot {b = None} {s = s} bonds

    none : NoneAtZero t
    none =
        changed_there NoneAtZero (with_disposition text) slot s
        (λ c there. zero_put s slot (Some (with_disposition text c)) (not_zero s slot c there zero) zero) zero

    on : (onward : Bool) → Berthed (after_going_on onward cause slot t)
    on true =
        moved_there Berthed (λ event u k. k) at_rest slot t
        (λ c there. put_berthed NoSlot (roles_of t) slot c (at_rest c) there (λ number is. is) told) told
    on false = hung_berthed ((slot, cause) ∷ []) t stand none bonded told

    by : (found : Option Chan) → Berthed (bridge_failed_from found cause slot s)
    by None = h
    by (Some c) = on (goes_on cause c.vars)

-- ---- jobs and connections

roles_berthed : (s t : Switch) → roles_of t ≡ roles_of s → Berthed s → Berthed t
roles_berthed s t same h = subst (BerthedBut NoSlot) (sym same) h

conn_berthed : (change : Conn → Conn) (conn : ℕ) (s : Switch) → Berthed s → Berthed (conn_changed change conn s)
conn_berthed change conn s h = roles_berthed s (conn_changed change conn s) (conn_roles change conn s) h

ended_berthed : (number : ℕ) (who : Asker) (answer : Text) (s : Switch) → Berthed s → Berthed (after_job_end number who answer s)
ended_berthed number who answer s h = roles_berthed s (after_job_end number who answer s) (ended_roles number who answer s) h

begun_by_job : (by : Giver) (what : JobWork) (s : Switch) → Berthed s → Berthed (after_job_begin by what s)
begun_by_job by what s h = roles_berthed s (after_job_begin by what s) (begun_roles by what s) h

won_lone : (winner : Winner) (c : Chan) → (won_by winner c).leg_of ≡ None
won_lone (App application argument) c = refl
won_lone (Route to) c = refl

-- ---- every move

module _ (before : Switch) (stand : LegsStand (roles_of before)) (left : has_number_left before.bridges ≡ true) (were : Berthed before)
    (Q : Fact) (kept : KeptByMoves before Q)
    (bonds : (b : Stage) (t : Switch) → Q b t → Bonds t) (zero : (b : Stage) (t : Switch) → Q b t → NoneAtZero t)
    (legs : (b : Stage) (t : Switch) → Q b t → LegsStand (roles_of t)) (waits : (b : Stage) (t : Switch) → Q b t → Awaits t)
    (room : (t : Switch) → Q None t → (slot : ℕ) (c : Chan) → chan_at t slot ≡ Some c → awaited_by c ≡ None → (new : Orig) →
    row_of (with_new_row t.origs (next_orig_number t) new) (next_orig_number t) ≡ Some new)
    (room_for_job : (t : Switch) → Q None t → is_full_of_jobs t ≡ false → (new : Orig) →
    row_of (with_new_row t.origs (next_orig_number t) new) (next_orig_number t) ≡ Some new) where
  -- ---- what is over, and what was won

  -- nobody names an origination that is over
  over_names : (s : Switch) (orig : ℕ) → AllLively s → IsOver before s orig → (slot : ℕ) (c : Chan) → chan_at s slot ≡ Some c →
      c.leg_of ≡ Some orig → ⊥
  over_names s orig lively over slot c there names =
      let was = over.named slot c there names in
      let leg : IsLegIn before slot orig =
      leg_in before orig slot stand.distinct (berth_now before were slot orig was.0 was.1 was.2) in
      dead_names s lively slot orig c there names (over.dead leg.leg slot leg.has leg.is)

  over_berthed : (s : Switch) (orig : ℕ) → Bonds s → IsOver before s orig → Berthed s → Berthed (without_orig orig s)
  over_berthed s orig bonded over h =
      without_berthed NoSlot orig s (λ slot c there names. absurd (over_names s orig (all_lively s bonded) over slot c there names)) h

  -- nobody but the winner names the one that it has won
  winner_only : (orig : ℕ) (leg : OrigLeg) (slots : List ℕ) → HasWon before orig leg slots → AllLively (raced slots before) →
      (slot : ℕ) (c : Chan) → chan_at (raced slots before) slot ≡ Some c → c.leg_of ≡ Some orig → slot ≡ unwrap_or leg.slot 0
  winner_only orig leg slots won lively slot c there names = by (won.others other.leg slot other.has other.is)
    where
      from : CameFrom before slot c
      from = came_hung (map (λ loser. (loser, LoseRace)) slots) before before (came_self before) slot c there

      other : IsLegIn before slot orig
      other =
          leg_in before orig slot stand.distinct (berth_now before were slot orig from.was from.there (from.less.names orig names))

      by : (other.has.position ≡ won.has.position) ⊎ (lives_at (raced slots before) slot ≡ false) → slot ≡ unwrap_or leg.slot 0
      by (inl same) =
          let its : other.has.orig ≡ won.has.orig =
          same_Some other.has.orig won.has.orig (sym other.has.there ∙ won.has.there) in
          let it : other.leg ≡ leg =
          same_Some other.leg leg
          (sym other.has.at
          ∙ (ap (λ (x : Orig). slice_get x.legs other.has.position) its ∙ (ap (slice_get won.has.orig.legs) same ∙ won.has.at))) in
          ap (λ (found : Option ℕ). unwrap_or found 0) (sym other.is ∙ ap (λ (x : OrigLeg). x.slot) it)
      by (inr dead) = absurd (dead_names (raced slots before) lively slot orig c there names dead)

  winner_open : (orig : ℕ) (leg : OrigLeg) (slots : List ℕ) → HasWon before orig leg slots → Bonds (raced slots before) →
      Berthed (raced slots before) → BerthedBut (λ slot. slot ≡ unwrap_or leg.slot 0) (roles_of (without_orig orig (raced slots before)))
  winner_open orig leg slots won bonded h =
      without_berthed (λ slot. slot ≡ unwrap_or leg.slot 0) orig (raced slots before)
      (winner_only orig leg slots won (all_lively (raced slots before) bonded)) h

  -- it does what a job asks of it
  winning_berthed : (winner : Winner) (orig : ℕ) (leg : OrigLeg) (slots : List ℕ) → HasWon before orig leg slots →
      Bonds (raced slots before) → Berthed (raced slots before) →
      Berthed (without_orig orig (after_winning winner (unwrap_or leg.slot 0) (raced slots before)))
  winning_berthed winner orig leg slots won bonded h =
      let s : Switch = raced slots before in
      let at : ℕ = unwrap_or leg.slot 0 in
      let stands : IsLegOf s.channels (berthed orig leg.slot) = winning_leg before orig leg slots won stand in
      let there : chan_at s at ≡ Some stands.chan = ap (λ (which : Option ℕ). chan_at s (unwrap_or which 0)) stands.is ∙ stands.there in
      subst (λ (r : Roles). BerthedBut NoSlot (record r { origs = without_row r.origs orig })) (sym (won_roles winner at stands.chan s there))
      (close_berthed (roles_of (without_orig orig s)) at (won_by winner stands.chan) (won_lone winner stands.chan)
      (winner_open orig leg slots won bonded h))

  -- it is joined to the channel that dialed it
  bridge_won_berthed : (slot orig : ℕ) (leg : OrigLeg) (slots : List ℕ) → awaits slot orig (raced slots before) ≡ true →
      HasWon before orig leg slots → Bonds (raced slots before) → Awaits (raced slots before) → Berthed (raced slots before) →
      Berthed (after_bridge_win slot (unwrap_or leg.slot 0) (without_orig orig (raced slots before)))
  bridge_won_berthed slot orig leg slots awaited won bonded owners h =
      let at : ℕ = unwrap_or leg.slot 0 in
      joinable_won_kept (λ (t : Switch). BerthedBut (λ seat. seat ≡ at) (roles_of t)) Berthed (berthed_touches (λ seat. seat ≡ at)) slot at
      (λ t can k. media_berthed at (joined_as Dial slot at t) (joined_berthed (λ seat. seat ≡ at) Dial slot at t k))
      (without_orig orig (raced slots before)) (winner_joins before slot orig leg slots stand left won bonded owners awaited)
      (winner_open orig leg slots won bonded h)

  -- ---- the fact

  abbrev Berthing : Fact
  Berthing b t = Q b t × Berthed t

  berthing_touches : KeptByTouches Berthing
  berthing_touches = record {
    told = λ event plain h. (kept.calls.touches.told event plain h.0, h.1);
    globals = λ globals h. (kept.calls.touches.globals globals h.0, h.1);
    changed = λ slot old new {b = b} {s = s} there stays h. (
      kept.calls.touches.changed slot old new there stays h.0,
      (berthed_touches NoSlot).changed slot old new {b = b} {s = s} there stays h.1,
    );
    answers = λ seat slot number {b = b} {s = s} h. (
      kept.calls.touches.answers seat slot number h.0,
      (berthed_touches NoSlot).answers seat slot number {b = b} {s = s} h.1,
    );
  }

  berthing_calls : KeptByCalls Berthing
  berthing_calls = record {
    touches = berthing_touches;
    hung = λ named {s = s} early h. (
      kept.calls.hung named early.0 h.0,
      hung_berthed named s (legs (Some 0) s h.0) (zero (Some 0) s h.0) (bonds (Some 0) s h.0) h.1,
    );
    joined = λ kind caller answerer c d {s = s} can there other one two first second was h. (
      kept.calls.joined kind caller answerer c d can there other one two first second (none_joined_by was (λ t k. k.0)) h.0,
      joined_berthed NoSlot kind caller answerer s h.1,
    );
    departs = λ slots {s = s} early h. (
      kept.calls.departs slots early.0 h.0,
      departed_berthed slots s (legs (Some 0) s h.0) (zero (Some 0) s h.0) (bonds (Some 0) s h.0) h.1,
    );
    more = λ h. (kept.calls.more h.0, h.1);
    gone = λ slot old {s = s} there dead early h. (
      kept.calls.gone slot old there dead early.0 h.0,
      λ at number c is names. h.1 at number c (kept_without s.channels slot at c is).1 names,
    );
  }

  -- ---- what begins and ends jobs

  originated_berthed : (who : Giver) (groups : List (List LegPlan)) (winner : Winner) (caller : Caller) (timeout : Option ℕ) (s : Switch) →
      is_full_of_jobs s ≡ false → Berthing None s → Berthed (originate_begun who groups winner caller timeout s)
  originated_berthed who groups winner caller timeout s free h =
      let number : ℕ = next_orig_number s in
      let made : MadeGroup = group_made (first_group groups) caller number s in
      let by : Owner = owner.Job (job_number who made.state) in
      let new : Orig = new_orig by groups made.legs (moment_after made.state.moment (seconds (unwrap_or timeout 60))) in
      begun_by_job who (Originate number winner caller) (orig_begun by groups made.legs (unwrap_or timeout 60) made.state)
      (begun_berthed (first_group groups) caller s new refl (room_for_job s h.0 free new) h.1)

  -- where nobody lives, nobody names an origination
  names_none : (s : Switch) → AreDead s → Q (Some 0) s → (slot number : ℕ) (c : Chan) → chan_at s slot ≡ Some c → c.leg_of ≡ Some number → ⊥
  names_none s dead q slot number c there names =
      dead_names s (all_lively s (bonds (Some 0) s q)) slot number c there names (dead slot)

  berthing_api : (by : Giver) → KeptByApi by Q → KeptByApi by Berthing
  berthing_api by q = record {
    spent = λ h. (q.spent h.0, h.1);
    draws = λ h. (q.draws h.0, h.1);
    waits = λ what {s = s} wait may free h. (
      q.waits what wait (goes_on_by Berthing Q by s may (λ t k. k.0)) free h.0,
      begun_by_job by what s h.1,
    );
    originates = λ groups winner caller timeout {s = s} may are short free h. (
      q.originates groups winner caller timeout (goes_on_by Berthing Q by s may (λ t k. k.0)) are short free h.0,
      originated_berthed by groups winner caller timeout s free h,
    );
    leavings = λ h. (q.leavings h.0, h.1);
    ends = λ reply notice {s = s} dead h. (
      q.ends reply notice dead h.0,
      λ slot number c there names. absurd (names_none s dead h.0 slot number c there names),
    );
  }

  berthing_jobs : KeptByJobs before Berthing
  berthing_jobs = record {
    out = λ number job does h. (kept.jobs.out number job does h.0, h.1);
    runs = λ number job. berthing_api (giver.Job number job) (kept.jobs.runs number job);
    woken = λ number who what answer {s = s} wait does h. (
      kept.jobs.woken number who what answer wait does h.0,
      ended_berthed number who answer s h.1,
    );
    failed = λ job who winner caller orig cause {s = s} does over h. (
      kept.jobs.failed job who winner caller orig cause does over h.0,
      ended_berthed job who (failed_text cause) (without_orig orig s) (over_berthed s orig (bonds (Some 0) s h.0) over h.1),
    );
    wins = λ job who winner caller orig leg slots does won h.
        let s : Switch = raced slots before in (
          kept.jobs.wins job who winner caller orig leg slots does won h.0,
          ended_berthed job who (made_text leg.uuid) (without_orig orig (after_winning winner (unwrap_or leg.slot 0) s))
              (winning_berthed winner orig leg slots won (bonds (Some 0) s h.0) h.1),
        );
  }

  -- ---- channels that dial

  dialed_berthed : (slot : ℕ) (c : Chan) (groups : List (List LegPlan)) (timeout : ℕ) (s : Switch) → chan_at s slot ≡ Some c →
      awaited_by c ≡ None → Berthing None s →
      Berthed (tried_by_slot slot groups timeout (next_orig_number s) (group_dialed (Some c) (first_group groups) (next_orig_number s) s))
  dialed_berthed slot c groups timeout s there none h =
      let number : ℕ = next_orig_number s in
      let plans : List LegPlan = all_behind (exported_pairs c.vars) (first_group groups) in
      let made : MadeGroup = group_made plans (caller_of c) number s in
      let begun : Switch = orig_begun (owner.Slot slot) groups made.legs timeout made.state in
      let new : Orig = new_orig (owner.Slot slot) groups made.legs (moment_after made.state.moment (seconds timeout)) in
      let k : Berthed begun = begun_berthed plans (caller_of c) s new refl (room s h.0 slot c there none new) h.1 in
      moved_there Berthed (λ event t j. j) (awaiting number) slot begun
      (λ d is. put_berthed NoSlot (roles_of begun) slot d (awaiting number d) is (λ n names. names) k) k

  berthing_dials : KeptByDials before Berthing
  berthing_dials = record {
    spent = λ h. (kept.dials.spent h.0, h.1);
    dials = λ slot c groups timeout {s = s} there works are h. (
      kept.dials.dials slot c groups timeout there works are h.0,
      dialed_berthed slot c groups timeout s there (free_dials c works.free) h,
    );
    regroups = λ number o plans caller {s = s} there are h. (
      kept.dials.regroups number o plans caller there are h.0,
      regrouped_berthed number o plans caller s there are.enters (legs (Some 0) s h.0) h.1,
    );
    fails = λ slot orig cause {s = s} awaited over h. (
      kept.dials.fails slot orig cause awaited over h.0,
      failed_berthed cause slot (without_orig orig s) (without_legs orig s (legs (Some 0) s h.0)) (zero (Some 0) s h.0)
          (bonds (Some 0) s h.0) (over_berthed s orig (bonds (Some 0) s h.0) over h.1),
    );
    wins = λ slot orig leg slots awaited won h.
        let s : Switch = raced slots before in (
          kept.dials.wins slot orig leg slots awaited won h.0,
          bridge_won_berthed slot orig leg slots awaited won (bonds (Some 0) s h.0) (waits (Some 0) s h.0) h.1,
        );
  }

  -- ---- commands

  berthing_commands : (conn : ℕ) → KeptByCommands conn Berthing
  berthing_commands conn = record {
    api = berthing_api (giver.Conn conn) (kept.commands conn).api;
    noticed = λ frame h. ((kept.commands conn).noticed frame h.0, h.1);
    gave = λ frame h. ((kept.commands conn).gave frame h.0, h.1);
    asked = λ change {s = s} h. ((kept.commands conn).asked change h.0, conn_berthed (with_subs_changed change) conn s h.1);
    admitted = λ {s = s} fresh h. ((kept.commands conn).admitted fresh h.0, conn_berthed admitted conn s h.1);
    parted = λ why {s = s} leaves was h.
        ((kept.commands conn).parted why leaves (let_go_by was (λ t k. k.0)) h.0, conn_berthed (parted why) conn s h.1);
    backgrounds = λ given command {s = s} free h. (
      (kept.commands conn).backgrounds given command free h.0,
      roles_berthed s (background_begun given command s) (background_roles given command s) h.1,
    );
  }

  pub berthing_moves : KeptByMoves before (λ b t. Q b t × Berthed t)
  berthing_moves = record {
    calls = berthing_calls;
    jobs = berthing_jobs;
    dials = berthing_dials;
    commands = berthing_commands;
    visits = record {
      arrived = λ h. (kept.visits.arrived h.0, h.1);
      taken = λ conn h. (kept.visits.taken conn h.0, h.1);
      holds = λ slot c text {s = s} there waits free h. (
        kept.visits.holds slot c text there waits free h.0,
        put_berthed NoSlot (roles_of s) slot c (held_by (coming_number s) c) there (λ number is. is) h.1,
      );
      silent = λ conn {s = s} was h.
          (kept.visits.silent conn (let_go_by was (λ t k. k.0)) h.0, conn_berthed (parted parting.EndOfInput) conn s h.1);
      left = λ conn was h. (kept.visits.left conn (let_go_by was (λ t k. k.0)) h.0, h.1);
      halted = λ reply notice {s = s} dead h. (
        kept.visits.halted reply notice dead h.0,
        λ slot number c there names. absurd (names_none s dead h.0 slot number c there names),
      );
    };
  }
