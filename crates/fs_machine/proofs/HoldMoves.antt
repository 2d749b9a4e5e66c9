-- Each act leaves it so that whoever waits for the end of a bridge names a peer.
use Rattle.std.proofs.Common.{◌≡◌, ℕ, true, Bool, false, List, [], ◌∷◌, Option, None, Some, is_some, unwrap_or}
use Rattle.std.proofs.Common.{◌⊎◌, inl, inr, refl, sym, ap, subst, ◌∙◌}
use Rattle.std.proofs.lemmas.Option.{same_Some}
use Rattle.fs_text.specs.Texts.{Text}
use Rattle.fs_text.specs.Cause.{cause_name}
use Rattle.fs_text.specs.declared.causes.Cause.{Cause}
use Rattle.fs_bridge.specs.declared.row.BridgeKind.{BridgeKind}
use Rattle.fs_bridge.specs.declared.row.BridgeKind.TheVariants.{Dial}
use Rattle.fs_bridge.specs.Closure.{Members}
use Rattle.fs_chan.specs.declared.chan.Chan.{Chan}
use Rattle.fs_chan.specs.declared.wait.Wait.{Wait}
use Rattle.fs_chan.specs.declared.wait.Wait.TheVariants.{Ready, Legs, Bridged}
use Rattle.fs_chan.specs.Bridging.{awaiting, exported_pairs, bridged, in_media, with_disposition}
use Rattle.fs_chan.specs.Changes.{at_rest}
use Rattle.fs_chan.specs.Controlling.{held_by}
use Rattle.fs_orig.specs.declared.caller.Caller.{Caller}
use Rattle.fs_orig.specs.declared.orig.Orig.{Orig}
use Rattle.fs_orig.specs.declared.orig.Owner.TheVariants as owner
use Rattle.fs_orig.specs.declared.plan.LegPlan.{LegPlan}
use Rattle.fs_orig.specs.declared.winner.Winner.{Winner}
use Rattle.fs_orig.specs.declared.winner.Winner.TheVariants.{App, Route}
use Rattle.fs_orig.specs.Changes.{with_answer, at_next_group}
use Rattle.fs_orig.specs.Plans.{all_behind}
use Rattle.fs_seats.specs.Seats.{held_in, with_held}
use Rattle.fs_seats.proofs.TableLemmas.{IsWrittenOrKept, written_or_kept, kept_without}
use Rattle.fs_state.specs.declared.conn.Conn.{Conn}
use Rattle.fs_state.specs.declared.conn.Parting.TheVariants as parting
use Rattle.fs_state.specs.declared.job.Asker.{Asker}
use Rattle.fs_state.specs.declared.job.Asker.TheVariants as asker
use Rattle.fs_state.specs.declared.job.JobWork.{JobWork}
use Rattle.fs_state.specs.declared.job.JobWork.TheVariants.{Originate}
use Rattle.fs_state.specs.Switch.{Switch, chan_at, with_bridge, next_orig_number, without_orig, with_new_job, without_job}
use Rattle.fs_state.specs.Moves.{after_move, orig_changed, leg_changed}
use Rattle.fs_state.specs.Hangups.{after_hangups}
use Rattle.fs_state.specs.Bridging.{peer_of, with_peer_from, with_peer, joined_as}
use Rattle.fs_machine.specs.Texts.{made_text, failed_text}
use Rattle.fs_machine.specs.Connections.{conn_changed, admitted, parted, owed_since, not_owed, with_subs_changed}
use Rattle.fs_machine.specs.Controlling.{coming_number}
use Rattle.fs_machine.specs.Originations.{MadeGroup, group_made, won_by, after_winning}
use Rattle.fs_machine.specs.Attempts.{first_group, orig_begun, originate_begun}
use Rattle.fs_machine.specs.Bridging.{caller_of, group_dialed, goes_on, after_going_on, disposed, bridge_failed_from, after_bridge_failure}
use Rattle.fs_machine.specs.Bridging.{after_bridge_win}
use Rattle.fs_machine.specs.Dialing.{tried_by_slot}
use Rattle.fs_machine.specs.Joining.{after_departures}
use Rattle.fs_machine.specs.declared.owing.Giver.{Giver}
use Rattle.fs_machine.specs.declared.owing.Giver.TheVariants as giver
use Rattle.fs_machine.specs.Owing.{job_number, after_job_begin, background_begun, after_job_end}
use Rattle.fs_machine.proofs.Kept.{Stage, Fact, hold_in, Links, Keeps, KeptByTouches, KeptByCalls, KeptByBirths, raced, KeptByJobs, KeptByDials}
use Rattle.fs_machine.proofs.Kept.{none_joined_by, goes_on_by, let_go_by, KeptByApi, KeptByCommands, KeptByMoves}
use Rattle.fs_machine.proofs.StayLemmas.{moved_there, changed_there, orig_changed_channels, held_keeps}
use Rattle.fs_machine.proofs.CameLemmas.{rest_holds}
use Rattle.fs_machine.proofs.ClosureLemmas.{NoneAtZero}
use Rattle.fs_machine.proofs.NameLemmas.{leg_chan, far_chan, pair_channels}
use Rattle.fs_machine.proofs.Walk.{disposed_kept, group_made_kept}
use Rattle.fs_machine.proofs.FrontLemmas.{conn_unread}
use Rattle.fs_machine.proofs.WonLemmas.{bridge_won_kept}
use Rattle.fs_machine.proofs.LegLemmas.{Channels}
use Rattle.fs_machine.proofs.PartnerMoves.{zero_put, not_zero}
use Rattle.fs_machine.proofs.BondTables.{Bonds, Bonding, NoSlot}
use Rattle.fs_machine.proofs.BondMoves.{bonds_touches}
use Rattle.fs_machine.proofs.HoldLemmas.{IsUnheld, HeldBut, held_lives, hung_held, departed_held}

-- ---- the fact

-- whoever waits for the end of a bridge names a peer
abbrev pub IsHeld : Chan → Type 0
IsHeld c = c.wait ≡ Bridged → is_some c.peer ≡ true

abbrev pub HeldIn : Channels → Type 0
HeldIn channels = (slot : ℕ) (c : Chan) → held_in channels slot ≡ Some c → IsHeld c

abbrev pub AllHeld : Switch → Type 0
AllHeld s = HeldIn s.channels

pub as_but : (s : Switch) → AllHeld s → HeldBut NoSlot s
as_but s h slot c there held = inr (h slot c there held)

as_all : (s : Switch) → HeldBut NoSlot s → AllHeld s
as_all s h slot c there held = by (h slot c there held)
  where
    by : NoSlot slot ⊎ (is_some c.peer ≡ true) → is_some c.peer ≡ true
    by (inl none) = absurd none
    by (inr some) = some

-- ---- one channel

free_held : (c : Chan) → IsUnheld c → IsHeld c
free_held c free held = absurd (free held)

-- held by a bridge it waits for the end of it
pub hold_bridged : (wait : Wait) → hold_in wait ≡ Bridged → wait ≡ Bridged
hold_bridged (Legs orig) is = absurd (cc)
hold_bridged Bridged is = refl
hold_bridged _ is = absurd (let both : Ready ≡ Bridged = is in cc)

keeps_held : {b : Stage} (old new : Chan) → Keeps b old new → IsHeld old → IsHeld new
keeps_held old new keeps h held =
    ap (λ (l : Links). is_some l.peer) keeps.links
    ∙ h (hold_bridged old.wait (sym (ap (λ (l : Links). l.hold) keeps.links) ∙ ap hold_in held))

put_held : (channels : Channels) (seat : ℕ) (new : Chan) → IsHeld new → HeldIn channels → HeldIn (with_held channels seat (Some new))
put_held channels seat new held h slot c is = by (written_or_kept channels seat (Some new) slot c is)
  where
    by : IsWrittenOrKept channels seat (Some new) slot c → IsHeld c
    by (inl here) = subst IsHeld (same_Some new c here.1) held
    by (inr kept) = h slot c kept.1

moved_held : (change : Chan → Chan) (slot : ℕ) (s : Switch) → ((c : Chan) → IsHeld c → IsHeld (change c)) → AllHeld s →
    AllHeld (after_move change slot s)
moved_held change slot s keeps h =
    moved_there AllHeld (λ event t k. k) change slot s
    (λ c there. put_held s.channels slot (change c) (keeps c (h slot c there)) h) h

changed_orig_held : (change : Orig → Orig) (number : ℕ) (s : Switch) → AllHeld s → AllHeld (orig_changed change number s)
changed_orig_held change number s h = subst HeldIn (sym (orig_changed_channels change number s)) h

held_touches : KeptByTouches (λ b s. AllHeld s)
held_touches = record {
  told = λ event plain h. h;
  globals = λ globals h. h;
  changed = λ slot old new {s = s} there stays h. put_held s.channels slot new (keeps_held old new stays.keeps (h slot old there)) h;
  answers = λ seat slot number {s = s} h.
      changed_orig_held (leg_changed (λ position. with_answer position seat) slot) number s h;
}

-- ---- bridges

peer_held : (slot other : ℕ) (s : Switch) → AllHeld s → AllHeld (with_peer slot other s)
peer_held slot other s h = by (chan_at s other)
  where
    by : (found : Option Chan) → AllHeld (with_peer_from slot other found s)
    by None = h
    by (Some d) =
        changed_there AllHeld (bridged (peer_of other d)) slot s
        (λ c there. put_held s.channels slot (bridged (peer_of other d) c) (λ held. refl) h) h

joined_held : (kind : BridgeKind) (a b : ℕ) (s : Switch) → AllHeld s → AllHeld (joined_as kind a b s)
joined_held kind a b s h =
    peer_held b a (with_peer a b (with_bridge a b kind s)) (peer_held a b (with_bridge a b kind s) h)

won_held : (slot leg : ℕ) (s : Switch) → AllHeld s → AllHeld (after_bridge_win slot leg s)
won_held slot leg s h =
    bridge_won_kept AllHeld AllHeld held_touches slot leg
    (λ t can k. moved_held in_media leg (joined_as Dial slot leg t) (λ c held. held) (joined_held Dial slot leg t k)) (λ t cannot k. k) s h

hung_all : (named : Members) (s : Switch) → Bonds s → NoneAtZero s → AllHeld s → AllHeld (after_hangups named s)
hung_all named s bonds zero h =
    as_all (after_hangups named s) (hung_held NoSlot named s bonds zero (held_lives s bonds (as_but s h)) (as_but s h))

-- a channel has failed to bridge
failed_held : (cause : Cause) (slot : ℕ) (s : Switch) → Bonds s → NoneAtZero s → AllHeld s → AllHeld (after_bridge_failure cause slot s)
unfolding after_bridge_failure
failed_held cause slot s bonds zero h = by (chan_at s slot)
  where
    t : Switch
    t = disposed (cause_name cause) slot s

    told : AllHeld t
    told = disposed_kept (λ b u. AllHeld u) held_touches (cause_name cause) slot {b = None} {s = s} h

    bonded : Bonds t
    bonded = disposed_kept Bonding bonds_touches (cause_name cause) slot {b = None} {s = s} bonds

    none : NoneAtZero t
    none =
        changed_there NoneAtZero (with_disposition (cause_name cause)) slot s
        (λ c there. zero_put s slot (Some (with_disposition (cause_name cause) c)) (not_zero s slot c there zero) zero) zero

    on : (onward : Bool) → AllHeld (after_going_on onward cause slot t)
    on true = moved_held at_rest slot t (λ c held. free_held (at_rest c) (rest_holds c.socket c.state)) told
    on false = hung_all ((slot, cause) ∷ []) t bonded none told

    by : (found : Option Chan) → AllHeld (bridge_failed_from found cause slot s)
    by None = h
    by (Some c) = on (goes_on cause c.vars)

-- ---- births

ready_held : (c : Chan) → c.wait ≡ Ready → IsHeld c
ready_held c ready = free_held c (λ held. let both : Ready ≡ Bridged = sym ready ∙ held in cc)

held_births : KeptByBirths (λ b s. AllHeld s)
held_births = record {
  spent = λ h. h;
  pair = λ call orig a b {s = s} short named first second h.
      subst HeldIn (sym (pair_channels call orig a b s))
      (put_held (with_held s.channels a (Some (leg_chan call orig a b s))) b (far_chan call orig a b s)
      (ready_held (far_chan call orig a b s) refl)
      (put_held s.channels a (leg_chan call orig a b s) (ready_held (leg_chan call orig a b s) refl) h));
}

group_held : (plans : List LegPlan) (caller : Caller) (number : ℕ) (s : Switch) → AllHeld s →
    AllHeld (group_made plans caller number s).state
group_held plans caller number s h = group_made_kept (λ b t. AllHeld t) held_births plans caller number {s = s} h

dialed_held : (slot : ℕ) (c : Chan) (groups : List (List LegPlan)) (timeout : ℕ) (s : Switch) → AllHeld s →
    AllHeld (tried_by_slot slot groups timeout (next_orig_number s) (group_dialed (Some c) (first_group groups) (next_orig_number s) s))
dialed_held slot c groups timeout s h =
    let number : ℕ = next_orig_number s in
    let plans : List LegPlan = all_behind (exported_pairs c.vars) (first_group groups) in
    let made : MadeGroup = group_made plans (caller_of c) number s in
    moved_held (awaiting number) slot (orig_begun (owner.Slot slot) groups made.legs timeout made.state)
    (λ d held. free_held (awaiting number d) (λ is. let both : Legs number ≡ Bridged = is in cc)) (group_held plans (caller_of c) number s h)

-- ---- jobs and connections

conn_held : (change : Conn → Conn) (conn : ℕ) (s : Switch) → AllHeld s → AllHeld (conn_changed change conn s)
conn_held change conn s h = subst HeldIn (sym (conn_unread (λ (t : Switch). t.channels) (λ conns t. refl) change conn s)) h

ended_held : (number : ℕ) (who : Asker) (answer : Text) (s : Switch) → AllHeld s → AllHeld (after_job_end number who answer s)
ended_held number (asker.Conn conn) answer s h = conn_held not_owed conn (without_job number s) h
ended_held number (asker.Background job) answer s h = h

begun_held : (by : Giver) (what : JobWork) (s : Switch) → AllHeld s → AllHeld (after_job_begin by what s)
begun_held (giver.Conn conn) what s h =
    conn_held (owed_since s.entries) conn (with_new_job (record { asker = asker.Conn conn; work = what }) s) h
begun_held (giver.Job number job) what s h = h

background_held : (given : Option Text) (command : Text) (s : Switch) → AllHeld s → AllHeld (background_begun given command s)
background_held None command s h = h
background_held (Some uuid) command s h = h

won_free : (winner : Winner) (c : Chan) → IsHeld (won_by winner c)
won_free (App application argument) c = ready_held (won_by (App application argument) c) refl
won_free (Route to) c = ready_held (won_by (Route to) c) refl

winning_held : (winner : Winner) (slot : ℕ) (s : Switch) → AllHeld s → AllHeld (after_winning winner slot s)
unfolding after_winning
winning_held winner slot s h = moved_held (won_by winner) slot s (λ c held. won_free winner c) h

originated_held : (by : Giver) (groups : List (List LegPlan)) (winner : Winner) (caller : Caller) (timeout : Option ℕ) (s : Switch) →
    AllHeld s → AllHeld (originate_begun by groups winner caller timeout s)
originated_held by groups winner caller timeout s h =
    let number : ℕ = next_orig_number s in
    let made : MadeGroup = group_made (first_group groups) caller number s in
    begun_held by (Originate number winner caller)
    (orig_begun (owner.Job (job_number by made.state)) groups made.legs (unwrap_or timeout 60) made.state)
    (group_held (first_group groups) caller number s h)

-- ---- every move

module _ (before : Switch) (Q : Fact) (kept : KeptByMoves before Q) (bonds : (b : Stage) (t : Switch) → Q b t → Bonds t)
    (zero : (b : Stage) (t : Switch) → Q b t → NoneAtZero t) where
  abbrev Holding : Fact
  Holding b t = Q b t × AllHeld t

  holding_touches : KeptByTouches Holding
  holding_touches = record {
    told = λ event {b = b} {s = s} plain h. (kept.calls.touches.told event plain h.0, h.1);
    globals = λ globals h. (kept.calls.touches.globals globals h.0, h.1);
    changed = λ slot old new {b = b} {s = s} there stays h. (
      kept.calls.touches.changed slot old new there stays h.0,
      held_touches.changed slot old new {b = b} {s = s} there stays h.1,
    );
    answers = λ seat slot number {b = b} {s = s} h. (
      kept.calls.touches.answers seat slot number h.0,
      held_touches.answers seat slot number {b = b} {s = s} h.1,
    );
  }

  holding_calls : KeptByCalls Holding
  holding_calls = record {
    touches = holding_touches;
    hung = λ named {s = s} early h.
        (kept.calls.hung named early.0 h.0, hung_all named s (bonds (Some 0) s h.0) (zero (Some 0) s h.0) h.1);
    joined = λ kind caller answerer c d {s = s} can there other one two first second was h. (
      kept.calls.joined kind caller answerer c d can there other one two first second (none_joined_by was (λ t k. k.0)) h.0,
      joined_held kind caller answerer s h.1,
    );
    departs = λ slots {s = s} early h. (
      kept.calls.departs slots early.0 h.0,
      as_all (after_departures slots s) (departed_held slots s (bonds (Some 0) s h.0) (zero (Some 0) s h.0) (as_but s h.1)),
    );
    more = λ h. (kept.calls.more h.0, h.1);
    gone = λ slot old {s = s} there dead early h. (
      kept.calls.gone slot old there dead early.0 h.0,
      λ at c is. h.1 at c (kept_without s.channels slot at c is).1,
    );
  }

  holding_api : (by : Giver) → KeptByApi by Q → KeptByApi by Holding
  holding_api by q = record {
    spent = λ h. (q.spent h.0, h.1);
    draws = λ h. (q.draws h.0, h.1);
    waits = λ what {s = s} wait may free h. (
      q.waits what wait (goes_on_by Holding Q by s may (λ t k. k.0)) free h.0,
      begun_held by what s h.1,
    );
    originates = λ groups winner caller timeout {s = s} may are short free h. (
      q.originates groups winner caller timeout (goes_on_by Holding Q by s may (λ t k. k.0)) are short free h.0,
      originated_held by groups winner caller timeout s h.1,
    );
    leavings = λ h. (q.leavings h.0, h.1);
    ends = λ reply notice dead h. (q.ends reply notice dead h.0, h.1);
  }

  holding_jobs : KeptByJobs before Holding
  holding_jobs = record {
    out = λ number job does h. (kept.jobs.out number job does h.0, h.1);
    runs = λ number job. holding_api (giver.Job number job) (kept.jobs.runs number job);
    woken = λ number who what answer {s = s} wait does h. (
      kept.jobs.woken number who what answer wait does h.0,
      ended_held number who answer s h.1,
    );
    failed = λ job who winner caller orig cause {s = s} does over h. (
      kept.jobs.failed job who winner caller orig cause does over h.0,
      ended_held job who (failed_text cause) (without_orig orig s) h.1,
    );
    wins = λ job who winner caller orig leg slots does won h.
        let s : Switch = raced slots before in
        let t : Switch = after_winning winner (unwrap_or leg.slot 0) s in (
          kept.jobs.wins job who winner caller orig leg slots does won h.0,
          ended_held job who (made_text leg.uuid) (without_orig orig t) (winning_held winner (unwrap_or leg.slot 0) s h.1),
        );
  }

  holding_dials : KeptByDials before Holding
  holding_dials = record {
    spent = λ h. (kept.dials.spent h.0, h.1);
    dials = λ slot c groups timeout {s = s} there works are h. (
      kept.dials.dials slot c groups timeout there works are h.0,
      dialed_held slot c groups timeout s h.1,
    );
    regroups = λ number o plans caller {s = s} there are h.
        let made : MadeGroup = group_made plans caller number s in (
          kept.dials.regroups number o plans caller there are h.0,
          changed_orig_held (at_next_group made.legs) number made.state (group_held plans caller number s h.1),
        );
    fails = λ slot orig cause {s = s} waits over h. (
      kept.dials.fails slot orig cause waits over h.0,
      failed_held cause slot (without_orig orig s) (bonds (Some 0) s h.0) (zero (Some 0) s h.0) h.1,
    );
    wins = λ slot orig leg slots waits won h. (
      kept.dials.wins slot orig leg slots waits won h.0,
      won_held slot (unwrap_or leg.slot 0) (without_orig orig (raced slots before)) h.1,
    );
  }

  holding_commands : (conn : ℕ) → KeptByCommands conn Holding
  holding_commands conn = record {
    api = holding_api (giver.Conn conn) (kept.commands conn).api;
    noticed = λ frame h. ((kept.commands conn).noticed frame h.0, h.1);
    gave = λ frame h. ((kept.commands conn).gave frame h.0, h.1);
    asked = λ change {s = s} h. ((kept.commands conn).asked change h.0, conn_held (with_subs_changed change) conn s h.1);
    admitted = λ {s = s} new h. ((kept.commands conn).admitted new h.0, conn_held admitted conn s h.1);
    parted = λ why {s = s} leaves was h.
        ((kept.commands conn).parted why leaves (let_go_by was (λ t k. k.0)) h.0, conn_held (parted why) conn s h.1);
    backgrounds = λ given command {s = s} free h. (
      (kept.commands conn).backgrounds given command free h.0,
      background_held given command s h.1,
    );
  }

  pub holding_moves : KeptByMoves before (λ b t. Q b t × AllHeld t)
  holding_moves = record {
    calls = holding_calls;
    jobs = holding_jobs;
    dials = holding_dials;
    commands = holding_commands;
    visits = record {
      arrived = λ h. (kept.visits.arrived h.0, h.1);
      taken = λ conn h. (kept.visits.taken conn h.0, h.1);
      holds = λ slot c text {s = s} there waits free h. (
        kept.visits.holds slot c text there waits free h.0,
        put_held s.channels slot (held_by (coming_number s) c)
            (keeps_held c (held_by (coming_number s) c) (held_keeps {b = None} (coming_number s) c text waits) (h.1 slot c there)) h.1,
      );
      silent = λ conn {s = s} was h.
          (kept.visits.silent conn (let_go_by was (λ t k. k.0)) h.0, conn_held (parted parting.EndOfInput) conn s h.1);
      left = λ conn was h. (kept.visits.left conn (let_go_by was (λ t k. k.0)) h.0, h.1);
      halted = λ reply notice dead h. (kept.visits.halted reply notice dead h.0, h.1);
    };
  }
