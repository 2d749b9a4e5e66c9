-- Each act leaves it so that whoever waits for an origination lives and owns it.
use Rattle.std.proofs.Common.{◌≡◌, ℕ, ◌+◌, ◌-◌, ◌^◌, min, true, if◌then◌else◌, Bool, false, List, Option, None, Some, unwrap_or, ◌⊎◌, inl}
use Rattle.std.proofs.Common.{inr, refl, sym, ap, subst, ◌∙◌, length, true≢false}
use Rattle.std.proofs.lemmas.Option.{same_Some}
use Rattle.fs_text.specs.Texts.{Text}
use Rattle.fs_bridge.specs.Bridges.{has_number_left}
use Rattle.fs_chan.specs.declared.chan.Chan.{Chan}
use Rattle.fs_chan.specs.declared.wait.Wait.{Wait}
use Rattle.fs_chan.specs.declared.wait.Wait.TheVariants.{Ready, Legs, Bridged}
use Rattle.fs_chan.specs.Bridging.{awaiting, awaited_in, awaited_by, exported_pairs}
use Rattle.fs_chan.specs.Changes.{is_live}
use Rattle.fs_orig.specs.declared.caller.Caller.{Caller}
use Rattle.fs_orig.specs.declared.leg.OrigLeg.{OrigLeg}
use Rattle.fs_orig.specs.declared.orig.Orig.{Orig}
use Rattle.fs_orig.specs.declared.orig.Owner.TheVariants as owner
use Rattle.fs_orig.specs.declared.plan.LegPlan.{LegPlan}
use Rattle.fs_orig.specs.declared.winner.Winner.{Winner}
use Rattle.fs_orig.specs.declared.winner.Winner.TheVariants.{App, Route}
use Rattle.fs_orig.specs.Changes.{new_orig, may_enter_next, at_next_group}
use Rattle.fs_orig.specs.Plans.{all_behind}
use Rattle.fs_seats.specs.Seats.{no_seats, held_in, with_held}
use Rattle.fs_seats.specs.Rows.{row_of, with_new_row}
use Rattle.fs_state.specs.declared.conn.Conn.{Conn}
use Rattle.fs_state.specs.declared.conn.Parting.TheVariants as parting
use Rattle.fs_state.specs.declared.job.Asker.{Asker}
use Rattle.fs_state.specs.declared.job.JobWork.{JobWork}
use Rattle.fs_state.specs.declared.job.JobWork.TheVariants.{Originate}
use Rattle.fs_state.specs.Switch.{Switch, chan_at, with_new_conn, without_orig, next_orig_number}
use Rattle.fs_state.specs.Hangups.{lives}
use Rattle.fs_state.specs.Moves.{after_move}
use Rattle.fs_state.proofs.LegTables.{Origs}
use Rattle.fs_machine.specs.declared.call.Call.{Call}
use Rattle.fs_machine.specs.Texts.{made_text, failed_text}
use Rattle.fs_machine.specs.Connections.{conn_changed, admitted, parted, with_subs_changed}
use Rattle.fs_machine.specs.Controlling.{coming_number, controller}
use Rattle.fs_machine.specs.Originations.{seconds, pair_made, MadeGroup, group_made, won_by, after_winning}
use Rattle.fs_machine.specs.Attempts.{first_group, orig_begun, originate_begun, with_group}
use Rattle.fs_machine.specs.Bridging.{caller_of, group_dialed}
use Rattle.fs_machine.specs.Dialing.{tried_by_slot}
use Rattle.fs_machine.specs.declared.owing.Giver.{Giver}
use Rattle.fs_machine.specs.declared.owing.Giver.TheVariants as giver
use Rattle.fs_machine.specs.Owing.{job_number, after_job_begin, background_begun, after_job_end}
use Rattle.fs_chan.specs.Moments.{moment_after}
use Rattle.fs_machine.proofs.Kept.{Stage, hold_in, Fact, KeptByTouches, KeptByCalls, KeptByBirths, DoesJob, raced, KeptByJobs, KeptByDials}
use Rattle.fs_machine.proofs.Kept.{none_joined_by, AreDead, goes_on_by, let_go_by, KeptByApi, KeptByCommands, KeptByMoves}
use Rattle.fs_machine.proofs.StayLemmas.{moved_there}
use Rattle.fs_machine.proofs.NameLemmas.{leg_chan, far_chan, pair_channels}
use Rattle.fs_machine.proofs.Walk.{group_made_kept}
use Rattle.fs_machine.proofs.LegLemmas.{Channels, Roles, roles_of, LegsStand}
use Rattle.fs_machine.proofs.LegBirths.{pair_roles, pair_spares}
use Rattle.fs_machine.proofs.LegMoves.{conn_roles, begun_roles, background_roles, ended_roles}
use Rattle.fs_machine.proofs.OwnerLemmas.{KeepsOwner}
use Rattle.fs_machine.proofs.BondTables.{Bonds, NoSlot, Stood, stood}
use Rattle.fs_machine.proofs.JoinableLemmas.{winner_joins}
use Rattle.fs_machine.proofs.AwaitedTables.{HasOwner, Await, awaits_none, new_await, left_await, rows_await, stay_new, gone_await}
use Rattle.fs_machine.proofs.AwaitedLemmas.{Awaits, touches_await, moved_await, orig_changed_await, hung_await, failed_await, won_await}
use Rattle.fs_machine.proofs.AwaitedLemmas.{taken_await, joined_await, departed_await, without_await}

-- ---- births

pair_await : (call : Call) (orig a b : ℕ) (s : Switch) → Awaits s → Awaits (pair_made call orig a b s)
pair_await call orig a b s h =
    subst (λ (origs : Origs). Await NoSlot (pair_made call orig a b s).channels origs)
    (sym (ap (λ (r : Roles). r.origs) (pair_roles call orig a b s)))
    (subst (λ (channels : Channels). Await NoSlot channels s.origs) (sym (pair_channels call orig a b s))
    (new_await NoSlot (with_held s.channels a (Some (leg_chan call orig a b s))) s.origs b (far_chan call orig a b s) refl
    (new_await NoSlot s.channels s.origs a (leg_chan call orig a b s) refl h)))

-- behind births the originations are the same, and the channel of a slot is there still
record Born (s : Switch) (slot : ℕ) (held : Option Chan) (t : Switch) : Type 0 where
  awaits : Awaits t
  origs : t.origs ≡ s.origs
  drawn : t.drawn.origs ≡ s.drawn.origs
  there : (c : Chan) → held ≡ Some c → chan_at t slot ≡ Some c

births_born : (s : Switch) (slot : ℕ) (held : Option Chan) → KeptByBirths (λ b t. Born s slot held t)
births_born s slot held = record {
  spent = λ h. h;
  pair = λ call orig a b {s = t} short named first second h. record {
    awaits = pair_await call orig a b t h.awaits;
    origs = ap (λ (r : Roles). r.origs) (pair_roles call orig a b t) ∙ h.origs;
    drawn = ap (λ (r : Roles). r.drawn) (pair_roles call orig a b t) ∙ h.drawn;
    there = λ c is. pair_spares call orig a b t first second slot c (h.there c is);
  };
}

group_born : (plans : List LegPlan) (caller : Caller) (number slot : ℕ) (s : Switch) → Awaits s →
    Born s slot (chan_at s slot) (group_made plans caller number s).state
group_born plans caller number slot s h =
    group_made_kept (λ b t. Born s slot (chan_at s slot) t) (births_born s slot (chan_at s slot)) plans caller number {s = s}
    (record { awaits = h; origs = refl; drawn = refl; there = λ c is. is })

-- the next number is the same
born_number : (s t : Switch) → t.drawn.origs ≡ s.drawn.origs → next_orig_number t ≡ next_orig_number s
born_number s t same = ap (λ (n : ℕ). min (n + 1) (2 ^ 64 - 1)) same

-- ---- channels that dial

-- a channel waits for what its slot owns
dial_await : (channels : Channels) (origs : Origs) (slot number : ℕ) (c : Chan) → held_in channels slot ≡ Some c → is_live c ≡ true →
    HasOwner origs number slot → Await NoSlot channels origs → Await NoSlot (with_held channels slot (Some (awaiting number c))) origs
dial_await channels origs slot number c there live owns h = record {
  own = λ at n d is waits. own at n d waits (stood channels slot c (awaiting number c) at d there is);
  live = λ at n d is waits. lives at n d waits (stood channels slot c (awaiting number c) at d there is);
}
  where
    own : (at n : ℕ) (d : Chan) → awaited_by d ≡ Some n → Stood channels slot c (awaiting number c) at d → NoSlot at ⊎ HasOwner origs n at
    own at n d waits s = by s.was s.there s.how
      where
        by : (was : Chan) → held_in channels at ≡ Some was →
            ((at ≡ slot) × (was ≡ c) × (d ≡ awaiting number c)) ⊎ ((at ≡ slot → ⊥) × (d ≡ was)) → NoSlot at ⊎ HasOwner origs n at
        by was is (inl here) =
            let same : number ≡ n = same_Some number n (sym (ap awaited_by here.2) ∙ waits) in
            inr (subst (λ (q : ℕ). HasOwner origs n q) (sym here.0) (subst (λ (m : ℕ). HasOwner origs m slot) same owns))
        by was is (inr other) = h.own at n was is (sym (ap awaited_by other.1) ∙ waits)

    lives : (at n : ℕ) (d : Chan) → awaited_by d ≡ Some n → Stood channels slot c (awaiting number c) at d → is_live d ≡ true
    lives at n d waits s = by s.was s.there s.how
      where
        by : (was : Chan) → held_in channels at ≡ Some was →
            ((at ≡ slot) × (was ≡ c) × (d ≡ awaiting number c)) ⊎ ((at ≡ slot → ⊥) × (d ≡ was)) → is_live d ≡ true
        by was is (inl here) = ap is_live here.2 ∙ live
        by was is (inr other) = ap is_live other.1 ∙ h.live at n was is (sym (ap awaited_by other.1) ∙ waits)

-- the origination comes, and then the channel waits for it
begun_await : (slot number : ℕ) (c : Chan) (groups : List (List LegPlan)) (legs : List OrigLeg) (timeout : ℕ) (t : Switch) →
    chan_at t slot ≡ Some c → is_live c ≡ true → next_orig_number t ≡ number → row_of t.origs number ≡ None →
    ((new : Orig) → row_of (with_new_row t.origs number new) number ≡ Some new) → Awaits t →
    Awaits (after_move (awaiting number) slot (orig_begun (owner.Slot slot) groups legs timeout t))
begun_await slot number c groups legs timeout t there live next fresh room h =
    moved_there Awaits (λ event u k. k) (awaiting number) slot begun
    (λ d is.
    let same : c ≡ d = same_Some c d (sym there ∙ is) in
    dial_await begun.channels begun.origs slot number d is (ap is_live (sym same) ∙ live) owns came) came
  where
    new : Orig
    new = new_orig (owner.Slot slot) groups legs (moment_after t.moment (seconds timeout))

    begun : Switch
    begun = orig_begun (owner.Slot slot) groups legs timeout t

    rows : begun.origs ≡ with_new_row t.origs number new
    rows = ap (λ (n : ℕ). with_new_row t.origs n new) next

    owns : HasOwner begun.origs number slot
    owns = record { orig = new; there = ap (λ (origs : Origs). row_of origs number) rows ∙ room new; owned = refl }

    came : Awaits begun
    came =
        subst (λ (origs : Origs). Await NoSlot t.channels origs) (sym rows)
        (rows_await NoSlot t.channels t.origs (with_new_row t.origs number new) (stay_new t.origs number new fresh) h)

next_keeps : (legs : List OrigLeg) → KeepsOwner (at_next_group legs)
next_keeps legs o = by (may_enter_next o)
  where
    by : (test : Bool) → (if test then record o { current = o.current + 1; legs = legs } else o).owner ≡ o.owner
    by true = refl
    by false = refl

regrouped_await : (number : ℕ) (plans : List LegPlan) (caller : Caller) (s : Switch) → Awaits s →
    Awaits (with_group number (group_made plans caller number s))
regrouped_await number plans caller s h =
    let made : MadeGroup = group_made plans caller number s in
    orig_changed_await NoSlot (at_next_group made.legs) number made.state (next_keeps made.legs)
    (group_born plans caller number 0 s h).awaits

-- nothing holds a channel that is at work, so it waits for no origination
free_wait : (wait : Wait) → hold_in wait ≡ Ready → awaited_in wait ≡ None
free_wait (Legs orig) is = absurd (cc)
free_wait Bridged is = refl
free_wait _ is = refl

pub free_dials : (c : Chan) → hold_in c.wait ≡ Ready → awaited_by c ≡ None
free_dials c is = free_wait c.wait is

-- ---- jobs and connections

roles_await : (s t : Switch) → roles_of t ≡ roles_of s → Awaits s → Awaits t
roles_await s t same h = subst (λ (r : Roles). Await NoSlot r.channels r.origs) (sym same) h

conn_await : (change : Conn → Conn) (conn : ℕ) (s : Switch) → Awaits s → Awaits (conn_changed change conn s)
conn_await change conn s h = roles_await s (conn_changed change conn s) (conn_roles change conn s) h

ended_await : (number : ℕ) (who : Asker) (answer : Text) (s : Switch) → Awaits s → Awaits (after_job_end number who answer s)
ended_await number who answer s h = roles_await s (after_job_end number who answer s) (ended_roles number who answer s) h

owing_await : (by : Giver) (what : JobWork) (s : Switch) → Awaits s → Awaits (after_job_begin by what s)
owing_await by what s h = roles_await s (after_job_begin by what s) (begun_roles by what s) h

-- an origination goes that no slot owns
unowned_await : (orig : ℕ) (s : Switch) → ((slot : ℕ) → HasOwner s.origs orig slot → ⊥) → Awaits s → Awaits (without_orig orig s)
unowned_await orig s none h = gone_await NoSlot s.channels s.origs orig (λ slot c held waits owned. none slot owned) h

won_none : (winner : Winner) (c : Chan) → awaited_by (won_by winner c) ≡ None
won_none (App application argument) c = refl
won_none (Route to) c = refl

winning_await : (winner : Winner) (slot : ℕ) (s : Switch) → Awaits s → Awaits (after_winning winner slot s)
unfolding after_winning
winning_await winner slot s h = moved_await NoSlot (won_by winner) slot s (λ c. awaits_none c (won_by winner c) (won_none winner c)) h

winning_origs : (winner : Winner) (slot : ℕ) (s : Switch) → (after_winning winner slot s).origs ≡ s.origs
unfolding after_winning
winning_origs winner slot s = moved_there (λ (t : Switch). t.origs ≡ s.origs) (λ event t k. k) (won_by winner) slot s (λ c there. refl) refl

-- ---- every move

module _ (before : Switch) (stand : LegsStand (roles_of before)) (left : has_number_left before.bridges ≡ true) (Q : Fact)
    (kept : KeptByMoves before Q) (bonds : (b : Stage) (t : Switch) → Q b t → Bonds t)
    (jobs_own : (t : Switch) → Q (Some 0) t → (job : ℕ) (who : Asker) (orig : ℕ) (winner : Winner) (caller : Caller) →
    DoesJob t job who (Originate orig winner caller) → (slot : ℕ) → HasOwner t.origs orig slot → ⊥)
    (fresh : (t : Switch) → Q None t → row_of t.origs (next_orig_number t) ≡ None)
    (room : (t : Switch) → Q None t → (slot : ℕ) (c : Chan) → chan_at t slot ≡ Some c → awaited_by c ≡ None → (new : Orig) →
    row_of (with_new_row t.origs (next_orig_number t) new) (next_orig_number t) ≡ Some new) where
  abbrev Waiting : Fact
  Waiting b t = Q b t × Awaits t

  touches_wait : KeptByTouches Waiting
  touches_wait = record {
    told = λ event plain h. (kept.calls.touches.told event plain h.0, h.1);
    globals = λ globals h. (kept.calls.touches.globals globals h.0, h.1);
    changed = λ slot old new {b = b} {s = s} there stays h. (
      kept.calls.touches.changed slot old new there stays h.0,
      (touches_await NoSlot).changed slot old new {b = b} {s = s} there stays h.1,
    );
    answers = λ seat slot number {b = b} {s = s} h. (
      kept.calls.touches.answers seat slot number h.0,
      (touches_await NoSlot).answers seat slot number {b = b} {s = s} h.1,
    );
  }

  calls_wait : KeptByCalls Waiting
  calls_wait = record {
    touches = touches_wait;
    hung = λ named {s = s} early h. (kept.calls.hung named early.0 h.0, hung_await NoSlot named s h.1);
    joined = λ kind caller answerer c d {s = s} can there other one two first second was h. (
      kept.calls.joined kind caller answerer c d can there other one two first second (none_joined_by was (λ t k. k.0)) h.0,
      joined_await kind caller answerer s h.1,
    );
    departs = λ slots {s = s} early h. (kept.calls.departs slots early.0 h.0, departed_await slots s h.1);
    more = λ h. (kept.calls.more h.0, h.1);
    gone = λ slot old {s = s} there dead early h. (kept.calls.gone slot old there dead early.0 h.0, left_await NoSlot s.channels s.origs slot h.1);
  }

  -- ---- what begins and ends jobs

  originated_await : (by : Giver) (groups : List (List LegPlan)) (winner : Winner) (caller : Caller) (timeout : Option ℕ) (s : Switch) →
      Waiting None s → Awaits (originate_begun by groups winner caller timeout s)
  originated_await by groups winner caller timeout s h =
      let number : ℕ = next_orig_number s in
      let made : MadeGroup = group_made (first_group groups) caller number s in
      let t : Switch = made.state in
      let born : Born s 0 (chan_at s 0) t = group_born (first_group groups) caller number 0 s h.1 in
      let new : Orig = new_orig (owner.Job (job_number by t)) groups made.legs (moment_after t.moment (seconds (unwrap_or timeout 60))) in
      let none : row_of t.origs (next_orig_number t) ≡ None =
      ap (row_of t.origs) (born_number s t born.drawn) ∙ ap (λ (origs : Origs). row_of origs number) born.origs ∙ fresh s h.0 in
      owing_await by (Originate number winner caller)
      (orig_begun (owner.Job (job_number by t)) groups made.legs (unwrap_or timeout 60) t)
      (rows_await NoSlot t.channels t.origs (with_new_row t.origs (next_orig_number t) new) (stay_new t.origs (next_orig_number t) new none)
      born.awaits)

  -- where nobody lives, nobody waits
  dead_await : (count : ℕ) (s : Switch) → AreDead s → Awaits s → Await NoSlot s.channels (no_seats count)
  dead_await count s dead h = record {
    own = λ slot number c there waits. absurd (none slot number c there waits);
    live = h.live;
  }
    where
      none : (slot number : ℕ) (c : Chan) → chan_at s slot ≡ Some c → awaited_by c ≡ Some number → ⊥
      none slot number c there waits = true≢false (sym (h.live slot number c there waits) ∙ (sym (ap lives there) ∙ dead slot))

  api_wait : (by : Giver) → KeptByApi by Q → KeptByApi by Waiting
  api_wait by q = record {
    spent = λ h. (q.spent h.0, h.1);
    draws = λ h. (q.draws h.0, h.1);
    waits = λ what {s = s} wait may free h. (
      q.waits what wait (goes_on_by Waiting Q by s may (λ t k. k.0)) free h.0,
      owing_await by what s h.1,
    );
    originates = λ groups winner caller timeout {s = s} may are short free h. (
      q.originates groups winner caller timeout (goes_on_by Waiting Q by s may (λ t k. k.0)) are short free h.0,
      originated_await by groups winner caller timeout s h,
    );
    leavings = λ h. (q.leavings h.0, h.1);
    ends = λ reply notice {s = s} dead h. (q.ends reply notice dead h.0, dead_await (length s.origs) s dead h.1);
  }

  jobs_wait : KeptByJobs before Waiting
  jobs_wait = record {
    out = λ number job does h. (kept.jobs.out number job does h.0, h.1);
    runs = λ number job. api_wait (giver.Job number job) (kept.jobs.runs number job);
    woken = λ number who what answer {s = s} wait does h. (
      kept.jobs.woken number who what answer wait does h.0,
      ended_await number who answer s h.1,
    );
    failed = λ job who winner caller orig cause {s = s} does over h. (
      kept.jobs.failed job who winner caller orig cause does over h.0,
      ended_await job who (failed_text cause) (without_orig orig s)
          (unowned_await orig s (jobs_own s h.0 job who orig winner caller does) h.1),
    );
    wins = λ job who winner caller orig leg slots does won h.
        let s : Switch = raced slots before in
        let at : ℕ = unwrap_or leg.slot 0 in
        let t : Switch = after_winning winner at s in (
          kept.jobs.wins job who winner caller orig leg slots does won h.0,
          ended_await job who (made_text leg.uuid) (without_orig orig t)
              (unowned_await orig t
              (λ slot owned. jobs_own s h.0 job who orig winner caller does slot
              (subst (λ (origs : Origs). HasOwner origs orig slot) (winning_origs winner at s) owned)) (winning_await winner at s h.1)),
        );
  }

  -- ---- channels that dial

  dialed_await : (slot : ℕ) (c : Chan) (groups : List (List LegPlan)) (timeout : ℕ) (s : Switch) → chan_at s slot ≡ Some c →
      is_live c ≡ true → awaited_by c ≡ None → Waiting None s →
      Awaits (tried_by_slot slot groups timeout (next_orig_number s) (group_dialed (Some c) (first_group groups) (next_orig_number s) s))
  dialed_await slot c groups timeout s there live none h =
      let number : ℕ = next_orig_number s in
      let made : MadeGroup = group_dialed (Some c) (first_group groups) number s in
      let born : Born s slot (chan_at s slot) made.state =
      group_born (all_behind (exported_pairs c.vars) (first_group groups)) (caller_of c) number slot s h.1 in
      begun_await slot number c groups made.legs timeout made.state (born.there c there) live (born_number s made.state born.drawn)
      (ap (λ (origs : Origs). row_of origs number) born.origs ∙ fresh s h.0)
      (λ new. ap (λ (origs : Origs). row_of (with_new_row origs number new) number) born.origs ∙ room s h.0 slot c there none new)
      born.awaits

  dials_wait : KeptByDials before Waiting
  dials_wait = record {
    spent = λ h. (kept.dials.spent h.0, h.1);
    dials = λ slot c groups timeout {s = s} there works are h. (
      kept.dials.dials slot c groups timeout there works are h.0,
      dialed_await slot c groups timeout s there works.live (free_dials c works.free) h,
    );
    regroups = λ number o plans caller {s = s} there next h. (
      kept.dials.regroups number o plans caller there next h.0,
      regrouped_await number plans caller s h.1,
    );
    fails = λ slot orig cause {s = s} waits over h. (
      kept.dials.fails slot orig cause waits over h.0,
      failed_await cause slot (without_orig orig s) (without_await slot orig s waits h.1),
    );
    wins = λ slot orig leg slots waits won h. (
      kept.dials.wins slot orig leg slots waits won h.0,
      won_await slot (unwrap_or leg.slot 0) (without_orig orig (raced slots before))
          (winner_joins before slot orig leg slots stand left won (bonds (Some 0) (raced slots before) h.0) h.1 waits)
          (without_await slot orig (raced slots before) waits h.1),
    );
  }

  -- ---- commands

  commands_wait : (conn : ℕ) → KeptByCommands conn Waiting
  commands_wait conn = record {
    api = api_wait (giver.Conn conn) (kept.commands conn).api;
    noticed = λ frame h. ((kept.commands conn).noticed frame h.0, h.1);
    gave = λ frame h. ((kept.commands conn).gave frame h.0, h.1);
    asked = λ change {s = s} h. ((kept.commands conn).asked change h.0, conn_await (with_subs_changed change) conn s h.1);
    admitted = λ {s = s} new h. ((kept.commands conn).admitted new h.0, conn_await admitted conn s h.1);
    parted = λ why {s = s} leaves was h.
        ((kept.commands conn).parted why leaves (let_go_by was (λ t k. k.0)) h.0, conn_await (parted why) conn s h.1);
    backgrounds = λ given command {s = s} free h. (
      (kept.commands conn).backgrounds given command free h.0,
      roles_await s (background_begun given command s) (background_roles given command s) h.1,
    );
  }

  pub awaited_moves : KeptByMoves before (λ b t. Q b t × Awaits t)
  awaited_moves = record {
    calls = calls_wait;
    jobs = jobs_wait;
    dials = dials_wait;
    commands = commands_wait;
    visits = record {
      arrived = λ h. (kept.visits.arrived h.0, h.1);
      taken = λ conn h. (kept.visits.taken conn h.0, h.1);
      holds = λ slot c text {s = s} there waits free h. (
        kept.visits.holds slot c text there waits free h.0,
        taken_await NoSlot slot (coming_number s) c text (with_new_conn (controller slot c text) s) there waits h.1,
      );
      silent = λ conn {s = s} was h.
          (kept.visits.silent conn (let_go_by was (λ t k. k.0)) h.0, conn_await (parted parting.EndOfInput) conn s h.1);
      left = λ conn was h. (kept.visits.left conn (let_go_by was (λ t k. k.0)) h.0, h.1);
      halted = λ reply notice {s = s} dead h.
          (kept.visits.halted reply notice dead h.0, dead_await (length s.origs) s dead h.1);
    };
  }
