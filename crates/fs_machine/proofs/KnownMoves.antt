-- What is known while an entry is done, by which an origination that begins finds a seat.
use Rattle.std.proofs.Common.{◌≡◌, ◌≢◌, ℕ, ◌+◌, ◌-◌, ◌^◌, ◌<◌, ◌≤◌, false, List, length, Option, None, Some, is_none, unwrap_or, refl}
use Rattle.std.proofs.Common.{sym, ap, subst, ◌∙◌, arith}
use Rattle.std.proofs.lemmas.List.{length-map}
use Rattle.fs_text.specs.Texts.{Text}
use Rattle.fs_chan.specs.declared.chan.Chan.{Chan}
use Rattle.fs_chan.specs.Bridging.{awaiting, awaited_by, exported_pairs}
use Rattle.fs_orig.specs.declared.caller.Caller.{Caller}
use Rattle.fs_orig.specs.declared.plan.LegPlan.{LegPlan}
use Rattle.fs_orig.specs.declared.orig.Orig.{Orig}
use Rattle.fs_orig.specs.declared.orig.Owner.{Owner}
use Rattle.fs_orig.specs.declared.orig.Owner.TheVariants as owner
use Rattle.fs_orig.specs.declared.winner.Winner.{Winner}
use Rattle.fs_orig.specs.Plans.{all_behind}
use Rattle.fs_seats.specs.Seats.{least_free}
use Rattle.fs_seats.specs.Rows.{seat_of, row_of, with_new_row}
use Rattle.fs_seats.proofs.RowLemmas.{row_none, seat_stands, row_of-with_new_row_same}
use Rattle.fs_seats.proofs.TableLemmas.{row_found, row_removed, taken_in, full_taken}
use Rattle.fs_state.specs.declared.conn.Conn.{Conn}
use Rattle.fs_state.specs.declared.conn.Parting.TheVariants as parting
use Rattle.fs_state.specs.declared.job.Asker.{Asker}
use Rattle.fs_state.specs.declared.job.Asker.TheVariants as asker
use Rattle.fs_state.specs.declared.job.Background.{Background}
use Rattle.fs_state.specs.declared.job.Job.{Job}
use Rattle.fs_state.specs.declared.job.JobWork.{JobWork}
use Rattle.fs_state.specs.declared.job.JobWork.TheVariants.{Run, Originate}
use Rattle.fs_state.specs.Switch.{Switch, chan_at, next_orig_number, is_full_of_jobs, without_orig, with_new_job, without_job}
use Rattle.fs_state.specs.Switch.{with_frame_now, with_notice}
use Rattle.fs_state.specs.Moves.{after_move}
use Rattle.fs_machine.specs.Texts.{made_text, failed_text}
use Rattle.fs_machine.specs.Connections.{conn_changed, admitted, parted, owed_since, not_owed, with_subs_changed}
use Rattle.fs_machine.specs.Originations.{MadeGroup, group_made, after_winning}
use Rattle.fs_machine.specs.Attempts.{first_group, orig_begun, originate_begun, with_group}
use Rattle.fs_machine.specs.Bridging.{after_bridge_failure, after_bridge_win, caller_of, group_dialed}
use Rattle.fs_machine.specs.Dialing.{tried_by_slot}
use Rattle.fs_machine.specs.declared.owing.Giver.{Giver}
use Rattle.fs_machine.specs.declared.owing.Giver.TheVariants as giver
use Rattle.fs_machine.specs.Owing.{job_number, after_job_begin, background_begun, after_job_end}
use Rattle.fs_machine.proofs.Kept.{Stage, Fact, raced, DoesJob, KeptByApi, KeptByMoves}
use Rattle.fs_machine.proofs.BondMoves.{bonds_moves}
use Rattle.fs_machine.proofs.BothMoves.{Both, both_moves}
use Rattle.fs_machine.proofs.IdentifierMoves.{NumbersFrom, numbers_moves}
use Rattle.fs_machine.proofs.LegLemmas.{roles_of, LegsStand}
use Rattle.fs_machine.proofs.FrontLemmas.{conn_unread}
use Rattle.fs_machine.proofs.RestLemmas.{Rest}
use Rattle.fs_machine.proofs.OwedBooks.{Jobs, tried_by, Tries}
use Rattle.fs_machine.proofs.OwedJobs.{orig_seat}
use Rattle.fs_machine.proofs.OwedLemmas.{tries_woken}
use Rattle.fs_machine.proofs.OwedLosses.{Loses, calls_by_losses, moved_loses, group_loses, regrouped_loses, failure_loses, winning_loses}
use Rattle.fs_machine.proofs.OwedLosses.{bridge_won_loses}
use Rattle.fs_machine.proofs.OwedTables.{by_job, by_slot, of_slot, owned_at, owned_in, IsOwnedAt, owned_there, taken_apart}
use Rattle.fs_machine.proofs.OwnerMoves.{Owning, owners_moves, Owners, owners_of}
use Rattle.fs_machine.proofs.PartnerMoves.{Partners, partners_moves}
use Rattle.fs_machine.proofs.SeenLemmas.{seen}
use Rattle.fs_machine.proofs.SlotCounts.{few_slots, fewer_slots}
use Rattle.fs_machine.proofs.TrialMoves.{Trying, trying_moves}

-- ---- what was so as the entry began

-- whatever is owned, jobs try it as those did that were
abbrev pub TryAsBefore : Jobs → Jobs → Type 0
TryAsBefore old new = (owned : List (Option ℕ)) (drawn : ℕ) → Tries old owned drawn → Tries new owned drawn

-- Before anything has begun jobs try what those tried that were, and own what they owned, and no number of an origination was drawn. Later
-- one was at most.
abbrev pub Early : Switch → Fact
Early before None t =
    (owned_in by_job t.origs ≡ owned_in by_job before.origs) × TryAsBefore before.jobs t.jobs × (t.drawn.origs ≡ before.drawn.origs)
Early before (Some n) t = t.drawn.origs ≤ before.drawn.origs + 1

same_most : (before t u : Switch) → u.drawn.origs ≡ t.drawn.origs → t.drawn.origs ≤ before.drawn.origs + 1 →
    u.drawn.origs ≤ before.drawn.origs + 1
same_most before t u same h = omega (arith, same, h)

early_loses : (before : Switch) (b : Stage) (t u : Switch) → Early before b t → Loses t u → Early before b u
early_loses before None t u h loses = (
  loses.jobs ∙ h.0,
  subst (TryAsBefore before.jobs) (sym (ap (λ (r : Rest). r.jobs) loses.rest)) h.1,
  loses.drawn ∙ h.2,
)
early_loses before (Some n) t u h loses = same_most before t u loses.drawn h

early_spent : (before t : Switch) → Early before None t → t.drawn.origs ≤ before.drawn.origs + 1
early_spent before t h = let same : t.drawn.origs ≡ before.drawn.origs = h.2 in omega (arith, same)

-- an origination begins once legs were made
early_begun : (before s t u : Switch) → Early before None s → t.drawn.origs ≡ s.drawn.origs → u.drawn.origs ≡ next_orig_number t →
    u.drawn.origs ≤ before.drawn.origs + 1
early_begun before s t u h made begun =
    let same : s.drawn.origs ≡ before.drawn.origs = h.2 in
    omega (arith, same, made, begun)

conn_early : (before : Switch) (n : ℕ) (change : Conn → Conn) (conn : ℕ) (t : Switch) → Early before (Some n) t →
    Early before (Some n) (conn_changed change conn t)
conn_early before n change conn t h =
    same_most before t (conn_changed change conn t) (conn_unread (λ (u : Switch). u.drawn.origs) (λ conns u. refl) change conn t) h

-- a job is taken out that tries nothing
out_early : (before : Switch) (number : ℕ) (job : Background) (t : Switch) → DoesJob t number (asker.Background job) Run →
    Early before None t → Early before None (without_job number t)
out_early before number job t does h =
    let found = row_found t.jobs number (record { asker = asker.Background job; work = Run }) does.there in (
      h.0,
      λ owned drawn tries. subst (λ (jobs : Jobs). Tries jobs owned drawn) (sym (row_removed t.jobs number found.0 found.2.at))
          (tries_woken t.jobs owned drawn found.0 found.1 found.2.there (ap (λ (y : Job). tried_by y.work) found.3) (h.1 owned drawn tries)),
      h.2,
    )

ended_early : (before : Switch) (number : ℕ) (who : Asker) (answer : Text) (t : Switch) → Early before (Some 0) t →
    Early before (Some 0) (after_job_end number who answer t)
ended_early before number (asker.Conn conn) answer t h = conn_early before 0 not_owed conn (without_job number t) h
ended_early before number (asker.Background job) answer t h = h

begun_early : (before : Switch) (by : Giver) (what : JobWork) (t : Switch) → Early before (Some 0) t →
    Early before (Some 0) (after_job_begin by what t)
begun_early before (giver.Conn conn) what t h =
    conn_early before 0 (owed_since t.entries) conn (with_new_job (record { asker = asker.Conn conn; work = what }) t) h
begun_early before (giver.Job number job) what t h = h

originated_early : (before : Switch) (by : Giver) (groups : List (List LegPlan)) (winner : Winner) (caller : Caller) (timeout : Option ℕ)
    (t : Switch) → Early before None t → Early before (Some 0) (originate_begun by groups winner caller timeout t)
originated_early before by groups winner caller timeout t h =
    let number : ℕ = next_orig_number t in
    let made : MadeGroup = group_made (first_group groups) caller number t in
    let begun : Switch = orig_begun (owner.Job (job_number by made.state)) groups made.legs (unwrap_or timeout 60) made.state in
    begun_early before by (Originate number winner caller) begun
    (early_begun before t made.state begun h (group_loses (first_group groups) caller number t).drawn refl)

background_early : (before : Switch) (given : Option Text) (command : Text) (t : Switch) → Early before None t →
    Early before (Some 1) (background_begun given command t)
background_early before None command t h = early_spent before t h
background_early before (Some uuid) command t h = early_spent before t h

dialed_early : (before : Switch) (slot : ℕ) (c : Chan) (groups : List (List LegPlan)) (timeout : ℕ) (t : Switch) → Early before None t →
    Early before (Some 0)
    (tried_by_slot slot groups timeout (next_orig_number t) (group_dialed (Some c) (first_group groups) (next_orig_number t) t))
dialed_early before slot c groups timeout t h =
    let number : ℕ = next_orig_number t in
    let plans : List LegPlan = all_behind (exported_pairs c.vars) (first_group groups) in
    let made : MadeGroup = group_made plans (caller_of c) number t in
    let begun : Switch = orig_begun (owner.Slot slot) groups made.legs timeout made.state in
    early_loses before (Some 0) begun (after_move (awaiting number) slot begun)
    (early_begun before t made.state begun h (group_loses plans (caller_of c) number t).drawn refl)
    (moved_loses (awaiting number) slot begun)

early_noticed : (before : Switch) (b : Stage) (conn : ℕ) (frame : List ℕ) (t : Switch) → Early before b t →
    Early before b (with_notice conn frame t)
early_noticed before None conn frame t h = h
early_noticed before (Some n) conn frame t h = h

early_gave : (before : Switch) (b : Stage) (conn : ℕ) (frame : List ℕ) (t : Switch) → Early before b t →
    Early before b (with_frame_now conn frame t)
early_gave before None conn frame t h = h
early_gave before (Some n) conn frame t h = h

early_api : (before : Switch) (by : Giver) → KeptByApi by (Early before)
early_api before by = record {
  spent = λ {s = s} h. early_spent before s h;
  draws = λ {s = s} h. early_spent before s h;
  waits = λ what {s = s} wait may room h. begun_early before by what s (early_spent before s h);
  originates = λ groups winner caller timeout {s = s} may are short room h. originated_early before by groups winner caller timeout s h;
  leavings = λ h. h;
  ends = λ reply notice dead h. h;
}

pub early_moves : (before : Switch) → KeptByMoves before (Early before)
early_moves before = record {
  calls = calls_by_losses (Early before) (early_loses before) (λ t h. h);
  jobs = record {
    out = λ number job {s = s} does h. out_early before number job s does h;
    runs = λ number job. early_api before (giver.Job number job);
    woken = λ number who what answer {s = s} wait does h. ended_early before number who answer s h;
    failed = λ job who winner caller orig cause {s = s} does over h. ended_early before job who (failed_text cause) (without_orig orig s) h;
    wins = λ job who winner caller orig leg slots does won h.
        let s : Switch = raced slots before in
        let t : Switch = after_winning winner (unwrap_or leg.slot 0) s in
        ended_early before job who (made_text leg.uuid) (without_orig orig t)
        (early_loses before (Some 0) s t h (winning_loses winner (unwrap_or leg.slot 0) s));
  };
  dials = record {
    spent = λ {s = s} h. early_spent before s h;
    dials = λ slot c groups timeout {s = s} there works are h. dialed_early before slot c groups timeout s h;
    regroups = λ number o plans caller {s = s} there are h.
        early_loses before (Some 0) s (with_group number (group_made plans caller number s)) h (regrouped_loses number plans caller s);
    fails = λ slot orig cause {s = s} waits over h.
        early_loses before (Some 0) (without_orig orig s) (after_bridge_failure cause slot (without_orig orig s)) h
        (failure_loses cause slot (without_orig orig s));
    wins = λ slot orig leg slots waits won h.
        let s : Switch = without_orig orig (raced slots before) in
        early_loses before (Some 0) s (after_bridge_win slot (unwrap_or leg.slot 0) s) h (bridge_won_loses slot (unwrap_or leg.slot 0) s);
  };
  commands = λ conn. record {
    api = early_api before (giver.Conn conn);
    noticed = λ frame {b = b} {s = s} h. early_noticed before b conn frame s h;
    gave = λ frame {b = b} {s = s} h. early_gave before b conn frame s h;
    asked = λ change {n = n} {s = s} h. conn_early before n (with_subs_changed change) conn s h;
    admitted = λ {n = n} {s = s} fresh h. conn_early before n admitted conn s h;
    parted = λ why {n = n} {s = s} leaves was h. conn_early before n (parted why) conn s h;
    backgrounds = λ given command {s = s} room h. background_early before given command s h;
  };
  visits = record {
    arrived = λ {s = s} h. early_spent before s h;
    taken = λ conn h. h;
    holds = λ slot c text {s = s} there waits room h. early_spent before s h;
    silent = λ conn {s = s} was h. conn_early before 0 (parted parting.EndOfInput) conn s h;
    left = λ conn was h. h;
    halted = λ reply notice dead h. h;
  };
}

-- ---- all that is known

-- bridges, owners, partners, slots and jobs are as they must be
abbrev pub Known : Switch → Fact
Known before = Both Owning (Both Partners (Both (NumbersFrom (seen before)) (Both (Early before) Trying)))

pub known_moves : (before : Switch) → LegsStand (roles_of before) → KeptByMoves before (Known before)
known_moves before legs =
    both_moves Owning (Both Partners (Both (NumbersFrom (seen before)) (Both (Early before) Trying))) before
    (owners_moves before legs (bonds_moves before legs))
    (both_moves Partners (Both (NumbersFrom (seen before)) (Both (Early before) Trying)) before (partners_moves before)
    (both_moves (NumbersFrom (seen before)) (Both (Early before) Trying) before (numbers_moves (seen before) before)
    (both_moves (Early before) Trying before (early_moves before) (trying_moves before))))

-- ---- what comes of it

-- no slot owns what a job tries
pub jobs_apart : (before t : Switch) → Known before (Some 0) t → (job : ℕ) (who : Asker) (orig : ℕ) (winner : Winner) (caller : Caller) →
    DoesJob t job who (Originate orig winner caller) → (slot : ℕ) (o : Orig) → row_of t.origs orig ≡ Some o → o.owner ≡ owner.Slot slot → ⊥
jobs_apart before t known job who orig winner caller does slot o there owned =
    let found = row_found t.jobs job (record { asker = who; work = Originate orig winner caller }) does.there in
    let at : IsOwnedAt of_slot t.origs orig o = owned_there of_slot t.origs orig o there in
    known.1.1.1.1.apart.apart found.0 at.seat orig found.1 found.2.there (ap (λ (y : Job). tried_by y.work) found.3)
    (at.told ∙ ap (λ (by : Owner). of_slot by orig) owned)

-- the next number is that of no origination
next_number : (before t : Switch) → Known before None t → next_orig_number t ≡ t.drawn.origs + 1
next_number before t known = let room : t.drawn.origs < 2 ^ 64 - 1 = known.0.room in omega (arith, room)

fresh_seat : (before t : Switch) → Known before None t → seat_of t.origs (next_orig_number t) ≡ None
fresh_seat before t known = by (seat_of t.origs (next_orig_number t)) refl
  where
    by : (found : Option ℕ) → seat_of t.origs (next_orig_number t) ≡ found → found ≡ None
    by None is = refl
    by (Some seat) is =
        let most : next_orig_number t ≤ t.drawn.origs =
        known.0.owned.within (next_orig_number t) seat (seat_stands t.origs (next_orig_number t) seat is) in
        let next : next_orig_number t ≡ t.drawn.origs + 1 = next_number before t known in
        absurd (omega (arith, most, next))

pub fresh_number : (before t : Switch) → Known before None t → row_of t.origs (next_orig_number t) ≡ None
fresh_number before t known = row_none t.origs (next_orig_number t) (fresh_seat before t known)

-- a seat is free for one more where a channel waits for none: 1,024 jobs own one at most, and 255 slots
module _ (before : Switch) (jobs_few : taken_in (owned_in by_job before.origs) ≤ 1024) (seats : length before.origs ≡ 1280)
    (slots : length before.channels ≤ 257) where
  free_seat_there : (t : Switch) → Known before None t → (slot : ℕ) (c : Chan) → chan_at t slot ≡ Some c → awaited_by c ≡ None →
      least_free t.origs 0 ≡ None → ⊥
  free_seat_there t known slot c there waits none =
      let owners : Owners t = owners_of t known.0.owned in
      let same_slots : length t.channels ≡ length before.channels = known.1.1.0.slots in
      let within : length t.channels ≤ 257 = omega (arith, same_slots, slots) in
      let owned : taken_in (owned_in by_slot t.origs) + 1 ≤ 256 =
      fewer_slots t owners.numbers owners.wait known.1.0.zero within slot c there waits in
      let same : owned_in by_job t.origs ≡ owned_in by_job before.origs = known.1.1.1.0.0 in
      let jobs : taken_in (owned_in by_job t.origs) ≡ taken_in (owned_in by_job before.origs) = ap taken_in same in
      let lengths : length (owned_in by_job t.origs) ≡ length (owned_in by_job before.origs) = ap length same in
      let now : length (owned_in by_job t.origs) ≡ length t.origs = length-map t.origs (owned_at by_job) in
      let then : length (owned_in by_job before.origs) ≡ length before.origs = length-map before.origs (owned_at by_job) in
      let all : taken_in t.origs ≡ length t.origs = full_taken t.origs none in
      let apart : taken_in t.origs ≡ taken_in (owned_in by_job t.origs) + taken_in (owned_in by_slot t.origs) = taken_apart t.origs in
      omega (arith, owned, jobs, lengths, now, then, all, apart, jobs_few, seats)

  pub room_there : (t : Switch) → Known before None t → (slot : ℕ) (c : Chan) → chan_at t slot ≡ Some c → awaited_by c ≡ None →
      (new : Orig) → row_of (with_new_row t.origs (next_orig_number t) new) (next_orig_number t) ≡ Some new
  room_there t known slot c there waits new = by (least_free t.origs 0) refl
    where
      by : (found : Option ℕ) → least_free t.origs 0 ≡ found →
          row_of (with_new_row t.origs (next_orig_number t) new) (next_orig_number t) ≡ Some new
      by None is = absurd (free_seat_there t known slot c there waits is)
      by (Some put) is =
          row_of-with_new_row_same t.origs (next_orig_number t) new put known.0.owned.distinct (fresh_seat before t known) is

-- and so is one where a job can begin: 1,023 jobs at most own one, and 256 slots
module _ (before : Switch) (tries : Tries before.jobs (owned_in by_job before.origs) before.drawn.origs) (slots : length before.channels ≤ 257) where
  free_job : (t : Switch) → is_full_of_jobs t ≡ false → (q : ℕ) × (least_free t.jobs 0 ≡ Some q)
  free_job t free = by (least_free t.jobs 0) refl free
    where
      by : (found : Option ℕ) → least_free t.jobs 0 ≡ found → is_none found ≡ false → (q : ℕ) × (least_free t.jobs 0 ≡ Some q)
      by None is free = absurd (cc)
      by (Some q) is free = (q, is)

  seat_for_job : (t : Switch) → Known before None t → is_full_of_jobs t ≡ false → least_free t.origs 0 ≢ None
  seat_for_job t known free =
      let q = free_job t free in
      let owners : Owners t = owners_of t known.0.owned in
      let same_slots : length t.channels ≡ length before.channels = known.1.1.0.slots in
      let within : length t.channels ≤ 257 = omega (arith, same_slots, slots) in
      orig_seat t.jobs t.origs before.drawn.origs q.0
      (known.1.1.1.0.1 (owned_in by_job t.origs) before.drawn.origs
      (subst (λ (owned : List (Option ℕ)). Tries before.jobs owned before.drawn.origs) (sym known.1.1.1.0.0) tries))
      (few_slots t owners.numbers owners.wait known.1.0.zero within) q.1

  pub room_for_job : (t : Switch) → Known before None t → is_full_of_jobs t ≡ false → (new : Orig) →
      row_of (with_new_row t.origs (next_orig_number t) new) (next_orig_number t) ≡ Some new
  room_for_job t known free new = by (least_free t.origs 0) refl
    where
      by : (found : Option ℕ) → least_free t.origs 0 ≡ found →
          row_of (with_new_row t.origs (next_orig_number t) new) (next_orig_number t) ≡ Some new
      by None is = absurd (seat_for_job t known free is)
      by (Some put) is =
          row_of-with_new_row_same t.origs (next_orig_number t) new put known.0.owned.distinct (fresh_seat before t known) is
