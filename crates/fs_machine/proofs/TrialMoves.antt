-- Each act keeps what jobs try apart from what slots own.
use Rattle.fs_text.specs.Texts.{Text}
use Rattle.fs_state.specs.declared.conn.Parting.TheVariants as parting
use Rattle.fs_state.specs.declared.job.JobWork.TheVariants.{Run, Originate}
use Rattle.std.proofs.Common.{unwrap_or, ◌≡◌, ℕ, ◌+◌, ◌-◌, ◌^◌, ◌<◌, ◌≤◌, List, length, Option, None, Some, refl, sym, ap, subst, ◌∙◌, inl, inr}
use Rattle.std.proofs.Common.{arith}
use Rattle.std.proofs.lemmas.Option.{none-some, same_Some}
use Rattle.fs_machine.specs.Texts.{made_text, failed_text}
use Rattle.fs_machine.specs.Connections.{admitted, parted, conn_changed, owed_since, not_owed, with_subs_changed}
use Rattle.fs_machine.specs.Originations.{after_winning, seconds, MadeGroup, group_made}
use Rattle.fs_machine.specs.Attempts.{with_group, first_group, orig_begun, originate_begun}
use Rattle.fs_machine.specs.Bridging.{after_bridge_failure, after_bridge_win, caller_of, group_dialed}
use Rattle.fs_machine.proofs.Kept.{raced, KeptByApi, KeptByMoves, Stage}
use Rattle.fs_machine.proofs.OwedLosses.{winning_loses, calls_by_losses, failure_loses, bridge_won_loses, regrouped_loses, Loses}
use Rattle.fs_machine.proofs.OwedLosses.{moved_loses, group_loses}
use Rattle.fs_machine.proofs.OwedTables.{owned_added, of_slot, owned_in, none_owned, left_stood, untold_added}
use Rattle.fs_chan.specs.declared.chan.Chan.{Chan}
use Rattle.fs_chan.specs.Bridging.{exported_pairs, awaiting}
use Rattle.fs_chan.specs.Moments.{moment_after}
use Rattle.fs_orig.specs.declared.caller.Caller.{Caller}
use Rattle.fs_orig.specs.declared.orig.Orig.{Orig}
use Rattle.fs_orig.specs.declared.orig.Owner.{Owner}
use Rattle.fs_orig.specs.declared.orig.Owner.TheVariants as owner
use Rattle.fs_orig.specs.declared.plan.LegPlan.{LegPlan}
use Rattle.fs_orig.specs.declared.winner.Winner.{Winner}
use Rattle.fs_orig.specs.Changes.{new_orig}
use Rattle.fs_orig.specs.Plans.{all_behind}
use Rattle.fs_seats.specs.declared.numbered.Numbered.{Numbered}
use Rattle.fs_seats.specs.Seats.{no_seats, held_in, with_held, least_free}
use Rattle.fs_seats.specs.Rows.{seat_of, with_held_at, with_new_row, without_row}
use Rattle.fs_seats.proofs.TableLemmas.{IsWrittenOrKept, written_or_kept, kept_without, none_held}
use Rattle.fs_state.specs.declared.conn.Conn.{Conn}
use Rattle.fs_state.specs.declared.job.Asker.{Asker}
use Rattle.fs_state.specs.declared.job.Asker.TheVariants as asker
use Rattle.fs_state.specs.declared.job.Job.{Job}
use Rattle.fs_state.specs.declared.job.JobWork.{JobWork}
use Rattle.fs_state.specs.Switch.{Switch, next_orig_number, next_job_number, with_new_job, without_job, without_orig}
use Rattle.fs_state.specs.Switch.{with_next_identifier}
use Rattle.fs_state.specs.Moves.{after_move}
use Rattle.fs_machine.specs.Dialing.{tried_by_slot}
use Rattle.fs_machine.specs.declared.owing.Giver.{Giver}
use Rattle.fs_machine.specs.declared.owing.Giver.TheVariants as giver
use Rattle.fs_machine.specs.Owing.{job_number, after_job_begin, job_uuid, background_begun, after_job_end}
use Rattle.fs_machine.proofs.FrontLemmas.{conn_unread}
use Rattle.fs_machine.proofs.RestLemmas.{Rest}
use Rattle.fs_machine.proofs.OwedBooks.{Jobs, tried_by, wait_tries}

-- the jobs, the numbers of what slots own, and the last number that was drawn
pub record Trials : Type 0 where
  pub jobs : Jobs
  pub owned : List (Option ℕ)
  pub drawn : ℕ

-- those of a switch
abbrev pub trials_of : Switch → Trials
trials_of s = record { jobs = s.jobs; owned = owned_in of_slot s.origs; drawn = s.drawn.origs }

-- what jobs try and what slots own was drawn, and no slot owns what a job tries
pub record AreApart (r : Trials) : Type 0 where
  pub tried : (q : ℕ) (job : Numbered Job) (number : ℕ) → held_in r.jobs q ≡ Some job → tried_by job.held.work ≡ Some number →
      number ≤ r.drawn
  pub owned : (p number : ℕ) → held_in r.owned p ≡ Some number → number ≤ r.drawn
  pub apart : (q p number : ℕ) (job : Numbered Job) → held_in r.jobs q ≡ Some job → tried_by job.held.work ≡ Some number →
      held_in r.owned p ≡ Some number → ⊥

-- as long as nothing has begun another number can be drawn
abbrev pub HasNext : Stage → ℕ → Type 0
HasNext None drawn = drawn < 2 ^ 64 - 1
HasNext (Some n) drawn = Unit {0}

-- the fact
pub record Trying (b : Stage) (s : Switch) : Type 0 where
  pub apart : AreApart (trials_of s)
  pub next : HasNext b s.drawn.origs

same_trials : (b : Stage) (s t : Switch) → trials_of t ≡ trials_of s → Trying b s → Trying b t
same_trials b s t same h =
    record { apart = subst AreApart (sym same) h.apart; next = subst (HasNext b) (sym (ap (λ (r : Trials). r.drawn) same)) h.next }

spent : (s : Switch) → Trying None s → Trying (Some 0) s
spent s h = record { apart = h.apart; next = tt }

-- ---- what goes

-- jobs are the same, and what slots own stood there before
lost : (r : Trials) (owned : List (Option ℕ)) → ((p number : ℕ) → held_in owned p ≡ Some number → held_in r.owned p ≡ Some number) →
    AreApart r → AreApart (record r { owned = owned })
lost r owned stood h = record {
  tried = h.tried;
  owned = λ p number is. h.owned p number (stood p number is);
  apart = λ q p number job there tries is. h.apart q p number job there tries (stood p number is);
}

loses_trials : (b : Stage) (s t : Switch) → Trying b s → Loses s t → Trying b t
loses_trials b s t h loses =
    let jobs : t.jobs ≡ s.jobs = ap (λ (r : Rest). r.jobs) loses.rest in
    record {
      apart = subst (λ (j : Jobs). AreApart (record { jobs = j; owned = owned_in of_slot t.origs; drawn = t.drawn.origs })) (sym jobs)
          (subst (λ (n : ℕ). AreApart (record { jobs = s.jobs; owned = owned_in of_slot t.origs; drawn = n })) (sym loses.drawn)
          (lost (trials_of s) (owned_in of_slot t.origs) loses.stood h.apart));
      next = subst (HasNext b) (sym loses.drawn) h.next;
    }

without_trials : (number : ℕ) (s : Switch) → Trying (Some 0) s → Trying (Some 0) (without_orig number s)
without_trials number s h = record {
  apart = lost (trials_of s) (owned_in of_slot (without_orig number s).origs) (left_stood of_slot s.origs number) h.apart;
  next = tt;
}

-- a job is gone
fewer_jobs : (r : Trials) (jobs : Jobs) → ((q : ℕ) (job : Numbered Job) → held_in jobs q ≡ Some job → held_in r.jobs q ≡ Some job) →
    AreApart r → AreApart (record r { jobs = jobs })
fewer_jobs r jobs stood h = record {
  tried = λ q job number there tries. h.tried q job number (stood q job there) tries;
  owned = h.owned;
  apart = λ q p number job there tries is. h.apart q p number job (stood q job there) tries is;
}

job_left : (jobs : Jobs) (number q : ℕ) (job : Numbered Job) → held_in (without_row jobs number) q ≡ Some job → held_in jobs q ≡ Some job
job_left jobs number q job is = by (seat_of jobs number) refl
  where
    by : (found : Option ℕ) → seat_of jobs number ≡ found → held_in jobs q ≡ Some job
    by None none = sym (ap (λ (found : Option ℕ). held_in (with_held_at {T = Numbered Job} jobs None found) q) none) ∙ is
    by (Some gone) at =
        (kept_without jobs gone q job
        (sym (ap (λ (found : Option ℕ). held_in (with_held_at {T = Numbered Job} jobs None found) q) at) ∙ is)).1

conn_trials : (b : Stage) (change : Conn → Conn) (conn : ℕ) (s : Switch) → Trying b s → Trying b (conn_changed change conn s)
conn_trials b change conn s h = same_trials b s (conn_changed change conn s) (conn_unread trials_of (λ conns t. refl) change conn s) h

left_trials : (b : Stage) (number : ℕ) (s : Switch) → Trying b s → Trying b (without_job number s)
left_trials b number s h = record {
  apart = fewer_jobs (trials_of s) (without_job number s).jobs (job_left s.jobs number) h.apart;
  next = h.next;
}

ended_trials : (number : ℕ) (who : Asker) (answer : Text) (s : Switch) → Trying (Some 0) s →
    Trying (Some 0) (after_job_end number who answer s)
ended_trials number (asker.Conn conn) answer s h =
    let t : Switch = without_job number s in
    let changed : Trying (Some 0) (conn_changed not_owed conn t) = conn_trials (Some 0) not_owed conn t (left_trials (Some 0) number s h) in
    record { apart = changed.apart; next = tt }
ended_trials number (asker.Background job) answer s h = record { apart = (left_trials (Some 0) number s h).apart; next = tt }

-- ---- what comes

-- a job comes that tries nothing, or what no slot owns
more_jobs : (r : Trials) (q : ℕ) (job : Numbered Job) →
    ((number : ℕ) → tried_by job.held.work ≡ Some number → (number ≤ r.drawn) × ((p : ℕ) → held_in r.owned p ≡ Some number → ⊥)) →
    AreApart r → AreApart (record r { jobs = with_held r.jobs q (Some job) })
more_jobs r q job new h = record {
  tried = λ k other number there tries. tried k other number (written_or_kept r.jobs q (Some job) k other there) tries;
  owned = h.owned;
  apart = λ k p number other there tries is. apart k p number other (written_or_kept r.jobs q (Some job) k other there) tries is;
}
  where
    its : (other : Numbered Job) (number : ℕ) → Some job ≡ Some other → tried_by other.held.work ≡ Some number →
        tried_by job.held.work ≡ Some number
    its other number same tries = ap (λ (j : Numbered Job). tried_by j.held.work) (same_Some job other same) ∙ tries

    tried : (k : ℕ) (other : Numbered Job) (number : ℕ) → IsWrittenOrKept r.jobs q (Some job) k other →
        tried_by other.held.work ≡ Some number → number ≤ r.drawn
    tried k other number (inl here) tries = (new number (its other number here.1 tries)).0
    tried k other number (inr kept) tries = h.tried k other number kept.1 tries

    apart : (k p number : ℕ) (other : Numbered Job) → IsWrittenOrKept r.jobs q (Some job) k other →
        tried_by other.held.work ≡ Some number → held_in r.owned p ≡ Some number → ⊥
    apart k p number other (inl here) tries is = (new number (its other number here.1 tries)).1 p is
    apart k p number other (inr kept) tries is = h.apart k p number other kept.1 tries is

-- so where it finds a seat, and where it finds none
added_apart : (s : Switch) (number : ℕ) (job : Job) →
    ((orig : ℕ) → tried_by job.work ≡ Some orig →
    (orig ≤ s.drawn.origs) × ((p : ℕ) → held_in (owned_in of_slot s.origs) p ≡ Some orig → ⊥)) →
    AreApart (trials_of s) → AreApart (record (trials_of s) { jobs = with_new_row s.jobs number job })
added_apart s number job new h = by (least_free s.jobs 0)
  where
    row : Numbered Job
    row = record { number = number; held = job }

    by : (found : Option ℕ) → AreApart (record (trials_of s) { jobs = with_held_at {T = Numbered Job} s.jobs (Some row) found })
    by None = h
    by (Some q) = more_jobs (trials_of s) q row new h

begun_trials : (by : Giver) (what : JobWork) (s : Switch) →
    ((number : ℕ) → tried_by what ≡ Some number →
    (number ≤ s.drawn.origs) × ((p : ℕ) → held_in (owned_in of_slot s.origs) p ≡ Some number → ⊥)) →
    AreApart (trials_of s) → Trying (Some 0) (after_job_begin by what s)
begun_trials (giver.Conn conn) what s new h =
    let job : Job = record { asker = asker.Conn conn; work = what } in
    conn_trials (Some 0) (owed_since s.entries) conn (with_new_job job s)
    (record { apart = added_apart s (next_job_number s) job new h; next = tt })
begun_trials (giver.Job number job) what s new h =
    record { apart = added_apart s number (record { asker = asker.Background job; work = what }) new h; next = tt }

-- a job in the background tries nothing as it begins
background_trials : (given : Option Text) (command : Text) (s : Switch) → AreApart (trials_of s) →
    Trying (Some 1) (background_begun given command s)
background_trials None command s h =
    let drawn : Switch = with_next_identifier s in
    let job : Job = record { asker = asker.Background (record { uuid = job_uuid None s; command = command }); work = Run } in
    record { apart = added_apart drawn (next_job_number drawn) job (λ orig tries. absurd (none-some orig tries)) h; next = tt }
background_trials (Some uuid) command s h =
    let job : Job = record { asker = asker.Background (record { uuid = uuid; command = command }); work = Run } in
    record { apart = added_apart s (next_job_number s) job (λ orig tries. absurd (none-some orig tries)) h; next = tt }

-- more numbers were drawn
more_drawn : (r : Trials) (drawn : ℕ) → r.drawn ≤ drawn → AreApart r → AreApart (record r { drawn = drawn })
more_drawn r drawn less h = record {
  tried = λ q job number there tries. let most : number ≤ r.drawn = h.tried q job number there tries in omega (arith, most, less);
  owned = λ p number is. let most : number ≤ r.drawn = h.owned p number is in omega (arith, most, less);
  apart = h.apart;
}

-- a slot owns the next one, which no job tries
more_owned : (r : Trials) (p : ℕ) → AreApart r →
    AreApart (record { jobs = r.jobs; owned = with_held r.owned p (Some (r.drawn + 1)); drawn = r.drawn + 1 })
more_owned r p h = record {
  tried = λ q job number there tries. let most : number ≤ r.drawn = h.tried q job number there tries in omega (arith, most);
  owned = λ k number is. owned k number (written_or_kept r.owned p (Some (r.drawn + 1)) k number is);
  apart = λ q k number job there tries is.
      apart q k number job there tries (written_or_kept r.owned p (Some (r.drawn + 1)) k number is);
}
  where
    owned : (k number : ℕ) → IsWrittenOrKept r.owned p (Some (r.drawn + 1)) k number → number ≤ r.drawn + 1
    owned k number (inl here) = let is : r.drawn + 1 ≡ number = same_Some (r.drawn + 1) number here.1 in omega (arith, is)
    owned k number (inr kept) = let most : number ≤ r.drawn = h.owned k number kept.1 in omega (arith, most)

    apart : (q k number : ℕ) (job : Numbered Job) → held_in r.jobs q ≡ Some job → tried_by job.held.work ≡ Some number →
        IsWrittenOrKept r.owned p (Some (r.drawn + 1)) k number → ⊥
    apart q k number job there tries (inl here) =
        let is : r.drawn + 1 ≡ number = same_Some (r.drawn + 1) number here.1 in
        let most : number ≤ r.drawn = h.tried q job number there tries in
        absurd (omega (arith, is, most))
    apart q k number job there tries (inr kept) = h.apart q k number job there tries kept.1

-- ---- originations begin

originates_trials : (from : Giver) (groups : List (List LegPlan)) (winner : Winner) (caller : Caller) (timeout : Option ℕ) (s : Switch) →
    Trying None s → Trying (Some 0) (originate_begun from groups winner caller timeout s)
originates_trials from groups winner caller timeout s h =
    let made : MadeGroup = group_made (first_group groups) caller (next_orig_number s) s in
    let loses : Loses s made.state = group_loses (first_group groups) caller (next_orig_number s) s in
    let first : Trying None made.state = loses_trials None s made.state h loses in
    let o : Orig = new_orig (owner.Job (job_number from made.state)) groups made.legs
    (moment_after made.state.moment (seconds (unwrap_or timeout 60))) in
    let begun : Switch = orig_begun (owner.Job (job_number from made.state)) groups made.legs (unwrap_or timeout 60) made.state in
    let room : s.drawn.origs < 2 ^ 64 - 1 = h.next in
    let drawn : made.state.drawn.origs ≡ s.drawn.origs = loses.drawn in
    let next : begun.drawn.origs ≡ made.state.drawn.origs + 1 = omega (arith, room, drawn) in
    let its : next_orig_number s ≡ made.state.drawn.origs + 1 = omega (arith, room, drawn) in
    let same : owned_in of_slot begun.origs ≡ owned_in of_slot made.state.origs =
    untold_added of_slot made.state.origs (next_orig_number made.state) o refl in
    let apart : AreApart (trials_of begun) =
    subst (λ (l : List (Option ℕ)). AreApart (record { jobs = made.state.jobs; owned = l; drawn = begun.drawn.origs })) (sym same)
    (more_drawn (trials_of made.state) begun.drawn.origs (omega (arith, next)) first.apart) in
    begun_trials from (Originate (next_orig_number s) winner caller) begun
    (λ number tries. new made.state begun first.apart next its same number (same_Some (next_orig_number s) number tries)) apart
  where
    new : (t begun : Switch) → AreApart (trials_of t) → begun.drawn.origs ≡ t.drawn.origs + 1 →
        next_orig_number s ≡ t.drawn.origs + 1 → owned_in of_slot begun.origs ≡ owned_in of_slot t.origs → (number : ℕ) →
        next_orig_number s ≡ number →
        (number ≤ begun.drawn.origs) × ((p : ℕ) → held_in (owned_in of_slot begun.origs) p ≡ Some number → ⊥)
    new t begun h next its same number is = (
      omega (arith, next, its, is),
      λ p there.
          let most : number ≤ t.drawn.origs = h.owned p number (sym (ap (λ (l : List (Option ℕ)). held_in l p) same) ∙ there) in
          absurd (omega (arith, most, its, is)),
    )

dials_trials : (slot : ℕ) (c : Chan) (groups : List (List LegPlan)) (timeout : ℕ) (s : Switch) → Trying None s →
    Trying (Some 0)
    (tried_by_slot slot groups timeout (next_orig_number s) (group_dialed (Some c) (first_group groups) (next_orig_number s) s))
dials_trials slot c groups timeout s h =
    let made : MadeGroup = group_dialed (Some c) (first_group groups) (next_orig_number s) s in
    let loses : Loses s made.state =
    group_loses (all_behind (exported_pairs c.vars) (first_group groups)) (caller_of c) (next_orig_number s) s in
    let first : Trying None made.state = loses_trials None s made.state h loses in
    let begun : Switch = orig_begun (owner.Slot slot) groups made.legs timeout made.state in
    let o : Orig = new_orig (owner.Slot slot) groups made.legs (moment_after made.state.moment (seconds timeout)) in
    let room : s.drawn.origs < 2 ^ 64 - 1 = h.next in
    let drawn : made.state.drawn.origs ≡ s.drawn.origs = loses.drawn in
    let next : begun.drawn.origs ≡ made.state.drawn.origs + 1 = omega (arith, room, drawn) in
    loses_trials (Some 0) begun (after_move (awaiting (next_orig_number s)) slot begun)
    (record { apart = begun_apart made.state o refl next first.apart (least_free made.state.origs 0) refl; next = tt })
    (moved_loses (awaiting (next_orig_number s)) slot begun)
  where
    begun_apart : (t : Switch) (o : Orig) → o.owner ≡ owner.Slot slot → next_orig_number t ≡ t.drawn.origs + 1 → AreApart (trials_of t) →
        (found : Option ℕ) → least_free t.origs 0 ≡ found →
        AreApart
        (record { jobs = t.jobs; owned = owned_in of_slot (with_new_row t.origs (next_orig_number t) o); drawn = next_orig_number t })
    begun_apart t o owns next h None is =
        subst (λ (found : Option ℕ). AreApart
        (record {
          jobs = t.jobs;
          owned = owned_in of_slot
              (with_held_at {T = Numbered Orig} t.origs (Some (record { number = next_orig_number t; held = o })) found);
          drawn = next_orig_number t;
        })) (sym is) (more_drawn (trials_of t) (next_orig_number t) (omega (arith, next)) h)
    begun_apart t o owns next h (Some p) is =
        let added : owned_in of_slot (with_new_row t.origs (next_orig_number t) o)
        ≡ with_held (owned_in of_slot t.origs) p (Some (next_orig_number t)) =
        owned_added of_slot t.origs (next_orig_number t) p o is
        ∙ ap (λ (by : Owner). with_held (owned_in of_slot t.origs) p (of_slot by (next_orig_number t))) owns in
        subst (λ (l : List (Option ℕ)). AreApart (record { jobs = t.jobs; owned = l; drawn = next_orig_number t })) (sym added)
        (subst (λ (n : ℕ). AreApart (record { jobs = t.jobs; owned = with_held (owned_in of_slot t.origs) p (Some n); drawn = n }))
        (sym next) (more_owned (trials_of t) p h))

-- ---- nothing is left

pub none_apart : (jobs origs drawn : ℕ) →
    AreApart (record { jobs = no_seats jobs; owned = owned_in of_slot (no_seats origs); drawn = drawn })
none_apart jobs origs drawn = record {
  tried = λ q job number there tries. absurd (none_held jobs q job there);
  owned = λ p number is. absurd (none_owned of_slot origs p number is);
  apart = λ q p number job there tries is. none_held jobs q job there;
}

-- ---- every move

trying_api : (by : Giver) → KeptByApi by Trying
trying_api by = record {
  spent = λ {s = s} h. spent s h;
  draws = λ h. record { apart = h.apart; next = tt };
  waits = λ what {s = s} wait may room h. begun_trials by what s
      (λ number tries. absurd (none-some number (sym (wait_tries what wait) ∙ tries))) h.apart;
  originates = λ groups winner caller timeout {s = s} may are short room h. originates_trials by groups winner caller timeout s h;
  leavings = λ h. record { apart = h.apart; next = tt };
  ends = λ reply notice {s = s} dead h. record { apart = none_apart (length s.jobs) (length s.origs) s.drawn.origs; next = tt };
}

pub trying_moves : (before : Switch) → KeptByMoves before Trying
trying_moves before = record {
  calls = calls_by_losses Trying loses_trials (λ t h. record { apart = h.apart; next = tt });
  jobs = record {
    out = λ number job {s = s} does h. left_trials None number s h;
    runs = λ number job. trying_api (giver.Job number job);
    woken = λ number who what answer {s = s} wait does h. ended_trials number who answer s h;
    failed = λ job who winner caller orig cause {s = s} does over h.
        ended_trials job who (failed_text cause) (without_orig orig s) (without_trials orig s h);
    wins = λ job who winner caller orig leg slots does won h.
        let s : Switch = raced slots before in
        let t : Switch = after_winning winner (unwrap_or leg.slot 0) s in
        ended_trials job who (made_text leg.uuid) (without_orig orig t)
        (without_trials orig t (loses_trials (Some 0) s t h (winning_loses winner (unwrap_or leg.slot 0) s)));
  };
  dials = record {
    spent = λ {s = s} h. spent s h;
    dials = λ slot c groups timeout {s = s} there works are h. dials_trials slot c groups timeout s h;
    regroups = λ number o plans caller {s = s} there are h.
        loses_trials (Some 0) s (with_group number (group_made plans caller number s)) h (regrouped_loses number plans caller s);
    fails = λ slot orig cause {s = s} waits over h.
        loses_trials (Some 0) (without_orig orig s) (after_bridge_failure cause slot (without_orig orig s)) (without_trials orig s h)
        (failure_loses cause slot (without_orig orig s));
    wins = λ slot orig leg slots waits won h.
        let s : Switch = without_orig orig (raced slots before) in
        loses_trials (Some 0) s (after_bridge_win slot (unwrap_or leg.slot 0) s) (without_trials orig (raced slots before) h)
        (bridge_won_loses slot (unwrap_or leg.slot 0) s);
  };
  commands = λ conn. record {
    api = trying_api (giver.Conn conn);
    noticed = λ frame {s = s} h. record { apart = h.apart; next = h.next };
    gave = λ frame {s = s} h. record { apart = h.apart; next = h.next };
    asked = λ change {n = n} {s = s} h. conn_trials (Some n) (with_subs_changed change) conn s h;
    admitted = λ {n = n} {s = s} fresh h. conn_trials (Some n) admitted conn s h;
    parted = λ why {n = n} {s = s} leaves was h. conn_trials (Some n) (parted why) conn s h;
    backgrounds = λ given command {s = s} room h. background_trials given command s h.apart;
  };
  visits = record {
    arrived = λ h. record { apart = h.apart; next = tt };
    taken = λ conn h. record { apart = h.apart; next = tt };
    holds = λ slot c text there waits room h. record { apart = h.apart; next = tt };
    silent = λ conn {s = s} was h. conn_trials (Some 0) (parted parting.EndOfInput) conn s h;
    left = λ conn was h. record { apart = h.apart; next = tt };
    halted = λ reply notice {s = s} dead h. record { apart = none_apart (length s.jobs) (length s.origs) s.drawn.origs; next = tt };
  };
}
