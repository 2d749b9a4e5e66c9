-- Changes of connections, and jobs that begin and end, in a switch.
use Rattle.std.proofs.Common.{◌≡◌, ◌≢◌, ℕ, ◌+◌, ◌-◌, ◌^◌, ◌<◌, ◌≤◌, min, List, length, Option, None, Some, unwrap_or, refl, sym, ap, subst}
use Rattle.std.proofs.Common.{◌∙◌, arith, []}
use Rattle.std.proofs.lemmas.List.{length-map, length-set}
use Rattle.fs_text.specs.Texts.{Text}
use Rattle.fs_chan.specs.Moments.{moment_after}
use Rattle.fs_orig.specs.declared.caller.Caller.{Caller}
use Rattle.fs_orig.specs.declared.orig.Orig.{Orig}
use Rattle.fs_orig.specs.declared.orig.Owner.TheVariants as owner
use Rattle.fs_orig.specs.declared.plan.LegPlan.{LegPlan}
use Rattle.fs_orig.specs.declared.winner.Winner.{Winner}
use Rattle.fs_orig.specs.Changes.{new_orig}
use Rattle.fs_seats.specs.declared.numbered.Numbered.{Numbered}
use Rattle.fs_seats.specs.Seats.{held_in, with_held, least_free}
use Rattle.fs_seats.specs.Rows.{seat_of, row_of, with_held_at, with_new_row, without_row}
use Rattle.fs_seats.proofs.RowLemmas.{free_least}
use Rattle.fs_seats.proofs.TableLemmas.{something_there, IsRow, HasRow, row_found, no_row, row_written, row_removed, row_added, taken_in}
use Rattle.fs_seats.proofs.TableLemmas.{full_taken, row_of_held}
use Rattle.fs_state.specs.declared.conn.Conn.{Conn}
use Rattle.fs_state.specs.declared.job.Asker.{Asker}
use Rattle.fs_state.specs.declared.job.Asker.TheVariants as asker
use Rattle.fs_state.specs.declared.job.Background.{Background}
use Rattle.fs_state.specs.declared.job.Job.{Job}
use Rattle.fs_state.specs.declared.job.JobWork.{JobWork}
use Rattle.fs_state.specs.declared.job.JobWork.TheVariants.{Run, Originate}
use Rattle.fs_state.specs.Switch.{Switch, next_orig_number, next_job_number, conn_of, with_conn, with_new_job, with_new_orig, without_job}
use Rattle.fs_state.specs.Switch.{with_new_conn, without_conn, without_orig}
use Rattle.fs_machine.specs.Connections.{conn_changed_from, conn_changed, owed_since, not_owed}
use Rattle.fs_machine.specs.Originations.{seconds, MadeGroup, group_made}
use Rattle.fs_machine.specs.Attempts.{first_group, tried_by_job, originate_begun}
use Rattle.fs_machine.specs.declared.owing.Giver.{Giver}
use Rattle.fs_machine.specs.declared.owing.Giver.TheVariants as giver
use Rattle.fs_machine.specs.Owing.{job_number, after_owing, after_job_begin, job_uuid, background_begun, after_job_end}
use Rattle.fs_machine.specs.Step.{new_conn, arrived}
use Rattle.fs_machine.specs.Owed.{Parts}
use Rattle.fs_machine.proofs.OwedBooks.{Conns, Jobs, Books, books_of, books_same, PartEach, Linked, HasNumber, tried_by, trying_in, Tries}
use Rattle.fs_machine.proofs.OwedBooks.{wait_tries, Sound, Near, Goes, Few, tries, books_with, books_lose, SlotsAreFew}
use Rattle.fs_machine.proofs.Kept.{IsWait, DoesJob}
use Rattle.fs_machine.proofs.RestLemmas.{rest_of}
use Rattle.fs_machine.proofs.OwedLemmas.{linked_changed, linked_gone, linked_come, linked_more, linked_begun, linked_apart, linked_ended}
use Rattle.fs_machine.proofs.OwedLemmas.{linked_dropped, same_conn, no_conn, numbers_back, number_left}
use Rattle.fs_machine.proofs.OwedLemmas.{tries_slept, tries_begun, tries_woken, tries_ended, trying_most, trying_begun}
use Rattle.fs_orig.specs.declared.orig.Owner.{Owner}
use Rattle.fs_orig.specs.declared.winner.Winner.TheVariants.{App}
use Rattle.fs_seats.proofs.NumberLemmas.{Numbers, numbers_come}
use Rattle.fs_state.proofs.LegTables.{Origs}
use Rattle.fs_machine.proofs.OwedTables.{job_there, by_job, by_slot, owned_at, owned_in, owned_held, owned_added, owned_removed}
use Rattle.fs_machine.proofs.OwedTables.{taken_apart}
use Rattle.fs_machine.proofs.OwedLosses.{Loses, group_loses}

-- ---- nothing of it changes

pub near_same : (old new : Books) → new.conns_drawn ≡ old.conns_drawn → new.jobs_drawn ≡ old.jobs_drawn →
    new.origs_drawn ≡ old.origs_drawn →
    new.cost ≡ old.cost → new.limit ≡ old.limit → Near old new
near_same old new conns jobs origs cost limit =
    record { conns = omega (arith, conns); jobs = omega (arith, jobs); origs = omega (arith, origs); cost = cost; limit = limit }

pub near_self : (b : Books) → Near b b
near_self b = near_same b b refl refl refl refl refl

-- no number more is drawn, and the cost stays
goes_by : (mid b new : Books) → Linked new.conns new.jobs new.conns_drawn new.jobs_drawn → Tries new.jobs new.origs new.origs_drawn →
    Goes b mid →
    new.conns_drawn ≡ mid.conns_drawn → new.jobs_drawn ≡ mid.jobs_drawn → new.origs_drawn ≡ mid.origs_drawn → new.cost ≡ mid.cost →
    new.limit ≡ mid.limit → Goes b new
goes_by mid b new linked tries h conns jobs origs cost limit = record {
  sound = record { linked = linked; tries = tries };
  near = record {
    conns = omega (arith, h.near.conns, conns);
    jobs = omega (arith, h.near.jobs, jobs);
    origs = omega (arith, h.near.origs, origs);
    cost = cost ∙ h.near.cost;
    limit = limit ∙ h.near.limit;
  };
}

-- ---- connections

-- a connection that is there parts as its phase says
pub parts_of : (s : Switch) (conn : ℕ) (c : Conn) → PartEach s.conns → conn_of s conn ≡ Some c → Parts c
parts_of s conn c each is =
    let found = row_found s.conns conn c is in
    subst (λ (y : Conn). Parts y) found.3 (each found.0 found.1 found.2.there)

-- one is changed that is owed what it was owed before
pub goes_conn : (b : Books) (change : Conn → Conn) (conn : ℕ) (s : Switch) → ((c : Conn) → conn_of s conn ≡ Some c → Parts (change c)) →
    ((c : Conn) → (change c).owed ≡ c.owed) →
    Goes b (books_of s) → Goes b (books_of (conn_changed change conn s))
goes_conn b change conn s parts same h = by (conn_of s conn) refl
  where
    by : (found : Option Conn) → conn_of s conn ≡ found → Goes b (books_of (conn_changed_from change conn found s))
    by None is = h
    by (Some c) is =
        let found = row_found s.conns conn c is in
        let new : Numbered Conn = record { number = conn; held = change c } in
        let fits : Linked (with_held s.conns found.0 (Some new)) s.jobs s.drawn.conns s.drawn.jobs =
        linked_changed s.conns s.jobs s.drawn.conns s.drawn.jobs found.0 found.1 new found.2.there (sym found.2.numbered)
        (same c ∙ sym (ap (λ (y : Conn). y.owed) found.3)) (parts c is) h.sound.linked in
        subst (λ (conns : Conns). Goes b (record (books_of s) { conns = conns }))
        (sym (row_written s.conns conn found.0 (change c) found.2.at))
        (goes_by (books_of s) b
        (record (books_of s) { conns = with_held s.conns found.0 (Some new) }) fits h.sound.tries h refl refl refl refl refl)

-- one is gone
pub goes_gone : (b : Books) (conn : ℕ) (s : Switch) → Goes b (books_of s) → Goes b (books_of (without_conn conn s))
goes_gone b conn s h = by (seat_of s.conns conn)
  where
    by : (found : Option ℕ) → Goes b (record (books_of s) { conns = with_held_at {T = Numbered Conn} s.conns None found })
    by None = h
    by (Some seat) =
        goes_by (books_of s) b (record (books_of s) { conns = with_held s.conns seat None })
        (linked_gone s.conns s.jobs s.drawn.conns s.drawn.jobs seat h.sound.linked) h.sound.tries h
        refl refl refl refl refl

-- one comes that is owed nothing
pub goes_come : (new : Conn) (s : Switch) → new.owed ≡ None → Parts new → Few (books_of s) → Sound (books_of s) →
    Goes (books_of s) (books_of (with_new_conn new s))
goes_come new s none parts few h =
    subst (λ (n : ℕ). Goes (books_of s) (record (books_of s) { conns = with_new_row s.conns n new; conns_drawn = n })) (sym next)
    (by (least_free s.conns 0))
  where
    next : min (s.drawn.conns + 1) (2 ^ 32 - 1) ≡ s.drawn.conns + 1
    next = let most : s.drawn.conns < 2 ^ 30 = few.conns in omega (arith, most)

    by : (found : Option ℕ) →
        Goes (books_of s)
        (record (books_of s) {
          conns = with_held_at {T = Numbered Conn} s.conns (Some (record { number = s.drawn.conns + 1; held = new })) found;
          conns_drawn = s.drawn.conns + 1;
        })
    by None = record {
      sound = record { linked = linked_more s.conns s.jobs s.drawn.conns s.drawn.jobs h.linked; tries = h.tries };
      near = record { conns = omega arith; jobs = omega arith; origs = omega arith; cost = refl; limit = refl };
    }
    by (Some seat) = record {
      sound = record {
        linked = linked_come s.conns s.jobs s.drawn.conns s.drawn.jobs seat
            (record { number = s.drawn.conns + 1; held = new }) refl none parts h.linked;
        tries = h.tries;
      };
      near = record { conns = omega arith; jobs = omega arith; origs = omega arith; cost = refl; limit = refl };
    }

pub goes_arrived : (s : Switch) → Few (books_of s) → Sound (books_of s) → Goes (books_of s) (books_of (arrived s).state)
goes_arrived s few h = goes_come new_conn s refl refl few h

-- ---- a job begins

-- the job of a number, for whoever is told its answer
abbrev job_for : ℕ → Asker → JobWork → Numbered Job
job_for number who work = record { number = number; held = record { asker = who; work = work } }

-- who is told the answer to the command of a giver
abbrev asker_by : Giver → Asker
asker_by (giver.Conn conn) = asker.Conn conn
asker_by (giver.Job number job) = asker.Background job

-- the job that goes on behind that command
abbrev job_by : Giver → JobWork → Switch → Numbered Job
job_by by work s = job_for (job_number by s) (asker_by by) work

-- behind the command of a giver a job may go on: a connection is there that is owed nothing, or a number was drawn that no job has
abbrev pub MayBegin : Books → Giver → Type 0
MayBegin b (giver.Conn conn) = (c : Conn) × (row_of b.conns conn ≡ Some c) × (c.owed ≡ None)
MayBegin b (giver.Job number job) = (number ≤ b.jobs_drawn) × ((q : ℕ) (x : Numbered Job) → held_in b.jobs q ≡ Some x → x.number ≢ number)

-- it begins for a connection that is owed nothing, where a seat for it is free
goes_owing : (b : Books) (u : Switch) (conn : ℕ) (work : JobWork) (c : Conn) (q : ℕ) → conn_of u conn ≡ Some c → c.owed ≡ None →
    least_free u.jobs 0 ≡ Some q →
    u.drawn.jobs < 2 ^ 30 → u.drawn.jobs ≡ b.jobs_drawn → Linked u.conns u.jobs u.drawn.conns u.drawn.jobs →
    Tries (with_held u.jobs q (Some (job_for (next_job_number u) (asker.Conn conn) work))) (owned_in by_job u.origs) u.drawn.origs →
    Near b (books_of u) → Goes b (books_of (after_owing conn work u))
goes_owing b u conn work c q is none is_free few same_jobs linked tries near =
    let found = row_found u.conns conn c is in
    let free = free_least u.jobs q is_free in
    let next : next_job_number u ≡ u.drawn.jobs + 1 = omega (arith, few) in
    let held : Job = record { asker = asker.Conn conn; work = work } in
    let job : Numbered Job = job_for (next_job_number u) (asker.Conn conn) work in
    let new : Numbered Conn = record { number = conn; held = owed_since u.entries c } in
    let begun_fit : Linked (with_held u.conns found.0 (Some new)) (with_held u.jobs q (Some job)) u.drawn.conns (u.drawn.jobs + 1) =
    linked_begun u.conns u.jobs u.drawn.conns u.drawn.jobs found.0 q found.1 new job found.2.there
    (ap (λ (y : Conn). y.owed) found.3 ∙ none) (sym found.2.numbered) (something_there u.entries)
    (parts_of u conn c linked.parts is) free.1 free.0 (ap asker.Conn (sym found.2.numbered)) next linked in
    let fits : Linked (with_held u.conns found.0 (Some new)) (with_held u.jobs q (Some job)) u.drawn.conns (next_job_number u) =
    subst (λ (n : ℕ). Linked (with_held u.conns found.0 (Some new)) (with_held u.jobs q (Some job)) u.drawn.conns n) (sym next) begun_fit in
    let goes : Goes b
    (record (books_of u)
    { conns = with_held u.conns found.0 (Some new); jobs = with_held u.jobs q (Some job); jobs_drawn = next_job_number u }) = record {
      sound = record { linked = fits; tries = tries };
      near = record { conns = near.conns; jobs = omega (arith, next, same_jobs); origs = near.origs; cost = near.cost; limit = near.limit };
    } in
    let with_its_job : Goes b
    (record (books_of u)
    { conns = with_held u.conns found.0 (Some new); jobs = with_new_row u.jobs (next_job_number u) held; jobs_drawn = next_job_number u }) =
    subst (λ (jobs : Jobs). Goes b
    (record (books_of u) { conns = with_held u.conns found.0 (Some new); jobs = jobs; jobs_drawn = next_job_number u }))
    (sym (row_added u.jobs (next_job_number u) q held is_free)) goes in
    let with_both : Goes b (books_of (with_conn conn (owed_since u.entries c) (with_new_job held u))) =
    subst (λ (conns : Conns). Goes b
    (record (books_of u) { conns = conns; jobs = with_new_row u.jobs (next_job_number u) held; jobs_drawn = next_job_number u }))
    (sym (row_written u.conns conn found.0 (owed_since u.entries c) found.2.at)) with_its_job in
    subst (λ (there : Option Conn). Goes b (books_of (conn_changed_from (owed_since u.entries) conn there (with_new_job held u))))
    (sym is) with_both

-- one begins at that seat that is for no connection
goes_apart : (b : Books) (u : Switch) (number more : ℕ) (job : Background) (work : JobWork) (q : ℕ) → least_free u.jobs 0 ≡ Some q →
    Numbers (with_held u.jobs q (Some (job_for number (asker.Background job) work))) more → more ≤ b.jobs_drawn + 1 →
    Linked u.conns u.jobs u.drawn.conns u.drawn.jobs →
    Tries (with_held u.jobs q (Some (job_for number (asker.Background job) work))) (owned_in by_job u.origs) u.drawn.origs →
    Near b (books_of u) →
    Goes b
    (record (books_of u)
    { jobs = with_new_row u.jobs number (record { asker = asker.Background job; work = work }); jobs_drawn = more })
goes_apart b u number more job work q is_free numbers near_more linked tries near =
    let free = free_least u.jobs q is_free in
    let held : Job = record { asker = asker.Background job; work = work } in
    let row : Numbered Job = job_for number (asker.Background job) work in
    let goes : Goes b (record (books_of u) { jobs = with_held u.jobs q (Some row); jobs_drawn = more }) = record {
      sound = record {
        linked = linked_apart u.conns u.jobs u.drawn.conns u.drawn.jobs more q row free.0 (λ conn. no_conn job conn) numbers linked;
        tries = tries;
      };
      near = record { conns = near.conns; jobs = near_more; origs = near.origs; cost = near.cost; limit = near.limit };
    } in
    subst (λ (jobs : Jobs). Goes b (record (books_of u) { jobs = jobs; jobs_drawn = more })) (sym (row_added u.jobs number q held is_free))
    goes

-- a job goes on behind a command
goes_begun : (b : Books) (u : Switch) (by : Giver) (work : JobWork) (q : ℕ) → MayBegin (books_of u) by → least_free u.jobs 0 ≡ Some q →
    u.drawn.jobs < 2 ^ 30 → u.drawn.jobs ≡ b.jobs_drawn → Linked u.conns u.jobs u.drawn.conns u.drawn.jobs →
    Tries (with_held u.jobs q (Some (job_by by work u))) (owned_in by_job u.origs) u.drawn.origs →
    Near b (books_of u) → Goes b (books_of (after_job_begin by work u))
goes_begun b u (giver.Conn conn) work q may is_free few same linked tries near =
    goes_owing b u conn work may.0 q may.1 may.2 is_free few same linked tries near
goes_begun b u (giver.Job number job) work q may is_free few same linked tries near =
    goes_apart b u number u.drawn.jobs job work q is_free
    (numbers_back u.jobs u.drawn.jobs q (job_for number (asker.Background job) work) may.0 may.1 linked.job_numbers)
    (omega (arith, same)) linked tries near

-- msleep, and a load that is waited for
pub goes_wait : (s : Switch) (by : Giver) (what : JobWork) (q : ℕ) → IsWait what → MayBegin (books_of s) by →
    least_free s.jobs 0 ≡ Some q → Few (books_of s) → Sound (books_of s) → Goes (books_of s) (books_of (after_job_begin by what s))
goes_wait s by what q wait may is_free few h =
    let free = free_least s.jobs q is_free in
    goes_begun (books_of s) s by what q may is_free few.jobs refl h.linked
    (tries_slept s.jobs (owned_in by_job s.origs) s.drawn.origs q (job_by by what s) free.1 free.0 (wait_tries what wait) h.tries)
    (near_self (books_of s))

-- a job in the background begins, whose identifier was drawn or given
pub goes_background : (s : Switch) (given : Option Text) (command : Text) (q : ℕ) → least_free s.jobs 0 ≡ Some q → Few (books_of s) →
    Sound (books_of s) → Goes (books_of s) (books_of (background_begun given command s))
goes_background s given command q is_free few h = by given goes
  where
    job : Background
    job = record { uuid = job_uuid given s; command = command }

    row : Numbered Job
    row = job_for (next_job_number s) (asker.Background job) Run

    next : next_job_number s ≡ s.drawn.jobs + 1
    next = let most : s.drawn.jobs < 2 ^ 30 = few.jobs in omega (arith, most)

    fresh : Numbers (with_held s.jobs q (Some row)) (next_job_number s)
    fresh = subst (λ (n : ℕ). Numbers (with_held s.jobs q (Some row)) n) (sym next)
        (numbers_come s.jobs s.drawn.jobs q row next h.linked.job_numbers)

    tried : Tries (with_held s.jobs q (Some row)) (owned_in by_job s.origs) s.drawn.origs
    tried =
        let free = free_least s.jobs q is_free in
        tries_slept s.jobs (owned_in by_job s.origs) s.drawn.origs q row free.1 free.0 refl h.tries

    goes : Goes (books_of s)
        (record (books_of s)
        { jobs = with_new_row s.jobs (next_job_number s) (record { asker = asker.Background job; work = Run }); jobs_drawn = next_job_number s })
    goes =
        goes_apart (books_of s) s (next_job_number s) (next_job_number s) job Run q is_free fresh (omega (arith, next)) h.linked tried
        (near_self (books_of s))

    by : (given : Option Text) →
        Goes (books_of s)
        (record (books_of s) {
          jobs = with_new_row s.jobs (next_job_number s)
              (record { asker = asker.Background (record { uuid = job_uuid given s; command = command }); work = Run });
          jobs_drawn = next_job_number s;
        }) →
        Goes (books_of s) (books_of (background_begun given command s))
    by None h = h
    by (Some uuid) h = h

-- ---- an origination begins

-- where a seat for a job is free, fewer jobs try something than there are seats
trying_fewer : (jobs : Jobs) (q : ℕ) → least_free jobs 0 ≡ Some q → trying_in jobs + 1 ≤ length jobs
trying_fewer jobs q is_free =
    let free = free_least jobs q is_free in
    let job : Numbered Job = job_for 0 (asker.Conn 0) (Originate 0 (App [] []) (record { name = []; number = [] })) in
    let more : trying_in (with_held jobs q (Some job)) ≡ trying_in jobs + tries (Some job) = trying_begun jobs q job free.1 free.0 in
    let one : tries (Some job) ≡ 1 = refl in
    let most : trying_in (with_held jobs q (Some job)) ≤ length (with_held jobs q (Some job)) = trying_most (with_held jobs q (Some job)) in
    let same : length (with_held jobs q (Some job)) ≡ length jobs = length-set jobs q (Some job) in
    omega (arith, more, one, most, same)

-- a seat for one more is free: 1,023 jobs at most try one, and 256 slots own one
pub orig_seat : (jobs : Jobs) (origs : Origs) (drawn q : ℕ) → Tries jobs (owned_in by_job origs) drawn →
    taken_in (owned_in by_slot origs) ≤ 256 → least_free jobs 0 ≡ Some q → least_free origs 0 ≢ None
orig_seat jobs origs drawn q h slots is_free none =
    let all : taken_in origs ≡ length origs = full_taken origs none in
    let apart : taken_in origs ≡ taken_in (owned_in by_job origs) + taken_in (owned_in by_slot origs) = taken_apart origs in
    let fewer : taken_in (owned_in by_job origs) ≤ trying_in jobs = h.fewer in
    let most : trying_in jobs + 1 ≤ length jobs = trying_fewer jobs q is_free in
    let job_seats : length jobs ≡ 1024 = h.job_seats in
    let orig_seats : length (owned_in by_job origs) ≡ 1280 = h.orig_seats in
    let lengths : length (owned_in by_job origs) ≡ length origs = length-map origs (owned_at by_job) in
    omega (arith, all, apart, fewer, slots, most, job_seats, orig_seats, lengths)

-- an origination more changes nothing of that
may_still : (by : Giver) (t : Switch) (o : Orig) → MayBegin (books_of t) by → MayBegin (books_of (with_new_orig o t)) by
may_still (giver.Conn conn) t o may = may
may_still (giver.Job number job) t o may = may

-- at that seat it is there, and the job that tries it
begun_at : (b : Books) (t : Switch) (by : Giver) (orig job : ℕ) (winner : Winner) (caller : Caller) (o : Orig) (q p : ℕ) →
    MayBegin (books_of t) by → least_free t.jobs 0 ≡ Some q →
    least_free t.origs 0 ≡ Some p → t.drawn.jobs < 2 ^ 30 → orig ≡ t.drawn.origs + 1 → next_orig_number t ≡ t.drawn.origs + 1 →
    o.owner ≡ owner.Job job → Sound (books_of t) → b ≡ books_of t →
    Goes b (books_of (after_job_begin by (Originate orig winner caller) (with_new_orig o t)))
begun_at b t by orig owning winner caller o q p may is_free is_orig_free few is_next next owns h same =
    let free = free_least t.jobs q is_free in
    let orig_free = free_least t.origs p is_orig_free in
    let job : Numbered Job = job_by by (Originate orig winner caller) (with_new_orig o t) in
    let lengths : length (owned_in by_job t.origs) ≡ length t.origs = length-map t.origs (owned_at by_job) in
    let number_within : p < length (owned_in by_job t.origs) = subst (λ (n : ℕ). p < n) (sym lengths) orig_free.1 in
    let tried : Tries (with_held t.jobs q (Some job)) (with_held (owned_in by_job t.origs) p (Some (t.drawn.origs + 1)))
    (t.drawn.origs + 1) =
    tries_begun t.jobs (owned_in by_job t.origs) t.drawn.origs q p job free.1 free.0 number_within
    (owned_held by_job t.origs p ∙ ap (owned_at by_job) orig_free.0) (ap Some is_next) h.tries in
    let tried_next : Tries (with_held t.jobs q (Some job)) (with_held (owned_in by_job t.origs) p (Some (next_orig_number t)))
    (next_orig_number t) =
    subst (λ (n : ℕ). Tries (with_held t.jobs q (Some job)) (with_held (owned_in by_job t.origs) p (Some n)) n) (sym next) tried in
    let tried_there : Tries (with_held t.jobs q (Some job)) (owned_in by_job (with_new_row t.origs (next_orig_number t) o))
    (next_orig_number t) =
    subst (λ (origs : List (Option ℕ)). Tries (with_held t.jobs q (Some job)) origs (next_orig_number t))
    (sym (owned_added by_job t.origs (next_orig_number t) p o is_orig_free
    ∙ ap (λ (by : Owner). with_held (owned_in by_job t.origs) p (by_job by (next_orig_number t))) owns)) tried_next in
    let near_t : Near (books_of t) (books_of (with_new_orig o t)) =
    record { conns = omega arith; jobs = omega arith; origs = omega (arith, next); cost = refl; limit = refl } in
    goes_begun b (with_new_orig o t) by (Originate orig winner caller) q (may_still by t o may) is_free few
    (sym (ap (λ (x : Books). x.jobs_drawn) same)) h.linked tried_there
    (subst (λ (old : Books). Near old (books_of (with_new_orig o t))) (sym same) near_t)

-- originate, once the legs of its first group were made
goes_tried : (s : Switch) (made : MadeGroup) (by : Giver) (groups : List (List LegPlan)) (winner : Winner) (caller : Caller) (timeout : ℕ)
    (q : ℕ) → books_of made.state ≡ books_of s → MayBegin (books_of s) by → least_free s.jobs 0 ≡ Some q → Few (books_of s) → SlotsAreFew made.state →
    Sound (books_of s) → Goes (books_of s) (books_of (tried_by_job by groups winner caller timeout (next_orig_number s) made))
goes_tried s made by groups winner caller timeout q same may is_free few slots h = at (least_free made.state.origs 0) refl
  where
    drawn : made.state.drawn.origs ≡ s.drawn.origs
    drawn = ap (λ (b : Books). b.origs_drawn) same

    few_origs : s.drawn.origs < 2 ^ 30
    few_origs = few.origs

    few_jobs : made.state.drawn.jobs < 2 ^ 30
    few_jobs = subst (λ (n : ℕ). n < 2 ^ 30) (sym (ap (λ (b : Books). b.jobs_drawn) same)) few.jobs

    sound : Sound (books_of made.state)
    sound = subst (λ (b : Books). Sound b) (sym same) h

    at : (found : Option ℕ) → least_free made.state.origs 0 ≡ found →
        Goes (books_of s) (books_of (tried_by_job by groups winner caller timeout (next_orig_number s) made))
    at None is_none =
        absurd
        (orig_seat made.state.jobs made.state.origs made.state.drawn.origs q sound.tries slots
        (ap (λ (b : Books). least_free b.jobs 0) same ∙ is_free) is_none)
    at (Some p) is_orig_free =
        begun_at (books_of s) made.state by (next_orig_number s) (job_number by made.state) winner caller
        (new_orig (owner.Job (job_number by made.state)) groups made.legs (moment_after made.state.moment (seconds timeout)))
        q p
        (subst (λ (b : Books). MayBegin b by) (sym same) may)
        (ap (λ (b : Books). least_free b.jobs 0) same ∙ is_free) is_orig_free few_jobs
        (omega (arith, few_origs, drawn)) (omega (arith, few_origs, drawn)) refl sound (sym same)

-- originate
pub goes_originate : (s : Switch) (by : Giver) (groups : List (List LegPlan)) (winner : Winner) (caller : Caller) (timeout : Option ℕ)
    (q : ℕ) → MayBegin (books_of s) by → least_free s.jobs 0 ≡ Some q → Few (books_of s) → SlotsAreFew s →
    Sound (books_of s) → Goes (books_of s) (books_of (originate_begun by groups winner caller timeout s))
goes_originate s by groups winner caller timeout q may is_free few slots h =
    let made : MadeGroup = group_made (first_group groups) caller (next_orig_number s) s in
    let loses : Loses s made.state = group_loses (first_group groups) caller (next_orig_number s) s in
    let less : taken_in (owned_in by_slot made.state.origs) ≤ taken_in (owned_in by_slot s.origs) = loses.slots in
    goes_tried s made by groups winner caller (unwrap_or timeout 60) q (books_lose s made.state loses) may is_free few
    (omega (arith, less, slots)) h

-- ---- a channel dials

-- more numbers were drawn
tries_more : (jobs : Jobs) (origs : List (Option ℕ)) (drawn more : ℕ) → drawn ≤ more → Tries jobs origs drawn → Tries jobs origs more
tries_more jobs origs drawn more less h = record {
  there = h.there;
  alone = h.alone;
  within = λ p number is. let most : number ≤ drawn = h.within p number is in omega (arith, most, less);
  fewer = h.fewer;
  job_seats = h.job_seats;
  orig_seats = h.orig_seats;
}

-- an origination comes that no job owns
pub goes_drawn : (s t : Switch) → rest_of t ≡ rest_of s → owned_in by_job t.origs ≡ owned_in by_job s.origs →
    t.drawn.origs ≡ s.drawn.origs + 1 → Sound (books_of s) → Goes (books_of s) (books_of t)
goes_drawn s t rest jobs drawn h =
    let mid : Books = books_with (rest_of s) (owned_in by_job s.origs) t.drawn.origs in
    let goes : Goes (books_of s) mid = record {
      sound = record {
        linked = h.linked;
        tries = tries_more s.jobs (owned_in by_job s.origs) s.drawn.origs t.drawn.origs (omega (arith, drawn)) h.tries;
      };
      near = record { conns = omega arith; jobs = omega arith; origs = omega (arith, drawn); cost = refl; limit = refl };
    } in
    subst (λ (x : Books). Goes (books_of s) x) (sym (books_same s t rest jobs)) goes

-- ---- a job ends

-- it is gone, and was for no connection that is there
goes_left : (b : Books) (u : Switch) (number q : ℕ) (row : Numbered Job) → IsRow u.jobs number q row →
    ((p : ℕ) (a : Numbered Conn) → held_in u.conns p ≡ Some a → row.held.asker ≢ asker.Conn a.number) →
    Linked u.conns u.jobs u.drawn.conns u.drawn.jobs → Tries (with_held u.jobs q None) (owned_in by_job u.origs) u.drawn.origs →
    Near b (books_of u) → Goes b (books_of (without_job number u))
goes_left b u number q row stands gone linked tries near =
    let goes : Goes b (record (books_of u) { jobs = with_held u.jobs q None }) = record {
      sound = record
          { linked = linked_dropped u.conns u.jobs u.drawn.conns u.drawn.jobs q row stands.there gone linked; tries = tries };
      near = record { conns = near.conns; jobs = near.jobs; origs = near.origs; cost = near.cost; limit = near.limit };
    } in
    subst (λ (jobs : Jobs). Goes b (record (books_of u) { jobs = jobs })) (sym (row_removed u.jobs number q stands.at)) goes

-- it ends, and the connection that it is for, if it is there, is owed nothing any more
goes_ended : (b : Books) (u : Switch) (number : ℕ) (who : Asker) (answer : Text) (q : ℕ) (row : Numbered Job) → IsRow u.jobs number q row →
    row.held.asker ≡ who →
    Linked u.conns u.jobs u.drawn.conns u.drawn.jobs → Tries (with_held u.jobs q None) (owned_in by_job u.origs) u.drawn.origs →
    Near b (books_of u) → Goes b (books_of (after_job_end number who answer u))
goes_ended b u number (asker.Background job) answer q row stands for linked tries near =
    goes_left b u number q row stands (λ p a is same. no_conn job a.number (sym for ∙ same)) linked tries near
goes_ended b u number (asker.Conn conn) answer q row stands for linked tries near = by (conn_of u conn) refl
  where
    by : (found : Option Conn) → conn_of u conn ≡ found → Goes b (books_of (conn_changed_from not_owed conn found (without_job number u)))
    by None is =
        goes_left b u number q row stands
        (λ p a e same. no_row u.conns conn p a is e (same_conn a.number conn (sym same ∙ for)))
        linked tries near
    by (Some c) is =
        let found = row_found u.conns conn c is in
        let new : Numbered Conn = record { number = conn; held = not_owed c } in
        let fits : Linked (with_held u.conns found.0 (Some new)) (with_held u.jobs q None) u.drawn.conns u.drawn.jobs =
        linked_ended u.conns u.jobs u.drawn.conns u.drawn.jobs found.0 q found.1 new row stands.there found.2.there
        (for ∙ ap asker.Conn (sym found.2.numbered)) (sym found.2.numbered) refl
        (parts_of u conn c linked.parts is) linked in
        let goes : Goes b (record (books_of u) { conns = with_held u.conns found.0 (Some new); jobs = with_held u.jobs q None }) = record {
          sound = record { linked = fits; tries = tries };
          near = record { conns = near.conns; jobs = near.jobs; origs = near.origs; cost = near.cost; limit = near.limit };
        } in
        let without_its_job : Goes b
        (record (books_of u) { conns = with_held u.conns found.0 (Some new); jobs = without_row u.jobs number }) =
        subst (λ (jobs : Jobs). Goes b (record (books_of u) { conns = with_held u.conns found.0 (Some new); jobs = jobs }))
        (sym (row_removed u.jobs number q stands.at)) goes in
        subst (λ (conns : Conns). Goes b (record (books_of u) { conns = conns; jobs = without_row u.jobs number }))
        (sym (row_written u.conns conn found.0 (not_owed c) found.2.at)) without_its_job

-- a job that tries nothing is gone
tries_left : (s : Switch) (number q : ℕ) (row : Numbered Job) (what : JobWork) → IsRow s.jobs number q row → row.held.work ≡ what →
    tried_by what ≡ None → Sound (books_of s) → Tries (with_held s.jobs q None) (owned_in by_job s.origs) s.drawn.origs
tries_left s number q row what stands same none h =
    tries_woken s.jobs (owned_in by_job s.origs) s.drawn.origs q row stands.there (ap tried_by same ∙ none) h.tries

-- a job that waited ends
pub goes_woken : (b : Books) (s : Switch) (number : ℕ) (who : Asker) (what : JobWork) (answer : Text) → IsWait what →
    DoesJob s number who what → Goes b (books_of s) → Goes b (books_of (after_job_end number who answer s))
goes_woken b s number who what answer wait does h =
    let found = row_found s.jobs number (record { asker = who; work = what }) does.there in
    goes_ended b s number who answer found.0 found.1 found.2 (ap (λ (y : Job). y.asker) found.3) h.sound.linked
    (tries_left s number found.0 found.1 what found.2 (ap (λ (y : Job). y.work) found.3) (wait_tries what wait) h.sound) h.near

-- a job that is to run a command is taken out
pub goes_out : (s : Switch) (number : ℕ) (job : Background) → DoesJob s number (asker.Background job) Run → Sound (books_of s) →
    Goes (books_of s) (books_of (without_job number s))
goes_out s number job does h =
    let found = row_found s.jobs number (record { asker = asker.Background job; work = Run }) does.there in
    goes_left (books_of s) s number found.0 found.1 found.2
    (λ p a is same. no_conn job a.number (sym (ap (λ (y : Job). y.asker) found.3) ∙ same)) h.linked
    (tries_left s number found.0 found.1 Run found.2 (ap (λ (y : Job). y.work) found.3) refl h) (near_self (books_of s))

-- it may go on under its number
pub out_may : (s : Switch) (number : ℕ) (job : Background) → DoesJob s number (asker.Background job) Run → Sound (books_of s) →
    MayBegin (books_of (without_job number s)) (giver.Job number job)
out_may s number job does h =
    let found = row_found s.jobs number (record { asker = asker.Background job; work = Run }) does.there in
    (subst (λ (n : ℕ). n ≤ s.drawn.jobs) found.2.numbered (h.linked.job_numbers.within found.0 found.1 found.2.there), left)
  where
    left : (q : ℕ) (x : Numbered Job) → held_in (without_row s.jobs number) q ≡ Some x → x.number ≢ number
    left q x e same =
        let found = row_found s.jobs number (record { asker = asker.Background job; work = Run }) does.there in
        number_left s.jobs s.drawn.jobs found.0 found.1 found.2.there h.linked.job_numbers q x
        (sym (ap (λ (jobs : Jobs). held_in jobs q) (row_removed s.jobs number found.0 found.2.at)) ∙ e) (same ∙ sym found.2.numbered)

-- the row of the origination that it tried, which is the only one of its number
job_row : (origs : Origs) (drawn p number : ℕ) → Numbers origs drawn → held_in (owned_in by_job origs) p ≡ Some number →
    seat_of origs number ≡ Some p
job_row origs drawn p number numbers told =
    let there = job_there origs p number told in
    let found : HasRow origs there.0.number = row_of_held origs p there.0 there.1 in
    let seat : found.0 ≡ p = numbers.apart found.0 p found.1 there.0 found.2.there there.1 found.2.numbered in
    ap (seat_of origs) (sym there.2) ∙ (found.2.at ∙ ap Some seat)

-- a job ends with the row of the origination that it tried
tries_without : (jobs : Jobs) (origs : Origs) (drawn q number : ℕ) (job : Numbered Job) → Numbers origs drawn →
    held_in jobs q ≡ Some job → tried_by job.held.work ≡ Some number →
    Tries jobs (owned_in by_job origs) drawn → Tries (with_held jobs q None) (owned_in by_job (without_row origs number)) drawn
tries_without jobs origs drawn q number job numbers stands tried h =
    let had : HasNumber (owned_in by_job origs) number = h.there q job number stands tried in
    subst (λ (numbers : List (Option ℕ)). Tries (with_held jobs q None) numbers drawn)
    (sym (owned_removed by_job origs number had.0 (job_row origs drawn had.0 number numbers had.1)))
    (tries_ended jobs (owned_in by_job origs) drawn q had.0 number job stands tried had.1 h)

-- a job ends with the origination that it tried
pub goes_over : (b : Books) (s : Switch) (number : ℕ) (who : Asker) (orig : ℕ) (winner : Winner) (caller : Caller) (answer : Text) →
    Numbers s.origs s.drawn.origs → DoesJob s number who (Originate orig winner caller) → Goes b (books_of s) →
    Goes b (books_of (after_job_end number who answer (without_orig orig s)))
goes_over b s number who orig winner caller answer numbers does h =
    let found = row_found s.jobs number (record { asker = who; work = Originate orig winner caller }) does.there in
    let fits : Tries (with_held s.jobs found.0 None) (owned_in by_job (without_row s.origs orig)) s.drawn.origs =
    tries_without s.jobs s.origs s.drawn.origs found.0 orig found.1 numbers found.2.there
    (ap (λ (y : Job). tried_by y.work) found.3) h.sound.tries in
    goes_ended b (without_orig orig s) number who answer found.0 found.1 found.2 (ap (λ (y : Job). y.asker) found.3) h.sound.linked fits
    (record { conns = h.near.conns; jobs = h.near.jobs; origs = h.near.origs; cost = h.near.cost; limit = h.near.limit })
