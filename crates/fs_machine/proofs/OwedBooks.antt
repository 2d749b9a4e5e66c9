-- What is known of connections, of the jobs that owe them replies, and of the originations that these try.
use Rattle.std.proofs.Common.{◌≡◌, ◌≢◌, ℕ, ◌+◌, ◌*◌, ◌^◌, ◌<◌, ◌≤◌, List, length, Option, None, Some, refl, ap, ◌∙◌}
use Rattle.std.specs.List.{sum_by}
use Rattle.fs_seats.specs.declared.numbered.Numbered.{Numbered}
use Rattle.fs_seats.specs.Seats.{held_in}
use Rattle.fs_seats.proofs.TableLemmas.{one_if, taken_in}
use Rattle.fs_seats.proofs.NumberLemmas.{Numbers}
use Rattle.fs_state.specs.declared.conn.Conn.{Conn}
use Rattle.fs_state.specs.declared.job.Asker.TheVariants as asker
use Rattle.fs_state.specs.declared.job.Job.{Job}
use Rattle.fs_state.specs.declared.job.JobWork.{JobWork}
use Rattle.fs_state.specs.declared.job.JobWork.TheVariants.{Run, Sleep, Originate, Load}
use Rattle.fs_state.specs.Switch.{Switch}
use Rattle.fs_machine.specs.Owed.{Parts}
use Rattle.fs_machine.proofs.Kept.{IsWait}
use Rattle.fs_machine.proofs.RestLemmas.{Rest, rest_of}
use Rattle.fs_machine.proofs.OwedTables.{by_job, by_slot, owned_in}
use Rattle.fs_machine.proofs.OwedLosses.{Loses}

abbrev pub Conns : Type 0
Conns = List (Option (Numbered Conn))

abbrev pub Jobs : Type 0
Jobs = List (Option (Numbered Job))

-- what of a switch the replies that are owed depend on; of originations that is the numbers of those that jobs own
pub record Books : Type 0 where
  pub conns : Conns
  pub jobs : Jobs
  pub origs : List (Option ℕ)
  pub conns_drawn : ℕ
  pub jobs_drawn : ℕ
  pub origs_drawn : ℕ
  pub cost : ℕ
  pub limit : ℕ

abbrev pub books_with : Rest → List (Option ℕ) → ℕ → Books
books_with r origs drawn = record {
  conns = r.conns;
  jobs = r.jobs;
  origs = origs;
  conns_drawn = r.conns_drawn;
  jobs_drawn = r.jobs_drawn;
  origs_drawn = drawn;
  cost = r.cost;
  limit = r.settings.journal_limit;
}

abbrev pub books_of : Switch → Books
books_of s = books_with (rest_of s) (owned_in by_job s.origs) s.drawn.origs

-- they tell of the rest, and of what jobs own
pub books_same : (s t : Switch) → rest_of t ≡ rest_of s → owned_in by_job t.origs ≡ owned_in by_job s.origs →
    books_of t ≡ books_with (rest_of s) (owned_in by_job s.origs) t.drawn.origs
books_same s t rest jobs =
    ap (λ (r : Rest). books_with r (owned_in by_job t.origs) t.drawn.origs) rest
    ∙ ap (λ (origs : List (Option ℕ)). books_with (rest_of s) origs t.drawn.origs) jobs

pub books_lose : (s t : Switch) → Loses s t → books_of t ≡ books_of s
books_lose s t h =
    books_same s t h.rest h.jobs ∙ ap (λ (drawn : ℕ). books_with (rest_of s) (owned_in by_job s.origs) drawn) h.drawn

-- no more originations are owned by slots than there are slots
abbrev pub SlotsAreFew : Switch → Type 0
SlotsAreFew s = taken_in (owned_in by_slot s.origs) ≤ 256

-- ---- connections

-- each connection parts as its phase says
abbrev pub PartEach : Conns → Type 0
PartEach conns = (p : ℕ) (a : Numbered Conn) → held_in conns p ≡ Some a → Parts a.held

-- ---- jobs and the connections that they are for

abbrev pub HasJob : Jobs → ℕ → Type 0
HasJob jobs conn = (q : ℕ) × (job : Numbered Job) × (held_in jobs q ≡ Some job) × (job.held.asker ≡ asker.Conn conn)

-- a reply that is owed has one job, and the connection that a job is for is owed a reply, if it is still there
pub record Owes (conns : Conns) (jobs : Jobs) (drawn : ℕ) : Type 0 where
  pub owed : (p : ℕ) (a : Numbered Conn) (since : ℕ) → held_in conns p ≡ Some a → a.held.owed ≡ Some since → HasJob jobs a.number
  pub owes : (q : ℕ) (job : Numbered Job) (p : ℕ) (a : Numbered Conn) → held_in jobs q ≡ Some job → held_in conns p ≡ Some a →
      job.held.asker ≡ asker.Conn a.number → a.held.owed ≢ None
  pub alone : (q r : ℕ) (a c : Numbered Job) (conn : ℕ) → held_in jobs q ≡ Some a → held_in jobs r ≡ Some c →
      a.held.asker ≡ asker.Conn conn → c.held.asker ≡ asker.Conn conn → q ≡ r
  pub within : (q : ℕ) (job : Numbered Job) (conn : ℕ) → held_in jobs q ≡ Some job → job.held.asker ≡ asker.Conn conn → conn ≤ drawn

-- connections and jobs as they must be
pub record Linked (conns : Conns) (jobs : Jobs) (drawn jobs_drawn : ℕ) : Type 0 where
  pub numbers : Numbers conns drawn
  pub parts : PartEach conns
  pub job_numbers : Numbers jobs jobs_drawn
  pub owes : Owes conns jobs drawn

-- ---- jobs and the originations that they try

-- the origination that work tries, if it tries one
abbrev pub tried_by : JobWork → Option ℕ
tried_by Run = None
tried_by (Sleep until) = None
tried_by (Originate orig winner caller) = Some orig
tried_by Load = None

-- work that only waits tries none
pub wait_tries : (what : JobWork) → IsWait what → tried_by what ≡ None
wait_tries Run wait = refl
wait_tries (Sleep until) wait = refl
wait_tries (Originate orig winner caller) wait = absurd wait
wait_tries Load wait = refl

abbrev pub tried_in : Option (Numbered Job) → Option ℕ
tried_in None = None
tried_in (Some job) = tried_by job.held.work

abbrev pub tries : Option (Numbered Job) → ℕ
tries held = one_if (tried_in held)

abbrev pub trying_in : Jobs → ℕ
trying_in jobs = sum_by tries jobs

abbrev pub HasNumber : List (Option ℕ) → ℕ → Type 0
HasNumber origs number = (p : ℕ) × (held_in origs p ≡ Some number)

-- what a job tries is there and is owned by a job, is tried by no other job, and has a number that was drawn; jobs own no more than is
-- tried, so there is always a seat for one more
pub record Tries (jobs : Jobs) (origs : List (Option ℕ)) (drawn : ℕ) : Type 0 where
  pub there : (q : ℕ) (job : Numbered Job) (number : ℕ) → held_in jobs q ≡ Some job → tried_by job.held.work ≡ Some number →
      HasNumber origs number
  pub alone : (q r : ℕ) (a c : Numbered Job) (number : ℕ) → held_in jobs q ≡ Some a → held_in jobs r ≡ Some c →
      tried_by a.held.work ≡ Some number → tried_by c.held.work ≡ Some number → q ≡ r
  pub within : (p number : ℕ) → held_in origs p ≡ Some number → number ≤ drawn
  pub fewer : taken_in origs ≤ trying_in jobs
  pub job_seats : length jobs ≡ 1024
  pub orig_seats : length origs ≡ 1280

-- ---- all of it

pub record Sound (b : Books) : Type 0 where
  pub linked : Linked b.conns b.jobs b.conns_drawn b.jobs_drawn
  pub tries : Tries b.jobs b.origs b.origs_drawn

-- at most one number more of each kind was drawn; the cost and the limit are as before
pub record Near (old new : Books) : Type 0 where
  pub conns : new.conns_drawn ≤ old.conns_drawn + 1
  pub jobs : new.jobs_drawn ≤ old.jobs_drawn + 1
  pub origs : new.origs_drawn ≤ old.origs_drawn + 1
  pub cost : new.cost ≡ old.cost
  pub limit : new.limit ≡ old.limit

-- it is all as it must be, near what it was
pub record Goes (old new : Books) : Type 0 where
  pub sound : Sound new
  pub near : Near old new

-- few numbers were drawn, so the next ones are fresh
pub record Few (b : Books) : Type 0 where
  pub conns : b.conns_drawn < 2 ^ 30
  pub jobs : b.jobs_drawn < 2 ^ 30
  pub origs : b.origs_drawn < 2 ^ 30

-- each number that was drawn was paid for, and the limit is small
pub record Paid (b : Books) : Type 0 where
  pub conns : 64 * b.conns_drawn ≤ b.cost
  pub jobs : 64 * b.jobs_drawn ≤ b.cost
  pub origs : 64 * b.origs_drawn ≤ b.cost
  pub limit : b.limit ≤ 1073741824
