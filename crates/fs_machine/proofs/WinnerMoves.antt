-- Each act keeps the texts short by which the winners of originations are to be routed.
use Rattle.std.proofs.Common.{◌≡◌, ℕ, List, length, Option, None, Some, unwrap_or, refl, sym, ap, subst}
use Rattle.fs_text.specs.Texts.{Text}
use Rattle.fs_orig.specs.declared.caller.Caller.{Caller}
use Rattle.fs_orig.specs.declared.orig.Owner.TheVariants as owner
use Rattle.fs_orig.specs.declared.plan.LegPlan.{LegPlan}
use Rattle.fs_orig.specs.declared.winner.Winner.{Winner}
use Rattle.fs_seats.specs.declared.numbered.Numbered.{Numbered}
use Rattle.fs_seats.specs.Seats.{no_seats, held_in, least_free}
use Rattle.fs_seats.proofs.HeldLemmas.{nothing_held}
use Rattle.fs_seats.specs.Rows.{seat_of, with_new_row}
use Rattle.fs_seats.proofs.RowLemmas.{each_put_at}
use Rattle.fs_seats.proofs.TableLemmas.{row_found}
use Rattle.fs_state.specs.declared.conn.Conn.{Conn}
use Rattle.fs_state.specs.declared.conn.Parting.TheVariants as parting
use Rattle.fs_state.specs.declared.job.Asker.{Asker}
use Rattle.fs_state.specs.declared.job.Asker.TheVariants as asker
use Rattle.fs_state.specs.declared.job.Job.{Job}
use Rattle.fs_state.specs.declared.job.JobWork.{JobWork}
use Rattle.fs_state.specs.declared.job.JobWork.TheVariants.{Run, Sleep, Originate, Load}
use Rattle.fs_state.specs.Switch.{Switch, next_orig_number, next_job_number, with_new_job, without_job, without_orig}
use Rattle.fs_state.specs.Switch.{with_next_identifier}
use Rattle.fs_machine.specs.Texts.{made_text, failed_text}
use Rattle.fs_machine.specs.Connections.{conn_changed, admitted, parted, owed_since, not_owed, with_subs_changed}
use Rattle.fs_machine.specs.Originations.{MadeGroup, group_made, after_winning}
use Rattle.fs_machine.specs.Attempts.{first_group, orig_begun, originate_begun}
use Rattle.fs_machine.specs.declared.owing.Giver.{Giver}
use Rattle.fs_machine.specs.declared.owing.Giver.TheVariants as giver
use Rattle.fs_machine.specs.Owing.{job_number, after_job_begin, job_uuid, background_begun, after_job_end}
use Rattle.fs_machine.proofs.Kept.{Fact, IsWait, DoesJob, raced, IsShortWinner, KeptByApi, KeptByMoves}
use Rattle.fs_machine.proofs.FrontLemmas.{conn_unread}
use Rattle.fs_machine.proofs.RestLemmas.{Rest, rest_of, calls_by_rest, dials_by_rest, group_made_rest, won_rest}

-- the winner that work has is routed by short texts
abbrev pub IsShortWork : JobWork → Type 0
IsShortWork Run = Unit {0}
IsShortWork (Sleep until) = Unit {0}
IsShortWork (Originate orig winner caller) = IsShortWinner winner
IsShortWork Load = Unit {0}

-- work that only waits has none
wait_is_short : (what : JobWork) → IsWait what → IsShortWork what
wait_is_short Run wait = tt
wait_is_short (Sleep until) wait = tt
wait_is_short (Originate orig winner caller) wait = absurd wait
wait_is_short Load wait = tt

abbrev pub ShortIn : Option (Numbered Job) → Type 0
ShortIn None = Unit {0}
ShortIn (Some job) = IsShortWork job.held.work

abbrev pub WinnersAreShort : List (Option (Numbered Job)) → Type 0
WinnersAreShort jobs = (seat : ℕ) → ShortIn (held_in jobs seat)

abbrev pub Winners : Fact
Winners b s = WinnersAreShort s.jobs

-- so is that of a job that is there
pub winner_of_job : (s : Switch) (number : ℕ) (who : Asker) (orig : ℕ) (winner : Winner) (caller : Caller) →
    DoesJob s number who (Originate orig winner caller) →
    WinnersAreShort s.jobs → IsShortWinner winner
winner_of_job s number who orig winner caller does h =
    let found = row_found s.jobs number (record { asker = who; work = Originate orig winner caller }) does.there in
    let there : IsShortWork found.1.held.work = subst ShortIn found.2.there (h found.0) in
    subst (λ (job : Job). IsShortWork job.work) found.3 there

conn_jobs : (change : Conn → Conn) (conn : ℕ) (s : Switch) → (conn_changed change conn s).jobs ≡ s.jobs
conn_jobs change conn s = conn_unread (λ (t : Switch). t.jobs) (λ conns t. refl) change conn s

same_winners : (s t : Switch) → t.jobs ≡ s.jobs → WinnersAreShort s.jobs → WinnersAreShort t.jobs
same_winners s t same h = subst WinnersAreShort (sym same) h

-- a job more has short texts, whichever its number
more_winners : (number : ℕ) (job : Job) (s : Switch) → IsShortWork job.work → WinnersAreShort s.jobs →
    WinnersAreShort (with_new_row s.jobs number job)
more_winners number job s short h =
    each_put_at ShortIn s.jobs (Some (record { number = number; held = job })) (least_free s.jobs 0) h short

owing_winners : (by : Giver) (what : JobWork) (s : Switch) → IsShortWork what → WinnersAreShort s.jobs →
    WinnersAreShort (after_job_begin by what s).jobs
owing_winners (giver.Conn conn) what s short h =
    let begun : Switch = with_new_job (record { asker = asker.Conn conn; work = what }) s in
    same_winners begun (after_job_begin (giver.Conn conn) what s) (conn_jobs (owed_since s.entries) conn begun)
    (more_winners (next_job_number s) (record { asker = asker.Conn conn; work = what }) s short h)
owing_winners (giver.Job number job) what s short h =
    more_winners number (record { asker = asker.Background job; work = what }) s short h

left_winners : (number : ℕ) (s : Switch) → WinnersAreShort s.jobs → WinnersAreShort (without_job number s).jobs
left_winners number s h = each_put_at ShortIn s.jobs None (seat_of s.jobs number) h tt

ended_winners : (number : ℕ) (who : Asker) (answer : Text) (s : Switch) → WinnersAreShort s.jobs →
    WinnersAreShort (after_job_end number who answer s).jobs
ended_winners number (asker.Conn conn) answer s h =
    same_winners (without_job number s) (after_job_end number (asker.Conn conn) answer s) (conn_jobs not_owed conn (without_job number s))
    (left_winners number s h)
ended_winners number (asker.Background job) answer s h = left_winners number s h

-- by what leaves the rest as it is
pub rest_winners : (s t : Switch) → rest_of t ≡ rest_of s → WinnersAreShort s.jobs → WinnersAreShort t.jobs
rest_winners s t same h = same_winners s t (ap (λ (r : Rest). r.jobs) same) h

originates_winners : (by : Giver) (groups : List (List LegPlan)) (winner : Winner) (caller : Caller) (timeout : Option ℕ) (s : Switch) →
    IsShortWinner winner → WinnersAreShort s.jobs →
    WinnersAreShort (originate_begun by groups winner caller timeout s).jobs
originates_winners by groups winner caller timeout s short h =
    let made : MadeGroup = group_made (first_group groups) caller (next_orig_number s) s in
    owing_winners by (Originate (next_orig_number s) winner caller)
    (orig_begun (owner.Job (job_number by made.state)) groups made.legs (unwrap_or timeout 60) made.state)
    short
    (rest_winners s made.state (group_made_rest (first_group groups) caller (next_orig_number s) s) h)

-- where there is no job
no_winners : (count : ℕ) → WinnersAreShort (no_seats {T = Numbered Job} count)
no_winners count seat = subst ShortIn (sym (nothing_held (Numbered Job) count seat)) tt

winners_api : (by : Giver) → KeptByApi by Winners
winners_api by = record {
  spent = λ h. h;
  draws = λ h. h;
  waits = λ what {s = s} wait may room h. owing_winners by what s (wait_is_short what wait) h;
  originates = λ groups winner caller timeout {s = s} may are short room h. originates_winners by groups winner caller timeout s short h;
  leavings = λ h. h;
  ends = λ reply notice {s = s} dead h. no_winners (length s.jobs);
}

-- a job in the background has no winner yet
background_winners : (given : Option Text) (command : Text) (s : Switch) → WinnersAreShort s.jobs →
    WinnersAreShort (background_begun given command s).jobs
background_winners None command s h =
    let drawn : Switch = with_next_identifier s in
    more_winners (next_job_number drawn)
    (record { asker = asker.Background (record { uuid = job_uuid None s; command = command }); work = Run }) drawn tt h
background_winners (Some uuid) command s h =
    more_winners (next_job_number s)
    (record { asker = asker.Background (record { uuid = uuid; command = command }); work = Run }) s tt h

pub winners_moves : (before : Switch) → KeptByMoves before Winners
winners_moves before = record {
  calls = calls_by_rest Winners (λ b t u h same. rest_winners t u same h) (λ t h. h);
  jobs = record {
    out = λ number job {s = s} does h. left_winners number s h;
    runs = λ number job. winners_api (giver.Job number job);
    woken = λ number who what answer {s = s} wait does h. ended_winners number who answer s h;
    failed = λ job who winner caller orig cause {s = s} does over h. ended_winners job who (failed_text cause) (without_orig orig s) h;
    wins = λ job who winner caller orig leg slots does won h.
        let t : Switch = raced slots before in
        let u : Switch = after_winning winner (unwrap_or leg.slot 0) t in
        ended_winners job who (made_text leg.uuid) (without_orig orig u)
        (rest_winners t u (won_rest winner (unwrap_or leg.slot 0) t) h);
  };
  dials = dials_by_rest before Winners (λ b t u h same. rest_winners t u same h) (λ t h. h);
  commands = λ conn. record {
    api = winners_api (giver.Conn conn);
    noticed = λ frame h. h;
    gave = λ frame h. h;
    asked = λ change {s = s} h. same_winners s (conn_changed (with_subs_changed change) conn s)
        (conn_jobs (with_subs_changed change) conn s) h;
    admitted = λ {s = s} fresh h. same_winners s (conn_changed admitted conn s) (conn_jobs admitted conn s) h;
    parted = λ why {s = s} leaves was h. same_winners s (conn_changed (parted why) conn s) (conn_jobs (parted why) conn s) h;
    backgrounds = λ given command {s = s} room h. background_winners given command s h;
  };
  visits = record {
    arrived = λ h. h;
    taken = λ conn h. h;
    holds = λ slot c text there waits room h. h;
    silent = λ conn {s = s} was h. same_winners s (conn_changed (parted parting.EndOfInput) conn s)
        (conn_jobs (parted parting.EndOfInput) conn s) h;
    left = λ conn was h. h;
    halted = λ reply notice {s = s} dead h. no_winners (length s.jobs);
  };
}
