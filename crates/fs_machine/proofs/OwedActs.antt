-- What entries do keeps the facts on connections, on jobs and on originations.
use Rattle.std.proofs.Common.{◌≡◌, ℕ, Bool, true, false, not, List, Option, None, Some, is_none, unwrap_or, refl, sym, ap, subst, ◌∙◌, ◌≤◌}
use Rattle.std.proofs.Common.{◌<◌, ◌^◌, ◌+◌, map, arith}
use Rattle.std.specs.Option.{option_and_then}
use Rattle.std.proofs.lemmas.Bool.{false≢true, not-false}
use Rattle.fs_text.specs.Texts.{Text}
use Rattle.fs_text.specs.declared.causes.Cause.TheVariants.{SystemShutdown}
use Rattle.fs_bridge.specs.Closure.{Members}
use Rattle.fs_cmd.specs.Commands.{command_of}
use Rattle.fs_cmd.specs.Frames.{notice}
use Rattle.fs_filter.specs.Subscriptions.{Subscription}
use Rattle.fs_orig.specs.declared.caller.Caller.{Caller}
use Rattle.fs_orig.specs.declared.leg.OrigLeg.{OrigLeg}
use Rattle.fs_orig.specs.declared.plan.LegPlan.{LegPlan}
use Rattle.fs_orig.specs.declared.winner.Winner.{Winner}
use Rattle.fs_seats.specs.Seats.{least_free}
use Rattle.fs_seats.specs.Rows.{row_of}
use Rattle.fs_seats.proofs.TableLemmas.{something_there, taken_in}
use Rattle.fs_state.specs.declared.conn.Conn.{Conn}
use Rattle.fs_state.specs.declared.conn.Phase.{Phase}
use Rattle.fs_state.specs.declared.conn.Phase.TheVariants as phase
use Rattle.fs_state.specs.declared.conn.Parting.{Parting}
use Rattle.fs_state.specs.declared.conn.Parting.TheVariants as parting
use Rattle.fs_state.specs.declared.job.Asker.{Asker}
use Rattle.fs_state.specs.declared.job.Asker.TheVariants as asker
use Rattle.fs_state.specs.declared.job.Background.{Background}
use Rattle.fs_state.specs.declared.job.JobWork.{JobWork}
use Rattle.fs_state.specs.declared.job.JobWork.TheVariants as work
use Rattle.fs_state.specs.Switch.{Switch, conn_of, is_full_of_jobs, without_job, without_orig, with_frame_now, with_notice}
use Rattle.fs_state.specs.Switch.{next_orig_number, with_event}
use Rattle.fs_state.specs.Hangups.{after_hangups}
use Rattle.fs_machine.specs.declared.entry.Act.{Act}
use Rattle.fs_machine.specs.declared.entry.Act.TheVariants as act
use Rattle.fs_machine.specs.declared.entry.Closing.{Closing}
use Rattle.fs_machine.specs.declared.entry.Closing.TheVariants as closing
use Rattle.fs_machine.specs.declared.refusal.Refusal.TheVariants as refusal
use Rattle.fs_machine.specs.Texts.{made_text, failed_text}
use Rattle.fs_machine.specs.Hangups.{all_slots, after_hangup_of_all}
use Rattle.fs_machine.specs.Shutdown.{shutdown_event, stopped_reply, after_shutdown}
use Rattle.fs_machine.specs.Connections.{phase_of, phase_at, conn_changed, admitted, parted, with_subs_changed}
use Rattle.fs_machine.specs.Questions.{owed_of, owed_to}
use Rattle.fs_machine.specs.Originations.{group_made, after_winning, seconds, MadeGroup}
use Rattle.fs_machine.specs.Attempts.{originate_begun, with_group, first_group, orig_begun, awaits}
use Rattle.fs_machine.specs.declared.owing.Giver.{Giver}
use Rattle.fs_machine.specs.declared.owing.Giver.TheVariants as giver
use Rattle.fs_machine.specs.Owing.{after_job_begin, background_begun, after_job_end}
use Rattle.fs_machine.specs.Controlling.{controller, after_dial, after_letting_go, after_leavings}
use Rattle.fs_machine.specs.Step.{reads, busy, refused_act, after_close, acted, act_done}
use Rattle.fs_machine.specs.Owed.{PartsIn}
use Rattle.fs_machine.proofs.Kept.{Stage, Fact, KeptByCalls, DoesJob, raced, KeptByJobs, KeptByCommands, KeptByTouches, KeptByDials}
use Rattle.fs_machine.proofs.Kept.{none_joined_by, IsWait, MayGoOn, goes_on_by, KeptByApi, KeptByMoves}
use Rattle.fs_machine.proofs.Walk.{worked_kept}
use Rattle.fs_machine.proofs.RestLemmas.{does_same, won_rest}
use Rattle.fs_machine.proofs.OrderLemmas.{none_refused}
use Rattle.fs_machine.proofs.LoadLemmas.{load_kept}
use Rattle.fs_machine.proofs.ActWalk.{job_kept, commanded_kept}
use Rattle.fs_machine.proofs.OwedBooks.{Books, books_of, Sound, Goes, Few, SlotsAreFew, books_lose}
use Rattle.fs_machine.proofs.DialedLemmas.{dialed_by}
use Rattle.fs_machine.proofs.OwedEnds.{goes_ended}
use Rattle.fs_machine.proofs.OwedLeavings.{goes_left}
use Rattle.fs_machine.proofs.OwedJobs.{near_self, parts_of, goes_conn, goes_gone, goes_arrived, goes_wait, goes_originate, goes_woken}
use Rattle.fs_machine.proofs.OwedJobs.{goes_come, goes_over, goes_drawn, MayBegin, goes_background, goes_out, out_may}
use Rattle.fs_text.specs.declared.causes.Cause.{Cause}
use Rattle.fs_chan.specs.declared.chan.Chan.{Chan}
use Rattle.fs_chan.specs.Bridging.{exported_pairs, awaiting}
use Rattle.fs_chan.specs.Moments.{moment_after}
use Rattle.fs_orig.specs.declared.orig.Owner.TheVariants as owner
use Rattle.fs_orig.specs.Changes.{new_orig}
use Rattle.fs_orig.specs.Plans.{all_behind}
use Rattle.fs_seats.proofs.NumberLemmas.{Numbers}
use Rattle.fs_state.specs.Moves.{after_move, after_completion}
use Rattle.fs_machine.specs.Bridging.{caller_of, group_dialed, after_bridge_failure, after_bridge_win}
use Rattle.fs_machine.specs.Dialing.{tried_by_slot}
use Rattle.fs_machine.proofs.OwedTables.{by_job, by_slot, owned_in, untold_added}
use Rattle.fs_machine.proofs.OwedLosses.{Loses, moved_loses, winning_loses, calls_by_losses, failure_loses, bridge_won_loses, group_loses}
use Rattle.fs_machine.proofs.OwedLosses.{freed_loses, completed_loses, regrouped_loses, OwnsAwaited, awaited_loses, winning_numbers, hung_loses}

-- ---- refusals

not_busy : (owed : Option ℕ) → busy owed ≡ None → owed ≡ None
not_busy None is = refl
not_busy (Some since) is = absurd (something_there (refusal.Busy since) is)

-- who gives a command that is not refused is there, and is owed nothing
pub record MayOwe (s : Switch) (conn : ℕ) (c : Conn) : Type 0 where
  pub there : conn_of s conn ≡ Some c
  pub none : c.owed ≡ None

may_owe : (s : Switch) (conn : ℕ) → reads (phase_at s conn) ≡ true → owed_to s conn ≡ None → (c : Conn) × MayOwe s conn c
may_owe s conn reading none = by (conn_of s conn) refl
  where
    by : (found : Option Conn) → conn_of s conn ≡ found → (c : Conn) × MayOwe s conn c
    by None is = absurd (false≢true (sym (ap (λ (found : Option Conn). reads (phase_of found)) is) ∙ reading))
    by (Some c) is = (c, record { there = is; none = sym (ap (λ (found : Option Conn). option_and_then owed_of found) is) ∙ none })

-- ---- every move

-- but for jobs, the books are what they were
abbrev IsFrom : Books → Switch → Type 0
IsFrom b t = books_of t ≡ record b { jobs = t.jobs }

-- at first the books are as they must be, and but for jobs what they were, and slots own few originations; once something has begun they
-- are as they must be, near what they were
abbrev GoesFrom : Books → Fact
GoesFrom b None t = Sound (books_of t) × IsFrom b t × SlotsAreFew t
GoesFrom b (Some n) t = Goes b (books_of t)

goes_loses : (b : Books) (stage : Stage) (t u : Switch) → GoesFrom b stage t → Loses t u → GoesFrom b stage u
goes_loses b None t u h loses =
    let few : taken_in (owned_in by_slot t.origs) ≤ 256 = h.2 in
    let less : taken_in (owned_in by_slot u.origs) ≤ taken_in (owned_in by_slot t.origs) = loses.slots in
    let same : books_of u ≡ books_of t = books_lose t u loses in (
      subst (λ (x : Books). Sound x) (sym same) h.0,
      same ∙ (h.1 ∙ ap (λ (x : Books). record b { jobs = x.jobs }) (sym same)),
      omega (arith, few, less),
    )
goes_loses b (Some n) t u h loses = subst (λ (x : Books). Goes b x) (sym (books_lose t u loses)) h

calls_go : (b : Books) → KeptByCalls (GoesFrom b)
calls_go b = calls_by_losses (GoesFrom b) (goes_loses b) (λ t h. h)

-- what goes from a switch of these books goes from them
goes_on_from : (b : Books) (t : Switch) (new : Books) → IsFrom b t → Goes (books_of t) new → Goes b new
goes_on_from b t new same h =
    let goes : Goes (record b { jobs = t.jobs }) new = subst (λ (x : Books). Goes x new) same h in
    record {
      sound = goes.sound;
      near = record {
        conns = goes.near.conns;
        jobs = goes.near.jobs;
        origs = goes.near.origs;
        cost = goes.near.cost;
        limit = goes.near.limit;
      };
    }

goes_spent : (b : Books) (t : Switch) → GoesFrom b None t → Goes b (books_of t)
goes_spent b t h = goes_on_from b t (books_of t) h.1 (record { sound = h.0; near = near_self (books_of t) })

-- so it does where few numbers were drawn
goes_from : (b : Books) → Few b → (s t : Switch) → GoesFrom b None s →
    (Few (books_of s) → Sound (books_of s) → Goes (books_of s) (books_of t)) → Goes b (books_of t)
goes_from b few s t h goes =
    let same_few : Few (record b { jobs = s.jobs }) = record { conns = few.conns; jobs = few.jobs; origs = few.origs } in
    goes_on_from b s (books_of t) h.1 (goes (subst (λ (x : Books). Few x) (sym h.1) same_few) h.0)

a_seat : (s : Switch) → is_full_of_jobs s ≡ false → (q : ℕ) × (least_free s.jobs 0 ≡ Some q)
a_seat s room = by (least_free s.jobs 0) refl room
  where
    by : (found : Option ℕ) → least_free s.jobs 0 ≡ found → is_none found ≡ false → (q : ℕ) × (least_free s.jobs 0 ≡ Some q)
    by None is room = absurd (cc)
    by (Some q) is room = (q, is)

-- ---- api commands

-- where a giver may let a job go on, one may begin for it
abbrev LetsBegin : Books → Giver → Type 0
LetsBegin b by = (s : Switch) → GoesFrom b None s → MayGoOn (GoesFrom b) by s → MayBegin (books_of s) by

-- a connection that is there and is owed nothing
conn_may : (b : Books) (conn : ℕ) (c : Conn) → row_of b.conns conn ≡ Some c → c.owed ≡ None → LetsBegin b (giver.Conn conn)
conn_may b conn c there none s h may = (c, ap (λ (x : Books). row_of x.conns conn) h.1 ∙ there, none)

-- a job that was taken out
job_may : (b : Books) (number : ℕ) (job : Background) → LetsBegin b (giver.Job number job)
job_may b number job s h may =
    subst (λ (t : Switch). MayBegin (books_of t) (giver.Job number job)) (sym may.left) (out_may may.past number job may.does may.first.0)

-- where few numbers were drawn
module _ (b : Books) (by : Giver) (few : Few b) (has : LetsBegin b by) where
  waits_go : (what : JobWork) (s : Switch) → IsWait what → MayGoOn (GoesFrom b) by s → is_full_of_jobs s ≡ false → GoesFrom b None s →
      Goes b (books_of (after_job_begin by what s))
  waits_go what s wait may room h =
      let seat = a_seat s room in
      goes_from b few s (after_job_begin by what s) h (goes_wait s by what seat.0 wait (has s h may) seat.1)

  originates_go : (groups : List (List LegPlan)) (winner : Winner) (caller : Caller) (timeout : Option ℕ) (s : Switch) →
      MayGoOn (GoesFrom b) by s → is_full_of_jobs s ≡ false → GoesFrom b None s →
      Goes b (books_of (originate_begun by groups winner caller timeout s))
  originates_go groups winner caller timeout s may room h =
      let seat = a_seat s room in
      goes_from b few s (originate_begun by groups winner caller timeout s) h
      (λ few sound. goes_originate s by groups winner caller timeout seat.0 (has s h may) seat.1 few h.2 sound)

  api_goes : KeptByApi by (GoesFrom b)
  api_goes = record {
    spent = λ {s = s} h. goes_spent b s h;
    draws = λ {s = s} h. goes_spent b s h;
    waits = λ what {s = s} wait may room h. waits_go what s wait may room h;
    originates = λ groups winner caller timeout {s = s} may are short room h.
        originates_go groups winner caller timeout s may room h;
    leavings = λ {s = s} h. goes_left b s h;
    ends = λ reply notice {s = s} dead h. goes_ended b reply notice s h;
  }

-- ---- the commands of a connection

-- of one that is there and is owed nothing, where few numbers were drawn
module _ (b : Books) (conn : ℕ) (c : Conn) (there : row_of b.conns conn ≡ Some c) (none : c.owed ≡ None) (few : Few b) where
  parted_goes : (why : Parting) (s : Switch) → Goes b (books_of s) → Goes b (books_of (conn_changed (parted why) conn s))
  parted_goes why s h = goes_conn b (parted why) conn s (λ x is. something_there why) (λ x. refl) h

  admitted_goes : (s : Switch) → phase_at s conn ≡ phase.Fresh → Goes b (books_of s) → Goes b (books_of (conn_changed admitted conn s))
  admitted_goes s fresh h =
      goes_conn b admitted conn s
      (λ x is. subst (λ (at : Phase). PartsIn at x.parting) (sym (ap phase_of is) ∙ fresh) (parts_of s conn x h.sound.linked.parts is))
      (λ x. refl) h

  asked_goes : (change : Subscription → Subscription) (s : Switch) → Goes b (books_of s) →
      Goes b (books_of (conn_changed (with_subs_changed change) conn s))
  asked_goes change s h =
      goes_conn b (with_subs_changed change) conn s (λ x is. parts_of s conn x h.sound.linked.parts is) (λ x. refl) h

  noticed_goes : (frame : Text) (stage : Stage) (s : Switch) → GoesFrom b stage s → GoesFrom b stage (with_notice conn frame s)
  noticed_goes frame None s h = h
  noticed_goes frame (Some n) s h = h

  gave_goes : (frame : Text) (stage : Stage) (s : Switch) → GoesFrom b stage s → GoesFrom b stage (with_frame_now conn frame s)
  gave_goes frame None s h = h
  gave_goes frame (Some n) s h = h

  backgrounds_go : (given : Option Text) (command : Text) (s : Switch) → is_full_of_jobs s ≡ false → GoesFrom b None s →
      Goes b (books_of (background_begun given command s))
  backgrounds_go given command s room h =
      let seat = a_seat s room in
      goes_from b few s (background_begun given command s) h (goes_background s given command seat.0 seat.1)

  commands_go : KeptByCommands conn (GoesFrom b)
  commands_go = record {
    api = api_goes b (giver.Conn conn) few (conn_may b conn c there none);
    noticed = λ frame {b = stage} {s = s} h. noticed_goes frame stage s h;
    gave = λ frame {b = stage} {s = s} h. gave_goes frame stage s h;
    asked = λ change {s = s} h. asked_goes change s h;
    admitted = λ {s = s} new h. admitted_goes s new h;
    parted = λ why {s = s} leaves was h. parted_goes why s h;
    backgrounds = λ given command {s = s} room h. backgrounds_go given command s room h;
  }

-- ---- jobs, and channels that dial

-- beside a fact that tells whose originations there are
abbrev Beside : Books → Fact → Fact
Beside b Q stage t = GoesFrom b stage t × Q stage t

module _ (before : Switch) (Q : Fact) (kept : KeptByMoves before Q) (owns : (b : Stage) (t : Switch) → Q b t → OwnsAwaited t)
    (numbers : (b : Stage) (t : Switch) → Q b t → Numbers t.origs t.drawn.origs) (b : Books) (few : Few b) where
  both_touched : KeptByTouches (Beside b Q)
  both_touched = record {
    told = λ event plain h. ((calls_go b).touches.told event plain h.0, kept.calls.touches.told event plain h.1);
    globals = λ globals h. ((calls_go b).touches.globals globals h.0, kept.calls.touches.globals globals h.1);
    changed = λ slot old new there stays h.
        ((calls_go b).touches.changed slot old new there stays h.0, kept.calls.touches.changed slot old new there stays h.1);
    answers = λ seat slot number h.
        ((calls_go b).touches.answers seat slot number h.0, kept.calls.touches.answers seat slot number h.1);
  }

  both_called : KeptByCalls (Beside b Q)
  both_called = record {
    touches = both_touched;
    hung = λ named early h. ((calls_go b).hung named early.0 h.0, kept.calls.hung named early.1 h.1);
    joined = λ kind caller answerer c d {s = s} can there other one two idle spare was h. (
      (calls_go b).joined kind caller answerer c d {s = s} can there other one two idle spare
          (none_joined_by was (λ t k. k.0)) h.0,
      kept.calls.joined kind caller answerer c d can there other one two idle spare (none_joined_by was (λ t k. k.1)) h.1,
    );
    departs = λ slots early h. ((calls_go b).departs slots early.0 h.0, kept.calls.departs slots early.1 h.1);
    more = λ {s = s} h. ((calls_go b).more {s = s} h.0, kept.calls.more h.1);
    gone = λ slot old {s = s} there dead early h.
        ((calls_go b).gone slot old {s = s} there dead early.0 h.0, kept.calls.gone slot old there dead early.1 h.1);
  }

  -- a job has ended with the origination that it tried
  wins_go : (s : Switch) (job : ℕ) (who : Asker) (orig : ℕ) (winner : Winner) (caller : Caller) (leg : OrigLeg) →
      Numbers s.origs s.drawn.origs → DoesJob s job who (work.Originate orig winner caller) → Goes b (books_of s) →
      Goes b (books_of (after_job_end job who (made_text leg.uuid) (without_orig orig (after_winning winner (unwrap_or leg.slot 0) s))))
  wins_go s job who orig winner caller leg numbered does h =
      let slot : ℕ = unwrap_or leg.slot 0 in
      let t : Switch = after_winning winner slot s in
      goes_over b t job who orig winner caller (made_text leg.uuid) (winning_numbers winner slot s numbered)
      (does_same does (won_rest winner slot s)) (goes_loses b (Some 0) s t h (winning_loses winner slot s))

  -- a job is taken out to run its command
  out_goes : (number : ℕ) (job : Background) (s : Switch) → DoesJob s number (asker.Background job) work.Run → GoesFrom b None s →
      GoesFrom b None (without_job number s)
  out_goes number job s does h = (
    (goes_out s number job does h.0).sound,
    ap (λ (x : Books). record x { jobs = (without_job number s).jobs }) h.1,
    h.2,
  )

  -- and may go on behind it
  both_run : (number : ℕ) (job : Background) → KeptByApi (giver.Job number job) (Beside b Q)
  both_run number job =
      let by : Giver = giver.Job number job in
      let has : LetsBegin b by = job_may b number job in
      let runs : KeptByApi by Q = kept.jobs.runs number job in
      record {
        spent = λ {s = s} h. (goes_spent b s h.0, runs.spent h.1);
        draws = λ {s = s} h. ((api_goes b by few has).draws {s = s} h.0, runs.draws h.1);
        waits = λ what {s = s} wait may room h. (
          waits_go b by few has what s wait (goes_on_by (Beside b Q) (GoesFrom b) by s may (λ t k. k.0)) room h.0,
          runs.waits what wait (goes_on_by (Beside b Q) Q by s may (λ t k. k.1)) room h.1,
        );
        originates = λ groups winner caller timeout {s = s} may are short room h. (
          originates_go b by few has groups winner caller timeout s (goes_on_by (Beside b Q) (GoesFrom b) by s may (λ t k. k.0)) room h.0,
          runs.originates groups winner caller timeout (goes_on_by (Beside b Q) Q by s may (λ t k. k.1)) are short room h.1,
        );
        leavings = λ {s = s} h. (goes_left b s h.0, runs.leavings h.1);
        ends = λ reply notice {s = s} dead h. (goes_ended b reply notice s h.0, runs.ends reply notice dead h.1);
      }

  jobs_go : KeptByJobs before (Beside b Q)
  jobs_go = record {
    out = λ number job {s = s} does h. (out_goes number job s does h.0, kept.jobs.out number job does h.1);
    runs = both_run;
    woken = λ number who what answer {s = s} wait does h.
        (goes_woken b s number who what answer wait does h.0, kept.jobs.woken number who what answer wait does h.1);
    failed = λ job who winner caller orig cause {s = s} does over h. (
      goes_over b s job who orig winner caller (failed_text cause) (numbers (Some 0) s h.1) does h.0,
      kept.jobs.failed job who winner caller orig cause does over h.1,
    );
    wins = λ job who winner caller orig leg slots does won h. (
      wins_go (raced slots before) job who orig winner caller leg (numbers (Some 0) (raced slots before) h.1) does h.0,
      kept.jobs.wins job who winner caller orig leg slots does won h.1,
    );
  }

  -- a channel begins to dial
  dialed_goes : (slot : ℕ) (c : Chan) (groups : List (List LegPlan)) (timeout : ℕ) (s : Switch) → Few (books_of s) → Sound (books_of s) →
      Goes (books_of s)
      (books_of
      (tried_by_slot slot groups timeout (next_orig_number s) (group_dialed (Some c) (first_group groups) (next_orig_number s) s)))
  dialed_goes slot c groups timeout s few sound =
      let made : MadeGroup = group_dialed (Some c) (first_group groups) (next_orig_number s) s in
      let loses : Loses s made.state =
      group_loses (all_behind (exported_pairs c.vars) (first_group groups)) (caller_of c) (next_orig_number s) s in
      let begun : Switch = orig_begun (owner.Slot slot) groups made.legs timeout made.state in
      let waits : Switch = after_move (awaiting (next_orig_number s)) slot begun in
      let moved : Loses begun waits = moved_loses (awaiting (next_orig_number s)) slot begun in
      let few_origs : s.drawn.origs < 2 ^ 30 = few.origs in
      let drawn : made.state.drawn.origs ≡ s.drawn.origs = loses.drawn in
      let next : next_orig_number made.state ≡ s.drawn.origs + 1 = omega (arith, few_origs, drawn) in
      goes_drawn s waits (moved.rest ∙ loses.rest)
      (moved.jobs
      ∙ (untold_added by_job made.state.origs (next_orig_number made.state)
      (new_orig (owner.Slot slot) groups made.legs (moment_after made.state.moment (seconds timeout))) refl ∙ loses.jobs))
      (moved.drawn ∙ next) sound

  -- what it waited for is gone, and it has failed, or a leg has won
  failed_goes : (slot orig : ℕ) (cause : Cause) (s : Switch) → awaits slot orig s ≡ true → Q (Some 0) s → Goes b (books_of s) →
      Goes b (books_of (after_bridge_failure cause slot (without_orig orig s)))
  failed_goes slot orig cause s waits q h =
      goes_loses b (Some 0) (without_orig orig s) (after_bridge_failure cause slot (without_orig orig s))
      (goes_loses b (Some 0) s (without_orig orig s) h (awaited_loses s slot orig (owns (Some 0) s q) waits))
      (failure_loses cause slot (without_orig orig s))

  won_goes : (slot orig leg : ℕ) (s : Switch) → awaits slot orig s ≡ true → Q (Some 0) s → Goes b (books_of s) →
      Goes b (books_of (after_bridge_win slot leg (without_orig orig s)))
  won_goes slot orig leg s waits q h =
      goes_loses b (Some 0) (without_orig orig s) (after_bridge_win slot leg (without_orig orig s))
      (goes_loses b (Some 0) s (without_orig orig s) h (awaited_loses s slot orig (owns (Some 0) s q) waits))
      (bridge_won_loses slot leg (without_orig orig s))

  dials_go : KeptByDials before (Beside b Q)
  dials_go = record {
    spent = λ {s = s} h. (goes_spent b s h.0, kept.dials.spent h.1);
    dials = λ slot c groups timeout {s = s} there works are h. (
      goes_from b few s
          (tried_by_slot slot groups timeout (next_orig_number s) (group_dialed (Some c) (first_group groups) (next_orig_number s) s)) h.0
          (dialed_goes slot c groups timeout s),
      kept.dials.dials slot c groups timeout there works are h.1,
    );
    regroups = λ number o plans caller {s = s} there are h. (
      goes_loses b (Some 0) s (with_group number (group_made plans caller number s)) h.0 (regrouped_loses number plans caller s),
      kept.dials.regroups number o plans caller there are h.1,
    );
    fails = λ slot orig cause {s = s} waits over h. (failed_goes slot orig cause s waits h.1 h.0, kept.dials.fails slot orig cause waits over h.1);
    wins = λ slot orig leg slots waits won h. (
      won_goes slot orig (unwrap_or leg.slot 0) (raced slots before) waits h.1 h.0,
      kept.dials.wins slot orig leg slots waits won h.1,
    );
  }

-- ---- acts

-- a connection has let its channel go
freed_goes : (conn : ℕ) (s : Switch) → Goes (books_of s) (books_of s) → Goes (books_of s) (books_of (after_letting_go conn s))
freed_goes conn s h = goes_loses (books_of s) (Some 0) s (after_letting_go conn s) h (freed_loses conn s)

closed_goes : (how : Closing) (conn : ℕ) (s : Switch) → Goes (books_of s) (books_of s) →
    Goes (books_of s) (books_of (after_close how conn s))
closed_goes closing.EndOfInput conn s h =
    goes_conn (books_of s) (parted parting.EndOfInput) conn (after_letting_go conn s)
    (λ c is. something_there parting.EndOfInput) (λ c. refl) (freed_goes conn s h)
closed_goes closing.Sent conn s h = goes_gone (books_of s) conn (after_letting_go conn s) (freed_goes conn s h)
closed_goes closing.Failed conn s h = goes_gone (books_of s) conn (after_letting_go conn s) (freed_goes conn s h)

-- a controller was dialed
dial_goes : (linked : Bool) (slot : ℕ) (s : Switch) → Few (books_of s) → Sound (books_of s) → Goes (books_of s) (books_of s) →
    Goes (books_of s) (books_of (after_dial linked slot s))
dial_goes linked slot s few sound h =
    dialed_by (λ (t : Switch). Goes (books_of s) (books_of t)) linked slot s h
    (λ c text. goes_come (controller slot c text) s refl refl few sound)
    (goes_loses (books_of s) (Some 0) s (after_completion slot s) h (completed_loses slot s))

-- all are hung up, and nothing is left
halted_goes : (b : Books) (s : Switch) → Goes b (books_of s) → Goes b (books_of (after_shutdown s))
unfolding after_shutdown
halted_goes b s h =
    let named : Members = map (λ slot. (slot, SystemShutdown)) (all_slots s) in
    goes_ended b stopped_reply notice (with_event shutdown_event (after_leavings (after_hangup_of_all SystemShutdown s)))
    (goes_left b (after_hangups named s) (goes_loses b (Some 0) s (after_hangups named s) h (hung_loses named s)))

-- the books of a switch are what they were
at_first : (s : Switch) → Sound (books_of s) → SlotsAreFew s → GoesFrom (books_of s) None s
at_first s h slots = (h, refl, slots)

-- each act by itself, beside such a fact
goes_alone : (what : Act) (s : Switch) (Q : Fact) → KeptByMoves s Q → ((b : Stage) (t : Switch) → Q b t → OwnsAwaited t) →
    ((b : Stage) (t : Switch) → Q b t → Numbers t.origs t.drawn.origs) → refused_act what s ≡ None → Few (books_of s) →
    Sound (books_of s) → SlotsAreFew s → Q None s → Goes (books_of s) (books_of (acted what s).state)
goes_alone act.Arrive s Q kept owns numbers accepts few h slots q = goes_arrived s few h
goes_alone (act.Command conn block) s Q kept owns numbers accepts few h slots q =
    let passed = none_refused (not (reads (phase_at s conn))) refusal.Gone (busy (owed_to s conn)) accepts in
    let given = may_owe s conn (not-false (reads (phase_at s conn)) passed.0) (not_busy (owed_to s conn) passed.1) in
    commanded_kept conn (GoesFrom (books_of s)) (calls_go (books_of s))
    (commands_go (books_of s) conn given.0 given.1.there given.1.none few) (command_of block) {s = s} (at_first s h slots)
goes_alone (act.Take conn) s Q kept owns numbers accepts few h slots q = goes_spent (books_of s) s (at_first s h slots)
goes_alone (act.Close conn how) s Q kept owns numbers accepts few h slots q =
    closed_goes how conn s (goes_spent (books_of s) s (at_first s h slots))
goes_alone (act.Dialed slot linked) s Q kept owns numbers accepts few h slots q =
    dial_goes linked slot s few h (goes_spent (books_of s) s (at_first s h slots))
goes_alone (act.Work slot) s Q kept owns numbers accepts few h slots q =
    (worked_kept s (Beside (books_of s) Q) (both_called s Q kept owns numbers (books_of s) few)
    (dials_go s Q kept owns numbers (books_of s) few) slot (at_first s h slots, q)).0
goes_alone act.Halt s Q kept owns numbers accepts few h slots q =
    halted_goes (books_of s) s (goes_spent (books_of s) s (at_first s h slots))
goes_alone (act.Job number) s Q kept owns numbers accepts few h slots q =
    (job_kept s (Beside (books_of s) Q) (both_called s Q kept owns numbers (books_of s) few)
    (dials_go s Q kept owns numbers (books_of s) few) (jobs_go s Q kept owns numbers (books_of s) few) number
    (at_first s h slots, q) (goes_spent (books_of s) s (at_first s h slots), kept.dials.spent q)).0
goes_alone (act.Loaded number note) s Q kept owns numbers accepts few h slots q =
    load_kept (λ (t : Switch). Goes (books_of s) (books_of t)) (λ (t : Switch). Goes (books_of s) (books_of t)) (λ config globals t k. k)
    (λ t k. k) (λ job who answer t does k. goes_woken (books_of s) t job who work.Load answer tt does k) note number s
    (goes_spent (books_of s) s (at_first s h slots))

-- and with what comes behind it
pub goes_acted : (what : Act) (s : Switch) (Q : Fact) → KeptByMoves s Q → ((b : Stage) (t : Switch) → Q b t → OwnsAwaited t) →
    ((b : Stage) (t : Switch) → Q b t → Numbers t.origs t.drawn.origs) → refused_act what s ≡ None → Few (books_of s) →
    Sound (books_of s) → SlotsAreFew s → Q None s → Goes (books_of s) (books_of (act_done what s).state)
goes_acted what s Q kept owns numbers accepts few h slots q =
    goes_left (books_of s) (acted what s).state (goes_alone what s Q kept owns numbers accepts few h slots q)
