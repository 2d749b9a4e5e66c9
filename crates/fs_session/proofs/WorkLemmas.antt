-- What a turn that is refused tells, to whom it is due, and what comes of several tries.
use Rattle.std.proofs.Common.{◌≡◌, ◌≢◌, ℕ, Bool, true, false, List, [], ◌∷◌, ◌++◌, Option, None, Some, Ok, Err, refl, sym, ap, subst, ◌∙◌}
use Rattle.std.specs.Prelude.{◌&&◌, ◌==◌, if◌then◌else◌, count_by, is_some}
use Prim.Native.Nat.{suc}
use mathlib.Core.List.{IsPrefix}
use Rattle.fs_doc.specs.Reading.{Configuration}
use Rattle.fs_text.specs.Texts.{Text}
use Rattle.fs_book.proofs.Lists.{prefix_trans}
use Rattle.fs_chan.specs.declared.due.Due.{Due as Moment}
use Rattle.fs_chan.specs.declared.due.Due.TheVariants.{Now, At}
use Rattle.fs_seats.specs.Seats.{held_in}
use Rattle.fs_state.specs.Switch.{Switch, chan_at, is_full, is_full_for_load, at_moment}
use Rattle.fs_machine.specs.Entries.{is_load}
use Rattle.fs_machine.specs.declared.entry.Entry.{Entry}
use Rattle.fs_machine.specs.declared.entry.Act.{Act}
use Rattle.fs_machine.specs.declared.entry.Act.TheVariants as act
use Rattle.fs_machine.specs.declared.due.DueActor.{DueActor}
use Rattle.fs_machine.specs.declared.due.DueActor.TheVariants as actor
use Rattle.fs_machine.specs.declared.refusal.Refusal.{Refusal}
use Rattle.fs_machine.specs.declared.refusal.Refusal.TheVariants as refusal
use Rattle.fs_machine.specs.Controlling.{dial_at}
use Rattle.fs_machine.specs.Due.{next_slot, next_job, slot_due, dials, due_job, first_job_moment, due_as, later_or_never, actor_or}
use Rattle.fs_machine.specs.Loading.{waits_for_load}
use Rattle.fs_machine.specs.Laws.{state_after}
use Rattle.fs_machine.specs.Questions.{jobs_left}
use Rattle.fs_machine.specs.Sound.{IsSound}
use Rattle.fs_machine.specs.Step.{refused_as_full, refused_where, full_journal, is_full_for, IsRefusedFor}
use Rattle.fs_machine.specs.Turned.{Refuses}
use Rattle.fs_machine.proofs.RefusalLemmas.{full_refused}
use Rattle.fs_session.specs.declared.actor.Actor.{Actor}
use Rattle.fs_session.specs.declared.actor.Actor.TheVariants.{Slot, Jobs}
use Rattle.fs_session.specs.declared.actor.Errand.{Errand}
use Rattle.fs_session.specs.declared.actor.Errand.TheVariants as errand
use Rattle.fs_session.specs.declared.standing.Standing.{Standing}
use Rattle.fs_session.specs.declared.standing.Standing.TheVariants.{Full, Over, Seeks, Due}
use Rattle.fs_session.specs.declared.worked.Worked.{Worked}
use Rattle.fs_session.specs.declared.worked.Worked.TheVariants.{Did, Idle, Talk, Load, Stopped, Refused}
use Rattle.fs_session.specs.Working.{is_final, is_over, sought_by, due_of, seeking, standing, standing_unless, act_of, IsErrand, errand_of}
use Rattle.fs_session.specs.Working.{IsTurnOf, Talks, Gained, Stays, Stands, Fails, Works, Tries, Attempts}

no_rows : {T : Type 0} (rows : List (Option T)) → ((seat : ℕ) → held_in rows seat ≡ None) → count_by is_some rows ≡ 0
no_rows [] none = refl
no_rows (None ∷ rows) none = no_rows rows (λ seat. none (suc seat))
no_rows (Some row ∷ rows) none = absurd (cc (none 0))

-- no job is left once the switch has come to its end
pub no_jobs : (s : Switch) → IsSound s → is_some s.stopping ≡ (is_some s.stopping && (jobs_left s == 0))
no_jobs s sound = by (is_some s.stopping) refl
  where
    by : (over : Bool) → is_some s.stopping ≡ over → over ≡ (over && (jobs_left s == 0))
    by false is = refl
    by true is = sym (ap (λ n. n == 0) (no_rows s.jobs (sound.still is).jobs))

same_full : (s : Switch) (full : Bool) (cost limit : ℕ) → full ≡ true → cost ≡ s.cost → limit ≡ s.settings.journal_limit →
    refused_where full (full_journal s) None ≡ Some (refusal.JournalFull cost limit)
same_full s full cost limit is by_cost by_limit =
    ap (λ (b : Bool). refused_where b (full_journal s) None) is
    ∙ ap (λ c. Some (refusal.JournalFull c s.settings.journal_limit)) (sym by_cost)
    ∙ ap (λ l. Some (refusal.JournalFull cost l)) (sym by_limit)

-- a refusal that is final and is not for want of memory comes where the journal is full for such an entry
pub final_refused : (s : Switch) (entry : Entry) (why : Refusal) → IsRefusedFor s entry why → is_final why ≡ true →
    why ≢ refusal.Memory → refused_where (is_full_for entry.act s) (full_journal s) None ≡ Some why
final_refused s entry (refusal.JournalFull cost limit) refused final other =
    let full = full_refused s entry cost limit (refused other) in
    same_full s (is_full_for entry.act s) cost limit full.0 full.1 full.2
final_refused s entry refusal.Memory refused final other = absurd (other refl)
final_refused s entry refusal.Gone refused final other = absurd (cc final)
final_refused s entry (refusal.TooMany live) refused final other = absurd (cc final)
final_refused s entry (refusal.Busy since) refused final other = absurd (cc final)
final_refused s entry refusal.Empty refused final other = absurd (cc final)
final_refused s entry (refusal.Unsent queued owed) refused final other = absurd (cc final)
final_refused s entry (refusal.NotDue next) refused final other = absurd (cc final)

-- an entry that notes no load is refused as each other one, where the journal is full
plain_full : (s : Switch) (done : Act) → is_load done ≡ false → is_full_for done s ≡ is_full s
plain_full s done plain = ap (λ (b : Bool). if b then is_full_for_load s else is_full s) plain

-- an entry that notes no load was refused for good
pub fails_for : (config : Configuration) (seen : List Entry) (mine : List ℕ) (seen' : List Entry) (mine' : List ℕ)
    (entry : Entry) (why : Refusal) → is_load entry.act ≡ false → IsPrefix seen seen' → mine' ≡ mine →
    Refuses config seen' entry why → is_final why ≡ true → Fails config seen mine seen' mine' why
fails_for config seen mine seen' mine' entry why plain front same refused final = record {
  stays = record { front = front; same = same; run = refused.before };
  cause =
      λ other.
      sym (ap (λ (b : Bool). refused_where b (full_journal (state_after config seen')) None)
      (plain_full (state_after config seen') entry.act plain))
      ∙ final_refused (state_after config seen') entry why refused.cause final other;
}

-- ---- what is due to whom

-- the slot that is due is that of the channel
slot_is : (waits : Bool) (own other : ℕ) (due : Option Moment) → (if waits then actor.Dial own else due_as own due) ≡ actor.Slot other →
    own ≡ other
slot_is true own other due is = absurd (cc is)
slot_is false own other None is = absurd (cc is)
slot_is false own other (Some Now) is = cc is
slot_is false own other (Some (At moment)) is = absurd (cc is)

no_job_in : (waits : Bool) (own number : ℕ) (due : Option Moment) → (if waits then actor.Dial own else due_as own due) ≢ actor.Job number
no_job_in true own number due is = absurd (cc is)
no_job_in false own number None is = absurd (cc is)
no_job_in false own number (Some Now) is = absurd (cc is)
no_job_in false own number (Some (At moment)) is = absurd (cc is)

-- the job has something to do, or waits for a load
abbrev turn_by : (ℕ → Bool) → ℕ → DueActor
turn_by waits job = if waits job then actor.Load job else actor.Job job

no_slot_by : (waits : Bool) (other job : ℕ) → (if waits then actor.Load job else actor.Job job) ≢ actor.Slot other
no_slot_by true other job is = absurd (cc is)
no_slot_by false other job is = absurd (cc is)

no_slot_in : (other : ℕ) (waits : ℕ → Bool) (job moment : Option ℕ) →
    actor_or (turn_by waits) job (later_or_never moment) ≢ actor.Slot other
no_slot_in other waits None None is = absurd (cc is)
no_slot_in other waits None (Some moment) is = absurd (cc is)
no_slot_in other waits (Some job) moment is = no_slot_by (waits job) other job is

-- whoever waits for no controller has none dialed
no_dial_in : (text : Option Text) (own : ℕ) (due : Option Moment) → text ≡ None →
    IsErrand (if is_some text then actor.Dial own else due_as own due)
no_dial_in None own None is = tt
no_dial_in None own (Some Now) is = tt
no_dial_in None own (Some (At moment)) is = tt
no_dial_in (Some text) own due is = absurd (cc is)

no_dial_by : (waits : Bool) (job : ℕ) → IsErrand (if waits then actor.Load job else actor.Job job)
no_dial_by true job = tt
no_dial_by false job = tt

no_dial_of_jobs : (waits : ℕ → Bool) (job moment : Option ℕ) → IsErrand (actor_or (turn_by waits) job (later_or_never moment))
no_dial_of_jobs waits None None = tt
no_dial_of_jobs waits None (Some moment) = tt
no_dial_of_jobs waits (Some job) moment = no_dial_by (waits job) job

-- a slot that is due is that of the actor
turn_of_slot : (who : Actor) (now slot : ℕ) (s : Switch) → due_of who now s ≡ actor.Slot slot → IsTurnOf who (act.Work slot)
unfolding next_slot next_job
turn_of_slot (Slot own) now slot s is =
    ap act.Work (sym (slot_is (dials (chan_at s own)) own slot (slot_due own (at_moment now s)) is))
turn_of_slot Jobs now slot s is =
    let later = at_moment now s in
    absurd (no_slot_in slot (λ job. waits_for_load job later) (due_job later) (first_job_moment later) is)

-- a job is due to the jobs alone
turn_of_job : (who : Actor) (now job : ℕ) (s : Switch) → due_of who now s ≡ actor.Job job → IsTurnOf who (act.Job job)
unfolding next_slot
turn_of_job (Slot own) now job s is = absurd (no_job_in (dials (chan_at s own)) own job (slot_due own (at_moment now s)) is)
turn_of_job Jobs now job s is = (job, refl)

-- an actor whose channel waits for no controller has none dialed
no_dial_of : (who : Actor) (now : ℕ) (s : Switch) → sought_by who s ≡ None → IsErrand (due_of who now s)
unfolding next_slot next_job
no_dial_of (Slot own) now s is = no_dial_in (dial_at s own) own (slot_due own (at_moment now s)) is
no_dial_of Jobs now s is =
    let later = at_moment now s in no_dial_of_jobs (λ job. waits_for_load job later) (due_job later) (first_job_moment later)

-- ---- how an actor stands

module _ (who : Actor) (now : ℕ) (s : Switch) where
  -- where something is to be done, it is what the actor has to do, and its channel waits for no controller
  abbrev HasDue : DueActor → Type 0
  HasDue due = (due_of who now s ≡ due) × (sought_by who s ≡ None)

  due_stands : (due : DueActor) → standing who now s ≡ Due due → HasDue due
  due_stands due is = by (refused_as_full s) (is_over who s) (sought_by who s) refl is
    where
      by : (full : Option Refusal) (over : Bool) (text : Option Text) → sought_by who s ≡ text →
          standing_unless full (if over then Over else seeking text (due_of who now s)) ≡ Due due → HasDue due
      by None false None none is = (cc is, none)
      by None false (Some text) none is = absurd (cc is)
      by None true text none is = absurd (cc is)
      by (Some why) over text none is = absurd (cc is)

  -- why each entry is refused, where the journal is full
  full_stands : (why : Refusal) → standing who now s ≡ Full why → refused_as_full s ≡ Some why
  full_stands why is = by (refused_as_full s) (is_over who s) (sought_by who s) is
    where
      by : (full : Option Refusal) (over : Bool) (text : Option Text) →
          standing_unless full (if over then Over else seeking text (due_of who now s)) ≡ Full why → full ≡ Some why
      by None false None is = absurd (cc is)
      by None false (Some text) is = absurd (cc is)
      by None true text is = absurd (cc is)
      by (Some other) over text is = ap Some (cc is)

  -- nobody is to be dialed, where something is to be done
  pub due_errand : (due : DueActor) → standing who now s ≡ Due due → IsErrand due
  due_errand due is = let has = due_stands due is in subst IsErrand has.0 (no_dial_of who now s has.1)

  -- what is to be done by an actor is a turn of it
  due_turn : (due : DueActor) (todo : Errand) → standing who now s ≡ Due due → errand_of due ≡ Ok todo →
      IsTurnOf who (act_of todo)
  due_turn (actor.Slot slot) todo is done =
      let same : errand.Slot slot ≡ todo = cc done in
      subst (λ (e : Errand). IsTurnOf who (act_of e)) same (turn_of_slot who now slot s (due_stands (actor.Slot slot) is).0)
  due_turn (actor.Job job) todo is done =
      let same : errand.Job job ≡ todo = cc done in
      subst (λ (e : Errand). IsTurnOf who (act_of e)) same (turn_of_job who now job s (due_stands (actor.Job job) is).0)
  due_turn (actor.Dial slot) todo is done = absurd (cc done)
  due_turn (actor.Load job) todo is done = absurd (cc done)
  due_turn (actor.Later next) todo is done = absurd (cc done)
  due_turn actor.Never todo is done = absurd (cc done)

-- what a look says where nothing is to be done
module _ (config : Configuration) (seen : List Entry) (mine : List ℕ) (seen' : List Entry) (mine' : List ℕ)
    (stays : Stays config seen mine seen' mine') (who : Actor) (now : ℕ) where
  pub works_full : (why : Refusal) → standing who now (state_after config seen') ≡ Full why →
      Works config seen mine seen' mine' who now (Refused why)
  works_full why is = record { stays = stays; cause = λ _. full_stands who now (state_after config seen') why is }

  answered : (one worked : Worked) → one ≡ worked → Works config seen mine seen' mine' who now one →
      Works config seen mine seen' mine' who now worked
  answered one worked same works = subst (λ (w : Worked). Works config seen mine seen' mine' who now w) same works

  pub works_over : standing who now (state_after config seen') ≡ Over → Works config seen mine seen' mine' who now Stopped
  works_over is = record { stays = stays; stands = is }

  -- whoever wants memory says so
  pub works_wanting : (worked : Worked) → worked ≡ Refused refusal.Memory → Works config seen mine seen' mine' who now worked
  works_wanting worked is =
      answered (Refused refusal.Memory) worked (sym is) (record { stays = stays; cause = λ other. absurd (other refl) })

  -- a controller is to be dialed
  pub works_sought : (text : Text) (worked : Worked) → standing who now (state_after config seen') ≡ Seeks text → Talks text worked →
      Works config seen mine seen' mine' who now worked
  works_sought text (Talk target) is talks = record {
    text = text;
    stands = record { stays = stays; stands = is };
    is = talks;
  }
  works_sought text (Refused why) is talks = works_wanting (Refused why) (ap Refused talks)
  works_sought text (Did place wakes) is talks = absurd talks
  works_sought text (Idle next) is talks = absurd talks
  works_sought text (Load job) is talks = absurd talks
  works_sought text Stopped is talks = absurd talks

  -- nothing is entered: a job waits for a load, or there is nothing to do yet
  pub works_waiting : (due : DueActor) (worked : Worked) → standing who now (state_after config seen') ≡ Due due →
      errand_of due ≡ Err worked → Works config seen mine seen' mine' who now worked
  works_waiting (actor.Load job) worked is none = answered (Load job) worked (cc none) (record { stays = stays; stands = is })
  works_waiting (actor.Later next) worked is none = answered (Idle (Some next)) worked (cc none) (record { stays = stays; stands = is })
  works_waiting actor.Never worked is none = answered (Idle None) worked (cc none) (record { stays = stays; stands = is })
  works_waiting (actor.Dial slot) worked is none = absurd (due_errand who now (state_after config seen') (actor.Dial slot) is)
  works_waiting (actor.Slot slot) worked is none = absurd (cc none)
  works_waiting (actor.Job job) worked is none = absurd (cc none)

-- ---- what comes of several tries

module _ (config : Configuration) (seen mid : List Entry) (mine mine' : List ℕ) (seen'' : List Entry) (mine'' : List ℕ)
    (front : IsPrefix seen mid) (same : mine' ≡ mine) where
  pub gained_on : (IsIt IsTheirs : Act → Type 0) (now place : ℕ) → ((done : Act) → IsIt done → IsTheirs done) →
      Gained config mid mine' seen'' mine'' IsIt now place → Gained config seen mine seen'' mine'' IsTheirs now place
  gained_on IsIt IsTheirs now place all gained = record {
    before = gained.before;
    front = prefix_trans seen mid gained.before front gained.front;
    act = gained.act;
    is = all gained.act gained.is;
    sees = gained.sees;
    at = gained.at;
    more = gained.more ∙ ap (λ places. places ++ place ∷ []) same;
    reply = gained.reply;
    answers = gained.answers;
  }

  pub stays_on : Stays config mid mine' seen'' mine'' → Stays config seen mine seen'' mine''
  stays_on stays = record {
    front = prefix_trans seen mid seen'' front stays.front;
    same = stays.same ∙ same;
    run = stays.run;
  }

  fails_on : (why : Refusal) → Fails config mid mine' seen'' mine'' why → Fails config seen mine seen'' mine'' why
  fails_on why fails = record { stays = stays_on fails.stays; cause = fails.cause }

  stands_on : (who : Actor) (now : ℕ) (how : Standing) → Stands config mid mine' seen'' mine'' who now how →
      Stands config seen mine seen'' mine'' who now how
  stands_on who now how stands = record { stays = stays_on stands.stays; stands = stands.stands }

  -- what came of a turn that others came before
  pub works_on : (who : Actor) (now : ℕ) (worked : Worked) → Works config mid mine' seen'' mine'' who now worked →
      Works config seen mine seen'' mine'' who now worked
  works_on who now (Did place wakes) works = gained_on (IsTurnOf who) (IsTurnOf who) now place (λ done is. is) works
  works_on who now (Idle None) works = stands_on who now (Due actor.Never) works
  works_on who now (Idle (Some next)) works = stands_on who now (Due (actor.Later next)) works
  works_on who now (Talk target) works = record { text = works.text; stands = stands_on who now (Seeks works.text) works.stands; is = works.is }
  works_on who now (Load job) works = stands_on who now (Due (actor.Load job)) works
  works_on who now Stopped works = stands_on who now Over works
  works_on who now (Refused why) works = fails_on why works

  pub tries_on : (who : Actor) (now : ℕ) (worked : Option Worked) → Tries config mid mine' seen'' mine'' who now worked →
      Tries config seen mine seen'' mine'' who now worked
  tries_on who now None tries = stays_on tries
  tries_on who now (Some worked) tries = works_on who now worked tries

  -- what came of a try is what came of a turn of the actor whose turn it is
  tries_by : (who : Actor) (todo : Errand) (now : ℕ) (worked : Option Worked) → IsTurnOf who (act_of todo) →
      Attempts config mid mine' seen'' mine'' todo now worked → Tries config seen mine seen'' mine'' who now worked
  tries_by who todo now None turn tries = stays_on tries
  tries_by who todo now (Some (Did place wakes)) turn tries =
      gained_on (λ done. done ≡ act_of todo) (IsTurnOf who) now place
      (λ done is. subst (λ (a : Act). IsTurnOf who a) (sym is) turn) tries
  tries_by who todo now (Some (Refused why)) turn tries = fails_on why tries
  tries_by who todo now (Some (Idle next)) turn tries = absurd tries
  tries_by who todo now (Some (Talk target)) turn tries = absurd tries
  tries_by who todo now (Some (Load job)) turn tries = absurd tries
  tries_by who todo now (Some Stopped) turn tries = absurd tries

  -- so what came of trying what is to be done by an actor, as it stood before
  pub tries_due : (who : Actor) (due : DueActor) (todo : Errand) (now : ℕ) (worked : Option Worked) →
      standing who now (state_after config mid) ≡ Due due → errand_of due ≡ Ok todo →
      Attempts config mid mine' seen'' mine'' todo now worked → Tries config seen mine seen'' mine'' who now worked
  tries_due who due todo now worked stands is =
      tries_by who todo now worked (due_turn who now (state_after config mid) due todo stands is)
