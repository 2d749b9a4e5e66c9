-- What holds of a play is kept by its steps.
use Rattle.std.proofs.Common.{◌≡◌, ◌^◌, ℕ, zero, suc, Bool, true, false, not, ◌&&◌, cond, List, [], ◌∷◌, length, Option, None, Some, refl}
use Rattle.std.proofs.Common.{sym, subst}
use Rattle.fs_doc.specs.Reading.{Configuration}
use Rattle.fs_state.specs.Switch.{waiting_for}
use Rattle.fs_machine.specs.declared.due.DueActor.{DueActor}
use Rattle.fs_machine.specs.declared.due.DueActor.TheVariants as due
use Rattle.fs_machine.specs.declared.entry.Act.{Act}
use Rattle.fs_machine.specs.declared.entry.Act.TheVariants.{Arrive, Command, Take, Close, Dialed, Work, Job, Loaded}
use Rattle.fs_machine.specs.declared.entry.Closing.TheVariants.{EndOfInput, Sent}
use Rattle.fs_machine.specs.Questions.{owes}
use Rattle.fs_conn.specs.declared.end.End.{End}
use Rattle.fs_conn.specs.declared.end.End.TheVariants.{Runaway}
use Rattle.fs_conn.specs.Play.{Play, switch_of, new_play, is_over, with_end, after_trying_act, repeated, after_due_work, next_actor}
use Rattle.fs_conn.specs.Play.{after_due_step}
use Rattle.fs_conn.specs.Play.{with_runaway_end_by, with_runaway_end, after_settling, waits, after_waiting_until, after_waiting_once}
use Rattle.fs_conn.specs.Play.{after_waiting, after_taking_all, after_following, after_act, reads_on, takes_commands, after_command}
use Rattle.fs_conn.specs.Play.{after_commands, after_opening, after_input_end, after_closing, after_taking_all_as, after_settling_as}
use Rattle.fs_conn.specs.Play.{after_waiting_as, end_unnoted, after_loading, next_note}
use Rattle.fs_conn.specs.Steps.{is_early}
use Rattle.fs_conn.proofs.PlayLemmas.{unnoted_early}
use Rattle.fs_conn.proofs.RoundLemmas.{repeated_more}
use Rattle.fs_machine.specs.declared.note.LoadNote.{LoadNote}

-- what holds of a play holds still once an act of this kind was tried, once all that is due was worked, and, while the play goes on,
-- whatever the clock says; of this kind are the Takes that a play enters by itself
pub record Keeps (IsSuch : Act → Type 0) (Holds : Play → Type 0) : Type 0 where
  pub takes : IsSuch (Take 1)
  pub enters : (act : Act) → IsSuch act → (p : Play) → Holds p → Holds (after_trying_act act p)
  pub settles : (p : Play) → Holds p → Holds (after_settling p)
  pub goes_on : (moment : ℕ) (p : Play) → is_over p ≡ false → Holds p → Holds (record p { clock = moment })

-- the same, where all acts that a play enters by itself are of this kind, and it holds also once the play has come to an end before that of
-- its connection
pub record KeepsEach (IsSuch : Act → Type 0) (Holds : Play → Type 0) : Type 0 where
  pub works : (slot : ℕ) → IsSuch (Work slot)
  pub dials : (slot : ℕ) → IsSuch (Dialed slot false)
  pub jobs : (number : ℕ) → IsSuch (Job number)
  pub loads : (number : ℕ) (note : LoadNote) → IsSuch (Loaded number note)
  pub takes : IsSuch (Take 1)
  pub enters : (act : Act) → IsSuch act → (p : Play) → Holds p → Holds (after_trying_act act p)
  pub ends : (end : End) → is_early end ≡ true → (p : Play) → Holds p → Holds (with_end end p)
  pub goes_on : (moment : ℕ) (p : Play) → Holds p → Holds (record p { clock = moment })

pub kept_repeated : (Holds : Play → Type 0) (n : ℕ) (f : Play → Play) → ((p : Play) → Holds p → Holds (f p)) → (p : Play) → Holds p →
    Holds (repeated n f p)
unfolding repeated
kept_repeated Holds zero f keeps p holds = holds
kept_repeated Holds (suc n) f keeps p holds = kept_repeated Holds n f keeps (f p) (keeps p holds)

-- ---- what is due

kept_loaded : (IsSuch : Act → Type 0) (Holds : Play → Type 0) → KeepsEach IsSuch Holds → (number : ℕ) (note : Option LoadNote) (p : Play) →
    Holds p → Holds (after_loading number note p)
kept_loaded IsSuch Holds keeps number None p holds = keeps.ends (end_unnoted (switch_of p)) (unnoted_early (switch_of p)) p holds
kept_loaded IsSuch Holds keeps number (Some note) p holds = keeps.enters (Loaded number note) (keeps.loads number note) p holds

kept_worked : (IsSuch : Act → Type 0) (Holds : Play → Type 0) → KeepsEach IsSuch Holds → (actor : DueActor) (p : Play) → Holds p →
    Holds (after_due_work actor p)
kept_worked IsSuch Holds keeps (due.Slot slot) p holds = keeps.enters (Work slot) (keeps.works slot) p holds
kept_worked IsSuch Holds keeps (due.Dial slot) p holds = keeps.enters (Dialed slot false) (keeps.dials slot) p holds
kept_worked IsSuch Holds keeps (due.Job number) p holds = keeps.enters (Job number) (keeps.jobs number) p holds
kept_worked IsSuch Holds keeps (due.Load number) p holds = kept_loaded IsSuch Holds keeps number (next_note p) p holds
kept_worked IsSuch Holds keeps (due.Later moment) p holds = holds
kept_worked IsSuch Holds keeps due.Never p holds = holds

kept_stopped : (IsSuch : Act → Type 0) (Holds : Play → Type 0) → KeepsEach IsSuch Holds → (actor : DueActor) (p : Play) → Holds p →
    Holds (with_runaway_end_by actor p)
kept_stopped IsSuch Holds keeps (due.Slot slot) p holds = keeps.ends (Runaway 100000) refl p holds
kept_stopped IsSuch Holds keeps (due.Dial slot) p holds = keeps.ends (Runaway 100000) refl p holds
kept_stopped IsSuch Holds keeps (due.Job number) p holds = keeps.ends (Runaway 100000) refl p holds
kept_stopped IsSuch Holds keeps (due.Load number) p holds = keeps.ends (Runaway 100000) refl p holds
kept_stopped IsSuch Holds keeps (due.Later moment) p holds = holds
kept_stopped IsSuch Holds keeps due.Never p holds = holds

pub kept_worked_once : (IsSuch : Act → Type 0) (Holds : Play → Type 0) → KeepsEach IsSuch Holds → (p : Play) → Holds p →
    Holds (after_due_step p)
kept_worked_once IsSuch Holds keeps p holds = kept_worked IsSuch Holds keeps (next_actor p) p holds

kept_all_worked : (IsSuch : Act → Type 0) (Holds : Play → Type 0) → KeepsEach IsSuch Holds → (n : ℕ) (p : Play) → Holds p →
    Holds (repeated n after_due_step p)
kept_all_worked IsSuch Holds keeps n p holds = kept_repeated Holds n after_due_step (kept_worked_once IsSuch Holds keeps) p holds

pub kept_settled : (IsSuch : Act → Type 0) (Holds : Play → Type 0) → KeepsEach IsSuch Holds → (p : Play) → Holds p →
    Holds (after_settling p)
unfolding after_settling_as
kept_settled IsSuch Holds keeps p holds =
    let q = repeated 100000 after_due_step p in
    kept_stopped IsSuch Holds keeps (next_actor q) q (kept_all_worked IsSuch Holds keeps 100000 p holds)

-- whatever was true once the first of it was worked is so behind all of it
pub kept_behind : (IsSuch : Act → Type 0) (Holds : Play → Type 0) → KeepsEach IsSuch Holds → (p : Play) → Holds (after_due_step p) →
    Holds (after_settling p)
unfolding after_settling_as
kept_behind IsSuch Holds keeps p holds =
    let q = repeated 99999 after_due_step (after_due_step p) in
    subst (λ (r : Play). Holds (with_runaway_end r)) (sym (repeated_more 99999 after_due_step p))
    (kept_stopped IsSuch Holds keeps (next_actor q) q (kept_all_worked IsSuch Holds keeps 99999 (after_due_step p) holds))

pub by_each : (IsSuch : Act → Type 0) (Holds : Play → Type 0) → KeepsEach IsSuch Holds → Keeps IsSuch Holds
by_each IsSuch Holds keeps = record {
  takes = keeps.takes;
  enters = keeps.enters;
  settles = kept_settled IsSuch Holds keeps;
  goes_on = λ moment p still holds. keeps.goes_on moment p holds;
}

-- ---- replies that are owed

kept_until : (IsSuch : Act → Type 0) (Holds : Play → Type 0) → Keeps IsSuch Holds → (actor : DueActor) (p : Play) → is_over p ≡ false →
    Holds p → Holds (after_waiting_until actor p)
kept_until IsSuch Holds keeps (due.Later moment) p still holds =
    keeps.settles (record p { clock = moment }) (keeps.goes_on moment p still holds)
kept_until IsSuch Holds keeps (due.Slot slot) p still holds = holds
kept_until IsSuch Holds keeps (due.Dial slot) p still holds = holds
kept_until IsSuch Holds keeps (due.Job number) p still holds = holds
kept_until IsSuch Holds keeps (due.Load number) p still holds = holds
kept_until IsSuch Holds keeps due.Never p still holds = holds

-- a play that waits goes on
still_on : (over owed : Bool) → (not over && owed) ≡ true → over ≡ false
still_on true owed waiting = absurd (cc waiting)
still_on false owed waiting = refl

pub kept_waited_once : (IsSuch : Act → Type 0) (Holds : Play → Type 0) → Keeps IsSuch Holds → (p : Play) → Holds p →
    Holds (after_waiting_once p)
kept_waited_once IsSuch Holds keeps p holds = by (waits p) refl
  where
    by : (waiting : Bool) → waits p ≡ waiting → Holds (cond waiting (after_waiting_until (next_actor p) p) p)
    by true is = kept_until IsSuch Holds keeps (next_actor p) p (still_on (is_over p) (owes (switch_of p) 1) is) holds
    by false is = holds

kept_all_waited : (IsSuch : Act → Type 0) (Holds : Play → Type 0) → Keeps IsSuch Holds → (n : ℕ) (p : Play) → Holds p →
    Holds (repeated n after_waiting_once p)
kept_all_waited IsSuch Holds keeps n p holds = kept_repeated Holds n after_waiting_once (kept_waited_once IsSuch Holds keeps) p holds

pub kept_waited : (IsSuch : Act → Type 0) (Holds : Play → Type 0) → Keeps IsSuch Holds → (p : Play) → Holds p → Holds (after_waiting p)
unfolding after_waiting_as
kept_waited IsSuch Holds keeps p holds = kept_all_waited IsSuch Holds keeps (2 ^ 64) p holds

-- ---- frames, and all that comes of an act

pub kept_taken : (IsSuch : Act → Type 0) (Holds : Play → Type 0) → Keeps IsSuch Holds → (n : ℕ) (p : Play) → Holds p →
    Holds (repeated n (after_trying_act (Take 1)) p)
kept_taken IsSuch Holds keeps n p holds = kept_repeated Holds n (after_trying_act (Take 1)) (keeps.enters (Take 1) keeps.takes) p holds

pub kept_all_taken : (IsSuch : Act → Type 0) (Holds : Play → Type 0) → Keeps IsSuch Holds → (p : Play) → Holds p →
    Holds (after_taking_all p)
unfolding after_taking_all_as
kept_all_taken IsSuch Holds keeps p holds = kept_taken IsSuch Holds keeps (length (waiting_for (switch_of p) 1)) p holds

pub kept_followed : (IsSuch : Act → Type 0) (Holds : Play → Type 0) → Keeps IsSuch Holds → (p : Play) → Holds p → Holds (after_following p)
kept_followed IsSuch Holds keeps p holds =
    kept_all_taken IsSuch Holds keeps (after_waiting (after_settling p))
    (kept_waited IsSuch Holds keeps (after_settling p) (keeps.settles p holds))

pub kept_acted : (IsSuch : Act → Type 0) (Holds : Play → Type 0) → Keeps IsSuch Holds → (act : Act) → IsSuch act → (p : Play) → Holds p →
    Holds (after_act act p)
kept_acted IsSuch Holds keeps act such p holds = kept_followed IsSuch Holds keeps (after_trying_act act p) (keeps.enters act such p holds)

-- ---- the conversation

pub kept_opened : (IsSuch : Act → Type 0) (Holds : Play → Type 0) → Keeps IsSuch Holds → IsSuch Arrive →
    (config : Configuration) (notes : List LoadNote) →
    Holds (new_play config notes) → Holds (after_opening config notes)
kept_opened IsSuch Holds keeps such config notes holds = kept_acted IsSuch Holds keeps Arrive such (new_play config notes) holds

pub kept_commanded : (IsSuch : Act → Type 0) (Holds : Play → Type 0) → Keeps IsSuch Holds → (block : List ℕ) → IsSuch (Command 1 block) →
    (p : Play) → Holds p → Holds (after_command p block)
kept_commanded IsSuch Holds keeps block such p holds =
    elim (takes_commands p) as (λ b. Holds (cond b (after_act (Command 1 block) p) p)) [
      | true ↦ kept_acted IsSuch Holds keeps (Command 1 block) such p holds
      | false ↦ holds
    ]

pub kept_all_commanded : (IsSuch : Act → Type 0) (Holds : Play → Type 0) → Keeps IsSuch Holds →
    ((block : List ℕ) → IsSuch (Command 1 block)) → (blocks : List (List ℕ)) (p : Play) → Holds p → Holds (after_commands p blocks)
kept_all_commanded IsSuch Holds keeps such [] p holds = holds
kept_all_commanded IsSuch Holds keeps such (block ∷ blocks) p holds =
    kept_all_commanded IsSuch Holds keeps such blocks (after_command p block) (kept_commanded IsSuch Holds keeps block (such block) p holds)

pub kept_input_ended : (IsSuch : Act → Type 0) (Holds : Play → Type 0) → Keeps IsSuch Holds → IsSuch (Close 1 EndOfInput) → (p : Play) →
    Holds p → Holds (after_input_end p)
kept_input_ended IsSuch Holds keeps such p holds =
    elim (reads_on p) as (λ b. Holds (cond b (after_taking_all (after_trying_act (Close 1 EndOfInput) p)) p)) [
      | true ↦ kept_all_taken IsSuch Holds keeps (after_trying_act (Close 1 EndOfInput) p) (keeps.enters (Close 1 EndOfInput) such p holds)
      | false ↦ holds
    ]

pub kept_closed : (IsSuch : Act → Type 0) (Holds : Play → Type 0) → Keeps IsSuch Holds → IsSuch (Close 1 EndOfInput) →
    IsSuch (Close 1 Sent) → (p : Play) → Holds p → Holds (after_closing p)
kept_closed IsSuch Holds keeps ends sends p holds =
    keeps.enters (Close 1 Sent) sends (after_input_end p) (kept_input_ended IsSuch Holds keeps ends p holds)
