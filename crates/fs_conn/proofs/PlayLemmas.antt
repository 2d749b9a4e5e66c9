-- Each step of the definition of a play leaves one that is over as it is, and only adds entries.
use Rattle.std.proofs.Common.{◌≡◌, ◌^◌, ℕ, zero, suc, Bool, true, false, not, ◌&&◌, cond, List, [], ◌∷◌, ◌++◌, length, Option, None, Some}
use Rattle.std.proofs.Common.{refl, sym, ap, ◌∙◌, append_assoc, append-nil}
use Rattle.fs_state.specs.Switch.{Switch, waiting_for, is_full_for_load}
use Rattle.fs_machine.specs.declared.due.DueActor.{DueActor}
use Rattle.fs_machine.specs.declared.due.DueActor.TheVariants as due
use Rattle.fs_machine.specs.declared.entry.Entry.{Entry}
use Rattle.fs_machine.specs.declared.entry.Act.{Act}
use Rattle.fs_machine.specs.declared.entry.Act.TheVariants.{Command, Take, Close, Dialed, Work, Job, Loaded}
use Rattle.fs_machine.specs.declared.entry.Closing.TheVariants.{EndOfInput, Sent}
use Rattle.fs_machine.specs.declared.note.LoadNote.{LoadNote}
use Rattle.fs_machine.specs.declared.refusal.Refusal.{Refusal}
use Rattle.fs_machine.specs.declared.refusal.Refusal.TheVariants as refusal
use Rattle.fs_machine.specs.Questions.{owes}
use Rattle.fs_machine.specs.Step.{refusal_of}
use Rattle.fs_conn.specs.declared.end.End.{End}
use Rattle.fs_conn.specs.declared.end.End.TheVariants.{Memory, Runaway}
use Rattle.fs_conn.specs.Play.{Play, switch_of, is_over, with_end, after_judging, after_trying, after_trying_act, repeated, after_due_work}
use Rattle.fs_conn.specs.Play.{next_actor, after_due_step, with_runaway_end_by, with_runaway_end, after_settling, waits}
use Rattle.fs_conn.specs.Play.{after_waiting_until, after_waiting_once, after_waiting, after_taking_all, after_following, after_act}
use Rattle.fs_conn.specs.Play.{reads_on, takes_commands, after_command, after_commands, after_input_end, after_closing, after_taking_all_as}
use Rattle.fs_conn.specs.Play.{after_settling_as, after_waiting_as, end_full, end_unnoted, after_loading, next_note}
use Rattle.fs_conn.specs.Steps.{IsPlayFront, is_early, is_due, entry_of}

-- ---- fronts

pub begins_self : (p : Play) → IsPlayFront p p
begins_self p = record { config = refl; more = []; split = sym (append-nil p.journal) }

pub begins_trans : (a b c : Play) → IsPlayFront a b → IsPlayFront b c → IsPlayFront a c
begins_trans a b c first then = record {
  config = then.config ∙ first.config;
  more = first.more ++ then.more;
  split = then.split ∙ ap (λ entries. entries ++ then.more) first.split ∙ append_assoc a.journal first.more then.more;
}

-- whatever the clock says
begins_at : (p whole : Play) (moment : ℕ) → IsPlayFront (record p { clock = moment }) whole → IsPlayFront p whole
begins_at p whole moment begins = record { config = begins.config; more = begins.more; split = begins.split }

-- ---- steps

-- a step leaves a play that is over as it is, and only adds entries
pub record Goes (step : Play → Play) : Type 0 where
  pub over : (p : Play) → is_over p ≡ true → step p ≡ p
  pub begins : (p : Play) → IsPlayFront p (step p)

pub goes_then : (f g : Play → Play) → Goes f → Goes g → Goes (λ p. g (f p))
goes_then f g first then = record {
  over = λ p over. ap g (first.over p over) ∙ then.over p over;
  begins = λ p. begins_trans p (f p) (g (f p)) (first.begins p) (then.begins (f p));
}

-- a step that is done only where this holds
goes_where : (test : Play → Bool) (f : Play → Play) → Goes f → Goes (λ p. cond (test p) (f p) p)
goes_where test f goes = record {
  over = λ p over. elim (test p) as (λ b. cond b (f p) p ≡ p) [ true ↦ goes.over p over | false ↦ refl ];
  begins = λ p. elim (test p) as (λ b. IsPlayFront p (cond b (f p) p)) [ true ↦ goes.begins p | false ↦ begins_self p ];
}

pub goes_repeated : (n : ℕ) (f : Play → Play) → Goes f → Goes (repeated n f)
unfolding repeated
goes_repeated zero f goes = record { over = λ p over. refl; begins = begins_self }
goes_repeated (suc n) f goes = record {
  over = λ p over. ap (repeated n f) (goes.over p over) ∙ (goes_repeated n f goes).over p over;
  begins = λ p. begins_trans p (f p) (repeated n f (f p)) (goes.begins p) ((goes_repeated n f goes).begins (f p));
}

begins_judged : (cause : Option Refusal) (entry : Entry) (p : Play) → IsPlayFront p (after_judging cause entry p)
begins_judged None entry p = record { config = refl; more = entry ∷ []; split = refl }
begins_judged (Some (refusal.JournalFull cost limit)) entry p = record { config = refl; more = []; split = sym (append-nil p.journal) }
begins_judged (Some _) entry p = begins_self p

goes_tried : (entry : Entry) → Goes (after_trying entry)
goes_tried entry = record {
  over = λ p over. ap (λ b. cond b p (after_judging (refusal_of (switch_of p) entry) entry p)) over;
  begins =
      λ p. elim (is_over p) as (λ b. IsPlayFront p (cond b p (after_judging (refusal_of (switch_of p) entry) entry p))) [
        | true ↦ begins_self p
        | false ↦ begins_judged (refusal_of (switch_of p) entry) entry p
      ];
}

pub goes_entered : (act : Act) → Goes (after_trying_act act)
goes_entered act = record {
  over = λ p over. (goes_tried (entry_of act p)).over p over;
  begins = λ p. (goes_tried (entry_of act p)).begins p;
}

pub goes_ended : (end : End) → Goes (with_end end)
goes_ended end = record {
  over = λ p over. ap (λ b. cond b p (record p { end = Some end })) over;
  begins =
      λ p. elim (is_over p) as (λ b. IsPlayFront p (cond b p (record p { end = Some end }))) [
        | true ↦ begins_self p
        | false ↦ record { config = refl; more = []; split = sym (append-nil p.journal) }
      ];
}

-- ---- what is due

-- a load is entered, with the note that is left, if one is
abbrev pub loaded_in : ℕ → Option LoadNote → Option Act
loaded_in number None = None
loaded_in number (Some note) = Some (Loaded number note)

-- what is entered for one that has something to do
abbrev pub act_in : Play → DueActor → Option Act
act_in p (due.Slot slot) = Some (Work slot)
act_in p (due.Dial slot) = Some (Dialed slot false)
act_in p (due.Job number) = Some (Job number)
act_in p (due.Load number) = loaded_in number (next_note p)
act_in p (due.Later moment) = None
act_in p due.Never = None

loaded_due : (number : ℕ) (note : Option LoadNote) (act : Act) (p : Play) → loaded_in number note ≡ Some act →
    after_loading number note p ≡ after_trying_act act p
loaded_due number None act p is = absurd (cc is)
loaded_due number (Some note) act p is = let same : Loaded number note ≡ act = cc is in ap (λ a. after_trying_act a p) same

pub worked_due : (who : DueActor) (act : Act) (p : Play) → act_in p who ≡ Some act → after_due_work who p ≡ after_trying_act act p
worked_due (due.Slot slot) act p is = let same : Work slot ≡ act = cc is in ap (λ a. after_trying_act a p) same
worked_due (due.Dial slot) act p is = let same : Dialed slot false ≡ act = cc is in ap (λ a. after_trying_act a p) same
worked_due (due.Job number) act p is = let same : Job number ≡ act = cc is in ap (λ a. after_trying_act a p) same
worked_due (due.Load number) act p is = loaded_due number (next_note p) act p is
worked_due (due.Later moment) act p is = absurd (cc is)
worked_due due.Never act p is = absurd (cc is)

-- nobody has something to do
pub worked_none : (who : DueActor) (p : Play) → is_due who ≡ false → after_due_work who p ≡ p
worked_none (due.Slot slot) p is = absurd (cc is)
worked_none (due.Dial slot) p is = absurd (cc is)
worked_none (due.Job number) p is = absurd (cc is)
worked_none (due.Load number) p is = absurd (cc is)
worked_none (due.Later moment) p is = refl
worked_none due.Never p is = refl

-- somebody has, and nothing is entered for it: no note is left for its load
unnoted_due : (number : ℕ) (note : Option LoadNote) (p : Play) → loaded_in number note ≡ None →
    after_loading number note p ≡ with_end (end_unnoted (switch_of p)) p
unnoted_due number None p is = refl
unnoted_due number (Some note) p is = absurd (cc is)

pub worked_unnoted : (who : DueActor) (p : Play) → is_due who ≡ true → act_in p who ≡ None →
    after_due_work who p ≡ with_end (end_unnoted (switch_of p)) p
worked_unnoted (due.Slot slot) p is none = absurd (cc none)
worked_unnoted (due.Dial slot) p is none = absurd (cc none)
worked_unnoted (due.Job number) p is none = absurd (cc none)
worked_unnoted (due.Load number) p is none = unnoted_due number (next_note p) p none
worked_unnoted (due.Later moment) p is none = absurd (cc is)
worked_unnoted due.Never p is none = absurd (cc is)

-- it ends before its connection then
pub unnoted_early : (s : Switch) → is_early (end_unnoted s) ≡ true
unnoted_early s = by (is_full_for_load s)
  where
    by : (full : Bool) → is_early (cond full (end_full s) Memory) ≡ true
    by true = refl
    by false = refl

loaded_over : (number : ℕ) (note : Option LoadNote) (p : Play) → is_over p ≡ true → after_loading number note p ≡ p
loaded_over number None p over = (goes_ended (end_unnoted (switch_of p))).over p over
loaded_over number (Some note) p over = (goes_entered (Loaded number note)).over p over

pub loaded_begins : (number : ℕ) (note : Option LoadNote) (p : Play) → IsPlayFront p (after_loading number note p)
loaded_begins number None p = (goes_ended (end_unnoted (switch_of p))).begins p
loaded_begins number (Some note) p = (goes_entered (Loaded number note)).begins p

goes_worked_by : (actor : DueActor) → Goes (after_due_work actor)
goes_worked_by (due.Slot slot) = goes_entered (Work slot)
goes_worked_by (due.Dial slot) = goes_entered (Dialed slot false)
goes_worked_by (due.Job number) = goes_entered (Job number)
goes_worked_by (due.Load number) = record {
  over = λ p over. loaded_over number (next_note p) p over;
  begins = λ p. loaded_begins number (next_note p) p;
}
goes_worked_by (due.Later moment) = record { over = λ p over. refl; begins = begins_self }
goes_worked_by due.Never = record { over = λ p over. refl; begins = begins_self }

pub goes_worked_once : Goes after_due_step
goes_worked_once = record {
  over = λ p over. (goes_worked_by (next_actor p)).over p over;
  begins = λ p. (goes_worked_by (next_actor p)).begins p;
}

goes_stopped_by : (actor : DueActor) → Goes (with_runaway_end_by actor)
goes_stopped_by (due.Slot slot) = goes_ended (Runaway 100000)
goes_stopped_by (due.Dial slot) = goes_ended (Runaway 100000)
goes_stopped_by (due.Job number) = goes_ended (Runaway 100000)
goes_stopped_by (due.Load number) = goes_ended (Runaway 100000)
goes_stopped_by (due.Later moment) = record { over = λ p over. refl; begins = begins_self }
goes_stopped_by due.Never = record { over = λ p over. refl; begins = begins_self }

pub goes_stopped : Goes with_runaway_end
goes_stopped = record {
  over = λ p over. (goes_stopped_by (next_actor p)).over p over;
  begins = λ p. (goes_stopped_by (next_actor p)).begins p;
}

pub goes_all_worked : (n : ℕ) → Goes (repeated n after_due_step)
goes_all_worked n = goes_repeated n after_due_step goes_worked_once

pub goes_settled : Goes after_settling
unfolding after_settling_as
goes_settled = goes_then (repeated 100000 after_due_step) with_runaway_end (goes_all_worked 100000) goes_stopped

-- ---- replies that are owed

begins_waited : (actor : DueActor) (p : Play) → IsPlayFront p (after_waiting_until actor p)
begins_waited (due.Later moment) p =
    begins_at p (after_settling (record p { clock = moment })) moment (goes_settled.begins (record p { clock = moment }))
begins_waited _ p = begins_self p

pub goes_waited_once : Goes after_waiting_once
goes_waited_once = record {
  over = λ p over. ap (λ b. cond (not b && owes (switch_of p) 1) (after_waiting_until (next_actor p) p) p) over;
  begins =
      λ p. elim (waits p) as (λ b. IsPlayFront p (cond b (after_waiting_until (next_actor p) p) p)) [
        | true ↦ begins_waited (next_actor p) p
        | false ↦ begins_self p
      ];
}

pub goes_all_waited : (n : ℕ) → Goes (repeated n after_waiting_once)
goes_all_waited n = goes_repeated n after_waiting_once goes_waited_once

pub goes_waited : Goes after_waiting
unfolding after_waiting_as
goes_waited = goes_all_waited (2 ^ 64)

-- ---- frames, and all that comes of an act

pub goes_taken : (n : ℕ) → Goes (repeated n (after_trying_act (Take 1)))
goes_taken n = goes_repeated n (after_trying_act (Take 1)) (goes_entered (Take 1))

pub goes_all_taken : Goes after_taking_all
unfolding after_taking_all_as
goes_all_taken = record {
  over = λ p over. (goes_taken (length (waiting_for (switch_of p) 1))).over p over;
  begins = λ p. (goes_taken (length (waiting_for (switch_of p) 1))).begins p;
}

pub goes_followed : Goes after_following
goes_followed = goes_then (λ p. after_waiting (after_settling p)) after_taking_all
    (goes_then after_settling after_waiting goes_settled goes_waited) goes_all_taken

pub goes_acted : (act : Act) → Goes (after_act act)
goes_acted act = goes_then (after_trying_act act) after_following (goes_entered act) goes_followed

-- ---- the conversation

pub goes_commanded : (block : List ℕ) → Goes (λ p. after_command p block)
goes_commanded block = goes_where takes_commands (after_act (Command 1 block)) (goes_acted (Command 1 block))

pub goes_all_commanded : (blocks : List (List ℕ)) → Goes (λ p. after_commands p blocks)
goes_all_commanded [] = record { over = λ p over. refl; begins = begins_self }
goes_all_commanded (block ∷ blocks) =
    goes_then (λ p. after_command p block) (λ p. after_commands p blocks) (goes_commanded block) (goes_all_commanded blocks)

pub goes_input_ended : Goes after_input_end
goes_input_ended =
    goes_where reads_on (λ p. after_taking_all (after_trying_act (Close 1 EndOfInput) p))
    (goes_then (after_trying_act (Close 1 EndOfInput)) after_taking_all (goes_entered (Close 1 EndOfInput)) goes_all_taken)

pub goes_closed : Goes after_closing
goes_closed = goes_then after_input_end (after_trying_act (Close 1 Sent)) goes_input_ended (goes_entered (Close 1 Sent))
