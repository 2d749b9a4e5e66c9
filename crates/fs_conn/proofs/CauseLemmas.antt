-- Each end of a play has its cause.
use Rattle.std.proofs.Common.{◌≡◌, ℕ, zero, suc, Bool, true, false, cond, List, [], ◌∷◌, ◌++◌, length, Option, None, Some, is_some, refl}
use Rattle.std.proofs.Common.{◌⊎◌, inl, inr, sym, ap, ◌∙◌, subst, append_assoc, append-nil}
use Rattle.std.specs.List.{AllByRecursion}
use Rattle.std.proofs.lemmas.Bool.{both_ways}
use Rattle.fs_doc.specs.Limits.{IsWithin}
use Rattle.fs_doc.specs.Reading.{Configuration}
use Rattle.fs_frame.specs.Block.{fault_of}
use Rattle.fs_frame.specs.Blocks.{blocks_of, rest_of}
use Rattle.fs_frame.specs.declared.fault.Fault.{Fault}
use Rattle.fs_frame.specs.declared.fault.Fault.TheVariants as faults
use Rattle.fs_state.specs.declared.conn.Parting.{Parting}
use Rattle.fs_state.specs.declared.conn.Parting.TheVariants as way
use Rattle.fs_machine.specs.declared.due.DueActor.{DueActor}
use Rattle.fs_machine.specs.declared.due.DueActor.TheVariants as due
use Rattle.fs_machine.specs.declared.entry.Entry.{Entry}
use Rattle.fs_machine.specs.declared.entry.Act.{Act}
use Rattle.fs_machine.specs.declared.entry.Act.TheVariants.{Dialed, Work, Job, Loaded}
use Rattle.fs_machine.specs.declared.refusal.Refusal.{Refusal}
use Rattle.fs_machine.specs.declared.refusal.Refusal.TheVariants as refusal
use Rattle.fs_state.specs.Switch.{is_full, is_full_for_load}
use Rattle.fs_machine.specs.Entries.{is_load}
use Rattle.fs_machine.specs.Questions.{parting_at}
use Rattle.fs_machine.specs.Step.{refusal_of, is_full_for}
use Rattle.fs_machine.specs.Frames.{commands_of}
use Rattle.fs_machine.proofs.RefusalLemmas.{full_refused}
use Rattle.fs_conn.specs.declared.end.End.{End}
use Rattle.fs_conn.specs.declared.end.End.TheVariants.{Exit, AuthRefused, Stopped, Eof, ReadFault, WriteFault, TooLong, BadLength}
use Rattle.fs_conn.specs.declared.end.End.TheVariants.{JournalFull}
use Rattle.fs_conn.specs.declared.end.End.TheVariants.{Memory, Runaway}
use Rattle.fs_conn.specs.Play.{Play, switch_of, is_over, with_end, after_judging, after_trying_act, repeated, after_due_work, next_actor}
use Rattle.fs_conn.specs.Play.{after_due_step, with_runaway_end_by, after_settling, after_settling_as, after_opening, after_conversing}
use Rattle.fs_conn.specs.Play.{after_closing, end_by, farewell, end_behind, played, played_as}
use Rattle.fs_conn.specs.Play.{next_note, end_full, end_unnoted, after_loading}
use Rattle.fs_conn.specs.Steps.{is_due, entry_of}
use Rattle.fs_conn.specs.Ends.{EndsFor, IsFullAt, IsFullForLoadAt, LacksNote, IsWork, IsWorkAt, EndsInWork, RanAway, HasCause}
use Rattle.fs_conn.proofs.PlayLemmas.{goes_entered, goes_all_worked, loaded_in, act_in, worked_due, worked_none, worked_unnoted}
use Rattle.fs_conn.proofs.RoundLemmas.{repeated_none}
use Rattle.fs_conn.proofs.KeepLemmas.{Keeps, kept_repeated, kept_worked_once, kept_opened, kept_all_commanded, kept_closed}
use Rattle.fs_conn.proofs.LawLemmas.{Any, IsRun, each_run, keeps_run, config_played}
use Rattle.fs_conn.proofs.CloseLemmas.{IsFit, filled, longer_by, fit_entered, fit_due, over_ended}
use Rattle.fs_conn.proofs.PartLemmas.{stopped_by_end, Parted, parted_closed, Until, until_closed, parted_last, Tells, tells_conversed}
use Rattle.fs_machine.specs.declared.note.LoadNote.{LoadNote}

-- ---- rounds of work

-- behind so many rounds stand so many entries of work at the clock's moment
record Worked (n : ℕ) (p q : Play) : Type 0 where
  clock : q.clock ≡ p.clock
  work : List Entry
  split : q.journal ≡ p.journal ++ work
  many : length work ≡ n
  each : AllByRecursion (IsWorkAt p.clock) work

worked_first : (n : ℕ) (act : Act) (p q : Play) → IsWork act → Worked n (longer_by act p) q → Worked (suc n) p q
worked_first n act p q is h = record {
  clock = h.clock;
  work = entry_of act p ∷ h.work;
  split = h.split ∙ append_assoc p.journal (entry_of act p ∷ []) h.work;
  many = ap suc h.many;
  each = ((refl, is), h.each);
}

is_load_work : (number : ℕ) (note : Option LoadNote) (act : Act) → loaded_in number note ≡ Some act → IsWork act
is_load_work number None act is = absurd (cc is)
is_load_work number (Some note) act is = let same : Loaded number note ≡ act = cc is in subst IsWork same tt

is_work : (who : DueActor) (act : Act) (p : Play) → act_in p who ≡ Some act → IsWork act
is_work (due.Slot slot) act p is = let same : Work slot ≡ act = cc is in subst IsWork same tt
is_work (due.Dial slot) act p is = let same : Dialed slot false ≡ act = cc is in subst IsWork same tt
is_work (due.Job number) act p is = let same : Job number ≡ act = cc is in subst IsWork same tt
is_work (due.Load number) act p is = is_load_work number (next_note p) act is
is_work (due.Later moment) act p is = absurd (cc is)
is_work due.Never act p is = absurd (cc is)

-- a play that goes on with somebody due behind so many rounds
record Busy (n : ℕ) (p : Play) : Type 0 where
  goes_on : is_over (repeated n after_due_step p) ≡ false
  due : is_due (next_actor (repeated n after_due_step p)) ≡ true

-- it was not over before
busy_before : (n : ℕ) (p : Play) → Busy n p → is_over p ≡ true → ⊥
busy_before n p busy over =
    both_ways (is_over (repeated n after_due_step p)) busy.goes_on (ap is_over ((goes_all_worked n).over p over) ∙ over)

-- somebody was due in the first of them
busy_first : (n : ℕ) (p : Play) → Busy n p → is_due (next_actor p) ≡ false → ⊥
busy_first n p busy none =
    let same : repeated n after_due_step p ≡ p = repeated_none n after_due_step p (worked_none (next_actor p) p none) in
    both_ways (is_due (next_actor p)) none (sym (ap (λ (q : Play). is_due (next_actor q)) same) ∙ busy.due)

-- who made an entry
worked_entered : (n : ℕ) (act : Act) (p : Play) → is_over p ≡ false → IsFit act p → IsWork act →
    after_due_step p ≡ after_trying_act act p → Busy n (after_due_step p) →
    Worked n (after_due_step p) (repeated n after_due_step (after_due_step p)) →
    Worked (suc n) p (repeated n after_due_step (after_due_step p))
worked_entered n act p goes_on fit is does busy rest = by (is_full_for act (switch_of p)) refl
  where
    entered : after_due_step p ≡ cond (is_full_for act (switch_of p)) (filled p) (longer_by act p)
    entered = does ∙ fit_entered act p goes_on fit

    by : (full : Bool) → is_full_for act (switch_of p) ≡ full → Worked (suc n) p (repeated n after_due_step (after_due_step p))
    by true full =
        absurd (busy_before n (after_due_step p) busy (ap is_over (entered ∙ ap (λ b. cond b (filled p) (longer_by act p)) full)))
    by false below =
        worked_first n act p (repeated n after_due_step (after_due_step p)) is
        (subst (λ (r : Play). Worked n r (repeated n after_due_step (after_due_step p)))
        (entered ∙ ap (λ b. cond b (filled p) (longer_by act p)) below) rest)

worked_once : (config : Configuration) (n : ℕ) (p : Play) → IsWithin config → IsRun config p → Busy n (after_due_step p) →
    Worked n (after_due_step p) (repeated n after_due_step (after_due_step p)) →
    Worked (suc n) p (repeated n after_due_step (after_due_step p))
worked_once config n p within run busy rest = by (act_in p (next_actor p)) refl (is_over p) refl
  where
    -- nothing was entered: nobody was due, or no note was left
    never : act_in p (next_actor p) ≡ None → (due : Bool) → is_due (next_actor p) ≡ due → ⊥
    never none false is = busy_first n p (subst (Busy n) (worked_none (next_actor p) p is) busy) is
    never none true is =
        busy_before n (after_due_step p) busy
        (ap is_over (worked_unnoted (next_actor p) p is none) ∙ over_ended (end_unnoted (switch_of p)) p)

    by : (does : Option Act) → act_in p (next_actor p) ≡ does → (over : Bool) → is_over p ≡ over →
        Worked (suc n) p (repeated n after_due_step (after_due_step p))
    by None none over is = absurd (never none (is_due (next_actor p)) refl)
    by (Some act) does true over =
        let same : after_due_step p ≡ p = worked_due (next_actor p) act p does ∙ (goes_entered act).over p over in
        absurd (busy_before n (after_due_step p) busy (ap is_over same ∙ over))
    by (Some act) does false goes_on =
        worked_entered n act p goes_on (fit_due config act p within run does) (is_work (next_actor p) act p does)
        (worked_due (next_actor p) act p does) busy rest

worked_rounds : (config : Configuration) (n : ℕ) (p : Play) → IsWithin config → IsRun config p → Busy n p →
    Worked n p (repeated n after_due_step p)
unfolding repeated
worked_rounds config zero p within run busy = record {
  clock = refl;
  work = [];
  split = sym (append-nil p.journal);
  many = refl;
  each = tt;
}
worked_rounds config (suc n) p within run busy =
    let next : Busy n (after_due_step p) = record { goes_on = busy.goes_on; due = busy.due } in
    worked_once config n p within run next
    (worked_rounds config n (after_due_step p) within (kept_worked_once Any (IsRun config) (each_run config) p run) next)

-- ---- ends before that of the connection

-- a play that came to its end so far has a cause for that
abbrev pub EndsFirst : Option End → Play → Type 0
EndsFirst None p = Unit {0}
EndsFirst (Some (JournalFull cost limit)) p = IsFullAt cost limit (switch_of p) ⊎ IsFullForLoadAt cost limit p
EndsFirst (Some (Runaway count)) p = RanAway count p
EndsFirst (Some Memory) p = LacksNote p
EndsFirst (Some _) p = ⊥

-- and its journal is a run
record Caused (config : Configuration) (p : Play) : Type 0 where
  run : IsRun config p
  cause : EndsFirst p.end p

first_none : (end : Option End) (p : Play) → is_some end ≡ false → EndsFirst end p
first_none None p none = tt
first_none (Some end) p none = absurd (cc)

-- an act that notes no load
abbrev IsOther : Act → Type 0
IsOther act = is_load act ≡ false

caused_judged : (cause : Option Refusal) (act : Act) (p : Play) → refusal_of (switch_of p) (entry_of act p) ≡ cause →
    ((cost limit : ℕ) → is_full_for act (switch_of p) ≡ true → cost ≡ (switch_of p).cost → limit ≡ (switch_of p).settings.journal_limit →
    IsFullAt cost limit (switch_of p) ⊎ IsFullForLoadAt cost limit p) → is_over p ≡ false →
    EndsFirst (after_judging cause (entry_of act p) p).end (after_judging cause (entry_of act p) p)
caused_judged None act p is filled_up goes_on = first_none p.end _ goes_on
caused_judged (Some (refusal.JournalFull cost limit)) act p is filled_up goes_on =
    let full = full_refused (switch_of p) (entry_of act p) cost limit is in by (filled_up cost limit full.0 full.1 full.2)
  where
    by : IsFullAt cost limit (switch_of p) ⊎ IsFullForLoadAt cost limit p → IsFullAt cost limit (switch_of p)
        ⊎ IsFullForLoadAt cost limit (record p { end = Some (JournalFull cost limit) })
    by (inl full) = inl full
    by (inr full) = inr (record { job = full.job; turn = full.turn; full = full.full; cost_is = full.cost_is; limit_is = full.limit_is })
caused_judged (Some _) act p is filled_up goes_on = first_none p.end p goes_on

caused_tried : (config : Configuration) (act : Act) (p : Play) →
    ((cost limit : ℕ) → is_full_for act (switch_of p) ≡ true → cost ≡ (switch_of p).cost → limit ≡ (switch_of p).settings.journal_limit →
    IsFullAt cost limit (switch_of p) ⊎ IsFullForLoadAt cost limit p) → Caused config p → Caused config (after_trying_act act p)
caused_tried config act p filled_up h = record {
  run = (keeps_run config).enters act tt p h.run;
  cause = by (is_over p) refl;
}
  where
    by : (over : Bool) → is_over p ≡ over →
        EndsFirst (cond over p (after_judging (refusal_of (switch_of p) (entry_of act p)) (entry_of act p) p)).end
        (cond over p (after_judging (refusal_of (switch_of p) (entry_of act p)) (entry_of act p) p))
    by true over = h.cause
    by false goes_on = caused_judged (refusal_of (switch_of p) (entry_of act p)) act p refl filled_up goes_on

-- an act that notes no load is refused where the journal is full
caused_entered : (config : Configuration) (act : Act) → IsOther act → (p : Play) → Caused config p → Caused config (after_trying_act act p)
caused_entered config act other p h =
    caused_tried config act p
    (λ cost limit full cost_is limit_is. inl (record {
      full = sym (ap (λ load. cond load (is_full_for_load (switch_of p)) (is_full (switch_of p))) other) ∙ full;
      cost_is = cost_is;
      limit_is = limit_is;
    })) h

-- a load where it has no room for one, or no note of one is left
caused_loaded : (config : Configuration) (number : ℕ) (note : Option LoadNote) (p : Play) → next_actor p ≡ due.Load number →
    next_note p ≡ note → Caused config p → Caused config (after_loading number note p)
caused_loaded config number (Some note) p turn is h =
    caused_tried config (Loaded number note) p
    (λ cost limit full cost_is limit_is. inr (record { job = number; turn = turn; full = full; cost_is = cost_is; limit_is = limit_is })) h
caused_loaded config number None p turn is h = by (is_over p) refl (is_full_for_load (switch_of p)) refl
  where
    by : (over : Bool) → is_over p ≡ over → (full : Bool) → is_full_for_load (switch_of p) ≡ full →
        Caused config (cond over p (record p { end = Some (cond full (end_full (switch_of p)) Memory) }))
    by true over full at = h
    by false goes_on true full = record {
      run = record { config_is = h.run.config_is; run = h.run.run };
      cause = inr (record { job = number; turn = turn; full = full; cost_is = refl; limit_is = refl });
    }
    by false goes_on false room = record {
      run = record { config_is = h.run.config_is; run = h.run.run };
      cause = record { job = number; turn = turn; room = room; none = is };
    }

caused_worked : (config : Configuration) (who : DueActor) (p : Play) → next_actor p ≡ who → Caused config p →
    Caused config (after_due_work who p)
caused_worked config (due.Slot slot) p at h = caused_entered config (Work slot) refl p h
caused_worked config (due.Dial slot) p at h = caused_entered config (Dialed slot false) refl p h
caused_worked config (due.Job number) p at h = caused_entered config (Job number) refl p h
caused_worked config (due.Load number) p at h = caused_loaded config number (next_note p) p at refl h
caused_worked config (due.Later moment) p at h = h
caused_worked config due.Never p at h = h

caused_rounds : (config : Configuration) (n : ℕ) (p : Play) → Caused config p → Caused config (repeated n after_due_step p)
caused_rounds config n p h =
    kept_repeated (Caused config) n after_due_step (λ q k. caused_worked config (next_actor q) q refl k) p h

-- somebody is still due behind 100,000 rounds
away : (config : Configuration) (p q : Play) → q ≡ repeated 100000 after_due_step p → IsRun config p → is_over q ≡ false →
    is_due (next_actor q) ≡ true → RanAway 100000 (record q { end = Some (Runaway 100000) })
away config p q is run goes_on due = record { many = refl; due = due; worked = λ within. ends within }
  where
    kept : q.config ≡ config
    kept =
        ap (λ (r : Play). r.config) is ∙ (kept_repeated (IsRun config) 100000 after_due_step
        (kept_worked_once Any (IsRun config) (each_run config)) p run).config_is

    ends : IsWithin q.config → EndsInWork 100000 q.clock q.journal
    ends within =
        let worked : Worked 100000 p (repeated 100000 after_due_step p) =
        worked_rounds config 100000 p (subst IsWithin kept within) run
        (record { goes_on = ap is_over (sym is) ∙ goes_on; due = subst (λ (r : Play). is_due (next_actor r) ≡ true) is due }) in record {
          before = p.journal;
          work = worked.work;
          split = ap (λ (r : Play). r.journal) is ∙ worked.split;
          many = worked.many;
          each =
              subst (λ moment. AllByRecursion (IsWorkAt moment) worked.work)
              (sym (ap (λ (r : Play). r.clock) is ∙ worked.clock)) worked.each;
        }

caused_away : (config : Configuration) (p q : Play) → q ≡ repeated 100000 after_due_step p → IsRun config p → Caused config q →
    is_due (next_actor q) ≡ true → Caused config (with_end (Runaway 100000) q)
caused_away config p q is run h due = by (is_over q) refl
  where
    by : (over : Bool) → is_over q ≡ over → Caused config (cond over q (record q { end = Some (Runaway 100000) }))
    by true over = h
    by false goes_on = record {
      run = record { config_is = h.run.config_is; run = h.run.run };
      cause = away config p q is run goes_on due;
    }

caused_stopped : (config : Configuration) (p q : Play) (who : DueActor) → q ≡ repeated 100000 after_due_step p → IsRun config p →
    Caused config q → next_actor q ≡ who → Caused config (with_runaway_end_by who q)
caused_stopped config p q (due.Slot slot) is run h at = caused_away config p q is run h (ap is_due at)
caused_stopped config p q (due.Dial slot) is run h at = caused_away config p q is run h (ap is_due at)
caused_stopped config p q (due.Job number) is run h at = caused_away config p q is run h (ap is_due at)
caused_stopped config p q (due.Load number) is run h at = caused_away config p q is run h (ap is_due at)
caused_stopped config p q (due.Later moment) is run h at = h
caused_stopped config p q due.Never is run h at = h

caused_settled : (config : Configuration) (p : Play) → Caused config p → Caused config (after_settling p)
unfolding after_settling_as
caused_settled config p h =
    let q = repeated 100000 after_due_step p in
    caused_stopped config p q (next_actor q) refl h.run (caused_rounds config 100000 p h) refl

keeps_caused : (config : Configuration) → Keeps IsOther (Caused config)
keeps_caused config = record {
  takes = refl;
  enters = λ act other p h. caused_entered config act other p h;
  settles = caused_settled config;
  goes_on = λ moment p still h. record {
    run = (each_run config).goes_on moment p h.run;
    cause = first_none p.end (record p { clock = moment }) still;
  };
}

caused_closed : (config : Configuration) (input : List ℕ) (notes : List LoadNote) →
    Caused config (after_closing (after_conversing config input notes))
caused_closed config input notes =
    kept_closed IsOther (Caused config) (keeps_caused config) refl refl (after_conversing config input notes)
    (kept_all_commanded IsOther (Caused config) (keeps_caused config) (λ block. refl) (blocks_of input) (after_opening config notes)
    (kept_opened IsOther (Caused config) (keeps_caused config) refl config notes
    (record { run = record { config_is = refl; run = tt }; cause = tt })))

first_cause : (end : End) (p : Play) (fault : Option Fault) (read_failed : Bool) → EndsFirst (Some end) p → HasCause end p fault read_failed
first_cause Exit p fault read_failed first = absurd first
first_cause AuthRefused p fault read_failed first = absurd first
first_cause Stopped p fault read_failed first = absurd first
first_cause Eof p fault read_failed first = absurd first
first_cause ReadFault p fault read_failed first = absurd first
first_cause WriteFault p fault read_failed first = absurd first
first_cause (TooLong len) p fault read_failed first = absurd first
first_cause BadLength p fault read_failed first = absurd first
first_cause (JournalFull cost limit) p fault read_failed first = first
first_cause Memory p fault read_failed first = first
first_cause (Runaway count) p fault read_failed first = first

-- ---- the end of the connection

-- by its input
cause_unparted : (p : Play) (fault : Option Fault) (read_failed : Bool) → HasCause (end_behind None fault read_failed) p fault read_failed
cause_unparted p (Some (faults.TooLong len)) read_failed = refl
cause_unparted p (Some faults.BadLength) read_failed = refl
cause_unparted p None true = (refl, refl)
cause_unparted p None false = (refl, refl)

-- or by its last command, or by the end of the switch, or since its channel left it
cause_behind : (last p : Play) (fault : Option Fault) (read_failed : Bool) (parting : Option Parting) → Tells last →
    ((why : Parting) → Parted why last → Parted why p) → ((why : Parting) → Until why last → Until why p) →
    parting_at (switch_of last) 1 ≡ parting →
    HasCause (end_behind (end_by parting) fault read_failed) p fault read_failed
cause_behind last p fault read_failed (Some way.Exit) tells later still is = later way.Exit (tells.parted way.Exit refl is)
cause_behind last p fault read_failed (Some way.AuthRefused) tells later still is =
    later way.AuthRefused (tells.parted way.AuthRefused refl is)
cause_behind last p fault read_failed (Some way.Stopped) tells later still is =
    inl (stopped_by_end p.config p.journal (still way.Stopped (tells.aside way.Stopped refl is)))
cause_behind last p fault read_failed (Some way.ChannelLeft) tells later still is =
    let until = still way.ChannelLeft (tells.aside way.ChannelLeft refl is) in inr until.at
cause_behind last p fault read_failed (Some way.EndOfInput) tells later still is = cause_unparted p fault read_failed
cause_behind last p fault read_failed None tells later still is = cause_unparted p fault read_failed

-- ---- every end

-- a play that was over stays so, and any other ends in this way
cause_ended : (how end : End) (p : Play) (fault : Option Fault) (read_failed : Bool) → EndsFirst p.end p →
    HasCause how (record p { end = Some how }) fault read_failed → (with_end how p).end ≡ Some end →
    HasCause end (with_end how p) fault read_failed
cause_ended how end p fault read_failed first cause is = by (is_over p) is
  where
    by : (over : Bool) → (cond over p (record p { end = Some how })).end ≡ Some end →
        HasCause end (cond over p (record p { end = Some how })) fault read_failed
    by true e = first_cause end p fault read_failed (subst (λ (last : Option End). EndsFirst last p) e first)
    by false e =
        let same : how ≡ end = cc in subst (λ (last : End). HasCause last (record p { end = Some how }) fault read_failed) same cause

pub cause_played : (config : Configuration) (input : List ℕ) (read_failed : Bool) (notes : List LoadNote) (end : End) →
    (played config input read_failed notes).end ≡ Some end →
    HasCause end (played config input read_failed notes) (fault_of (rest_of input)) read_failed
unfolding played_as
cause_played config input read_failed notes end is =
    let last = after_conversing config input notes in
    let closed = after_closing last in
    let how = end_behind (farewell last) (fault_of (rest_of input)) read_failed in
    cause_ended how end closed (fault_of (rest_of input)) read_failed (caused_closed config input notes).cause
    (cause_behind last (record closed { end = Some how }) (fault_of (rest_of input)) read_failed (parting_at (switch_of last) 1)
    (tells_conversed config input notes) (λ why h. parted_closed why last h) (λ why h. until_closed why last h) refl) is

-- ---- the last command

-- that for which it parted ends its commands
pub last_exit : (config : Configuration) (input : List ℕ) (read_failed : Bool) (notes : List LoadNote) →
    (played config input read_failed notes).end ≡ Some Exit →
    EndsFor way.Exit config.settings.password (commands_of 1 (played config input read_failed notes).journal)
last_exit config input read_failed notes is =
    subst (λ (c : Configuration). EndsFor way.Exit c.settings.password (commands_of 1 (played config input read_failed notes).journal))
    (config_played config input read_failed notes)
    (parted_last way.Exit (played config input read_failed notes).config (played config input read_failed notes).journal
    (cause_played config input read_failed notes Exit is))

pub last_refused : (config : Configuration) (input : List ℕ) (read_failed : Bool) (notes : List LoadNote) →
    (played config input read_failed notes).end ≡ Some AuthRefused →
    EndsFor way.AuthRefused config.settings.password (commands_of 1 (played config input read_failed notes).journal)
last_refused config input read_failed notes is =
    subst (λ (c : Configuration). EndsFor way.AuthRefused c.settings.password (commands_of 1 (played config input read_failed notes).journal))
    (config_played config input read_failed notes)
    (parted_last way.AuthRefused (played config input read_failed notes).config (played config input read_failed notes).journal
    (cause_played config input read_failed notes AuthRefused is))
