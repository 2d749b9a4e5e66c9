-- A play waits until no reply is owed, so its connection can be closed.
use Rattle.std.proofs.Common.{◌≡◌, ℕ, zero, suc, ◌+◌, ◌-◌, ◌*◌, ◌^◌, ◌≤◌, Bool, true, false, cond, not, ◌&&◌, List, [], ◌∷◌, ◌++◌, length}
use Rattle.std.proofs.Common.{Option, None, Some, ◌⊎◌, inl, inr, refl, sym, ap, ◌∙◌, subst, arith}
use Rattle.std.proofs.lemmas.Bool.{both_ways, ltb-false}
use Rattle.fs_doc.specs.Reading.{Configuration}
use Rattle.fs_doc.specs.Limits.{IsWithin}
use Rattle.fs_frame.specs.Block.{fault_of}
use Rattle.fs_frame.specs.Blocks.{blocks_of, rest_of}
use Rattle.fs_doc.specs.declared.settings.Settings.{Settings}
use Rattle.fs_state.specs.declared.conn.Phase.TheVariants.{Ending}
use Rattle.fs_state.specs.Switch.{Switch, empty, waiting_for, at_moment, is_full, is_full_for_load}
use Rattle.fs_machine.specs.declared.due.DueActor.{DueActor}
use Rattle.fs_machine.specs.declared.due.DueActor.TheVariants as due
use Rattle.fs_machine.specs.declared.entry.Entry.{Entry}
use Rattle.fs_machine.specs.declared.entry.Act.{Act}
use Rattle.fs_machine.specs.declared.entry.Act.TheVariants.{Arrive, Command, Take, Close, Dialed, Work, Job, Loaded}
use Rattle.fs_machine.specs.declared.entry.Closing.TheVariants.{EndOfInput, Sent}
use Rattle.fs_machine.specs.declared.refusal.Refusal.{Refusal}
use Rattle.fs_machine.specs.declared.refusal.Refusal.TheVariants as refusal
use Rattle.fs_machine.specs.Entries.{cost_of, is_load}
use Rattle.fs_machine.specs.Connections.{phase_at}
use Rattle.fs_machine.specs.Questions.{owes}
use Rattle.fs_machine.specs.Here.{IsHere}
use Rattle.fs_machine.specs.Owed.{AreOwed}
use Rattle.fs_machine.specs.Step.{step, act_done as acted_by, refused_where, refused_act, refusal_of, is_full_for}
use Rattle.fs_machine.specs.Runs.{run_from}
use Rattle.fs_machine.proofs.RunLemmas.{run_more}
use Rattle.fs_machine.proofs.FrameLemmas.{some_cost, take_owes}
use Rattle.fs_machine.proofs.OrderLemmas.{acted_cost, not_full, room_for_load}
use Rattle.fs_machine.proofs.FramesLaws.{settings_run}
use Rattle.fs_machine.proofs.HereLemmas.{ClosesNone, arrival_accepted, arrival_here}
use Rattle.fs_machine.proofs.OwedLaws as owed_laws
use Rattle.fs_machine.proofs.LeftLemmas.{NoneLeft, run_none_left, empty_none_left}
use Rattle.fs_machine.proofs.CloseLaws.{ending_at, end_parts, take_leaves_phase, sent_accepted}
use Rattle.fs_machine.proofs.DueLaws.{AreKnown, run_is_known, slot_accepted, dial_accepted, job_accepted, load_accepted, IsDue, comes_due}
use Rattle.fs_conn.specs.declared.end.End.{End}
use Rattle.fs_conn.specs.declared.end.End.TheVariants.{JournalFull, Runaway}
use Rattle.fs_conn.specs.Play.{Play, switch_of, new_play, is_over, with_end, after_judging, after_trying_act, repeated}
use Rattle.fs_conn.specs.Play.{next_actor, after_due_step, with_runaway_end_by, after_settling, after_waiting_until, after_waiting_once}
use Rattle.fs_conn.specs.Play.{after_waiting, after_taking_all, after_act, reads_on, takes_commands, after_command, after_commands}
use Rattle.fs_conn.specs.Play.{after_opening, after_input_end, after_conversing, after_closing, farewell, end_behind, played}
use Rattle.fs_conn.specs.Play.{after_taking_all_as, played_as, after_settling_as, after_waiting_as, end_unnoted, next_note}
use Rattle.fs_conn.specs.Steps.{spent, is_due, is_early, entry_of}
use Rattle.fs_conn.proofs.PlayLemmas.{goes_entered, goes_all_taken, loaded_in, act_in, worked_due, worked_unnoted, unnoted_early}
use Rattle.fs_conn.proofs.RoundLemmas.{repeated_none}
use Rattle.fs_conn.proofs.KeepLemmas.{KeepsEach, kept_repeated, kept_behind, kept_settled, kept_followed, kept_opened, kept_commanded}
use Rattle.fs_conn.proofs.KeepLemmas.{kept_all_commanded}
use Rattle.fs_conn.proofs.HereLemmas.{Here, keeps_here, Free, free_taken}
use Rattle.fs_conn.proofs.LawLemmas.{Any, IsRun, each_run, keeps_run, EndsEarly, Early, early_closed}
use Rattle.fs_conn.proofs.DrainLemmas.{run_of, switch_is, Drained, drained_conversed, drained_ended, run_begun, run_conversed}
use Rattle.fs_conn.proofs.DrainLemmas.{nothing_waits}
use Rattle.fs_machine.specs.declared.note.LoadNote.{LoadNote}

-- ---- acts that nothing but a full journal speaks against

-- why an entry is refused against which nothing else speaks
pub refusal_is : (s : Switch) (entry : Entry) → refused_act entry.act (at_moment entry.moment s) ≡ None →
    refusal_of s entry ≡ refused_where (is_full_for entry.act s) (refusal.JournalFull s.cost s.settings.journal_limit) None
unfolding refusal_of
refusal_is s entry none = ap (refused_where (is_full_for entry.act s) (refusal.JournalFull s.cost s.settings.journal_limit)) none

-- a journal that has room for a load has room for any other entry
pub room_for : (act : Act) (s : Switch) → is_full_for act s ≡ false → is_full s ≡ false
room_for act s room = by (is_load act) room
  where
    by : (load : Bool) → cond load (is_full_for_load s) (is_full s) ≡ false → is_full s ≡ false
    by false is = is
    by true is = room_for_load s is

-- nothing speaks against an act of this play
abbrev pub IsFit : Act → Play → Type 0
IsFit act p = refused_act act (at_moment p.clock (switch_of p)) ≡ None

-- it ends for its full journal
abbrev pub filled : Play → Play
filled p = record p { end = Some (JournalFull (switch_of p).cost (switch_of p).settings.journal_limit) }

-- with one entry more
abbrev pub longer_by : Act → Play → Play
longer_by act p = record p { journal = p.journal ++ entry_of act p ∷ [] }

pub fit_judged : (act : Act) (p : Play) → IsFit act p →
    after_judging (refusal_of (switch_of p) (entry_of act p)) (entry_of act p) p
    ≡ cond (is_full_for act (switch_of p)) (filled p) (longer_by act p)
fit_judged act p fit =
    ap (λ cause. after_judging cause (entry_of act p) p) (refusal_is (switch_of p) (entry_of act p) fit)
    ∙ by (is_full_for act (switch_of p))
  where
    by : (full : Bool) → after_judging (refused_where full
        (refusal.JournalFull (switch_of p).cost (switch_of p).settings.journal_limit) None) (entry_of act p) p
        ≡ cond full (filled p) (longer_by act p)
    by true = refl
    by false = refl

-- such an act ends the play where its journal is full for it, and is entered otherwise
pub fit_entered : (act : Act) (p : Play) → is_over p ≡ false → IsFit act p →
    after_trying_act act p ≡ cond (is_full_for act (switch_of p)) (filled p) (longer_by act p)
fit_entered act p goes_on fit =
    ap (λ over. cond over p (after_judging (refusal_of (switch_of p) (entry_of act p)) (entry_of act p) p)) goes_on ∙ fit_judged act p fit

pub switch_longer : (act : Act) (p : Play) → switch_of (longer_by act p) ≡ (step (switch_of p) (entry_of act p)).state
switch_longer act p = run_more (empty p.config) p.journal (entry_of act p)

-- ---- what a play costs

cost_once : (s : Switch) (entry : Entry) → (step s entry).state.cost ≤ 2 ^ 64 - 1
unfolding step
cost_once s entry = omega arith

cost_bound : (entries : List Entry) (s : Switch) → s.cost ≤ 2 ^ 64 - 1 → (run_from s entries).cost ≤ 2 ^ 64 - 1
cost_bound [] s bound = bound
cost_bound (entry ∷ entries) s bound = cost_bound entries (step s entry).state (cost_once s entry)

-- an entry that is accepted costs 64 at least
cost_more : (s : Switch) (entry : Entry) → is_full s ≡ false → s.settings.journal_limit ≤ 1073741824 →
    s.cost + 64 ≤ (step s entry).state.cost
unfolding step
cost_more s entry below small =
    let same : (acted_by entry.act (at_moment entry.moment s)).state.cost ≡ s.cost = acted_cost entry.act (at_moment entry.moment s) in
    let some : 64 ≤ cost_of entry.act = some_cost entry.act in
    let room : s.cost + 65600 ≤ s.settings.journal_limit = ltb-false s.settings.journal_limit (s.cost + 65600) below in
    omega (arith, same, some, room, small)

limit_of : (config : Configuration) (p : Play) → config.settings.journal_limit ≤ 1073741824 → IsRun config p →
    (switch_of p).settings.journal_limit ≤ 1073741824
limit_of config p small run =
    subst (λ (settings : Settings). settings.journal_limit ≤ 1073741824)
    (sym (settings_run (empty p.config) p.journal ∙ ap (λ (c : Configuration). c.settings) run.config_is)) small

-- the play is over, or its entries cost this much at least
abbrev Pays : ℕ → Play → Type 0
Pays least p = (is_over p ≡ true) ⊎ (least ≤ spent p)

-- so it is, and its journal is a run
record Spent (config : Configuration) (least : ℕ) (p : Play) : Type 0 where
  run : IsRun config p
  paid : Pays least p

spent_longer : (config : Configuration) (act : Act) (p : Play) → config.settings.journal_limit ≤ 1073741824 → IsRun config p →
    is_full (switch_of p) ≡ false → spent p + 64 ≤ spent (longer_by act p)
spent_longer config act p small run below =
    subst (λ (s : Switch). spent p + 64 ≤ s.cost) (sym (switch_longer act p))
    (cost_more (switch_of p) (entry_of act p) below (limit_of config p small run))

paid_judged : (config : Configuration) (least : ℕ) (act : Act) (cause : Option Refusal) (p : Play) →
    config.settings.journal_limit ≤ 1073741824 → IsRun config p →
    refusal_of (switch_of p) (entry_of act p) ≡ cause → Pays least p → Pays least (after_judging cause (entry_of act p) p)
paid_judged config least act None p small run is (inl over) = inl over
paid_judged config least act None p small run is (inr paid) =
    let more = spent_longer config act p small run (not_full (switch_of p) (entry_of act p) is) in inr (omega (arith, more, paid))
paid_judged config least act (Some (refusal.JournalFull cost limit)) p small run is paid = inl refl
paid_judged config least act (Some _) p small run is paid = paid

each_spent : (config : Configuration) (least : ℕ) → config.settings.journal_limit ≤ 1073741824 → KeepsEach Any (Spent config least)
each_spent config least small = record {
  works = λ slot. tt;
  dials = λ slot. tt;
  jobs = λ number. tt;
  loads = λ number note. tt;
  takes = tt;
  enters = λ act such p h. record {
    run = (each_run config).enters act tt p h.run;
    paid =
        elim (is_over p) as (λ b. Pays least (cond b p (after_judging (refusal_of (switch_of p) (entry_of act p)) (entry_of act p) p))) [
          | true ↦ h.paid
          | false ↦ paid_judged config least act (refusal_of (switch_of p) (entry_of act p)) p small h.run refl h.paid
        ];
  };
  ends = λ end early p h. record {
    run = (each_run config).ends end early p h.run;
    paid =
        elim (is_over p) as (λ b. Pays least (cond b p (record p { end = Some end }))) [
          | true ↦ h.paid
          | false ↦ inl refl
        ];
  };
  goes_on = λ moment p h. record { run = (each_run config).goes_on moment p h.run; paid = h.paid };
}

-- ---- what is due is worked

known_of : (config : Configuration) (p : Play) → IsWithin config → IsRun config p → AreKnown (switch_of p)
known_of config p within run = subst AreKnown (switch_is config p run) (run_is_known config p.journal within (run_of config p run))

pub owed_of_run : (config : Configuration) (p : Play) → IsWithin config → IsRun config p → AreOwed (switch_of p)
owed_of_run config p within run =
    subst AreOwed (switch_is config p run) (owed_laws.run_is_owed config p.journal within (run_of config p run))

-- nothing speaks against what has something to do
pub fit_due : (config : Configuration) (act : Act) (p : Play) → IsWithin config → IsRun config p →
    act_in p (next_actor p) ≡ Some act → IsFit act p
fit_due config act p within run is = by (next_actor p) refl is
  where
    loaded : (number : ℕ) (note : Option LoadNote) → next_actor p ≡ due.Load number → loaded_in number note ≡ Some act → IsFit act p
    loaded number None at e = absurd (cc e)
    loaded number (Some note) at e =
        let same : Loaded number note ≡ act = cc e in
        subst (λ a. IsFit a p) same (load_accepted (switch_of p) p.clock number note at)

    by : (who : DueActor) → next_actor p ≡ who → act_in p who ≡ Some act → IsFit act p
    by (due.Slot slot) at e = let same : Work slot ≡ act = cc e in subst (λ a. IsFit a p) same (slot_accepted (switch_of p) p.clock slot at)
    by (due.Dial slot) at e =
        let same : Dialed slot false ≡ act = cc e in
        subst (λ a. IsFit a p) same (dial_accepted (switch_of p) p.clock slot false at)
    by (due.Job number) at e =
        let same : Job number ≡ act = cc e in
        subst (λ a. IsFit a p) same (job_accepted (switch_of p) p.clock number (known_of config p within run) at)
    by (due.Load number) at e = loaded number (next_note p) at e
    by (due.Later moment) at e = absurd (cc e)
    by due.Never at e = absurd (cc e)

paid_entered : (config : Configuration) (act : Act) (p : Play) → config.settings.journal_limit ≤ 1073741824 → IsRun config p → IsFit act p →
    Pays (spent p + 64) (after_trying_act act p)
paid_entered config act p small run fit = by (is_over p) refl (is_full_for act (switch_of p)) refl
  where
    by : (over : Bool) → is_over p ≡ over → (full : Bool) → is_full_for act (switch_of p) ≡ full →
        Pays (spent p + 64) (after_trying_act act p)
    by true over full at = inl (ap is_over ((goes_entered act).over p over) ∙ over)
    by false goes_on true full =
        subst (Pays (spent p + 64)) (sym (fit_entered act p goes_on fit ∙ ap (λ b. cond b (filled p) (longer_by act p)) full)) (inl refl)
    by false goes_on false below =
        subst (Pays (spent p + 64)) (sym (fit_entered act p goes_on fit ∙ ap (λ b. cond b (filled p) (longer_by act p)) below))
        (inr (spent_longer config act p small run (room_for act (switch_of p) below)))

pub over_ended : (end : End) (p : Play) → is_over (with_end end p) ≡ true
over_ended end p = by (is_over p) refl
  where
    by : (over : Bool) → is_over p ≡ over → is_over (cond over p (record p { end = Some end })) ≡ true
    by true over = over
    by false goes_on = refl

-- where something is due, all that is due costs something
spent_settled : (config : Configuration) (p : Play) → IsWithin config → IsRun config p → is_due (next_actor p) ≡ true →
    Spent config (spent p + 64) (after_settling p)
spent_settled config p within run is =
    kept_behind Any (Spent config (spent p + 64)) (each_spent config (spent p + 64) within.settings.journal.1) p
    (by (act_in p (next_actor p)) refl)
  where
    by : (does : Option Act) → act_in p (next_actor p) ≡ does → Spent config (spent p + 64) (after_due_step p)
    by None none =
        subst (Spent config (spent p + 64)) (sym (worked_unnoted (next_actor p) p is none)) (record {
          run = (each_run config).ends (end_unnoted (switch_of p)) (unnoted_early (switch_of p)) p run;
          paid = inl (over_ended (end_unnoted (switch_of p)) p);
        })
    by (Some act) does =
        subst (Spent config (spent p + 64)) (sym (worked_due (next_actor p) act p does)) (record {
          run = (keeps_run config).enters act tt p run;
          paid = paid_entered config act p within.settings.journal.1 run (fit_due config act p within run does);
        })

-- the play is over, or nothing is due
abbrev Idle : Play → Type 0
Idle p = (is_over p ≡ true) ⊎ (is_due (next_actor p) ≡ false)

idle_stopped : (who : DueActor) (p : Play) → next_actor p ≡ who → Idle (with_runaway_end_by who p)
idle_stopped (due.Slot slot) p is = inl (over_ended (Runaway 100000) p)
idle_stopped (due.Dial slot) p is = inl (over_ended (Runaway 100000) p)
idle_stopped (due.Job number) p is = inl (over_ended (Runaway 100000) p)
idle_stopped (due.Load number) p is = inl (over_ended (Runaway 100000) p)
idle_stopped (due.Later moment) p is = inr (ap is_due is)
idle_stopped due.Never p is = inr (ap is_due is)

idle_settled : (p : Play) → Idle (after_settling p)
unfolding after_settling_as
idle_settled p = let q = repeated 100000 after_due_step p in idle_stopped (next_actor q) q refl

-- ---- replies that are owed

-- the play is over, or its connection is owed nothing
abbrev pub Rests : Play → Type 0
Rests p = (is_over p ≡ true) ⊎ Free p

-- it goes on, with nothing due, and so many moments at which something was due were paid for
record Goes (config : Configuration) (moments : ℕ) (p : Play) : Type 0 where
  run : IsRun config p
  goes_on : is_over p ≡ false
  idle : is_due (next_actor p) ≡ false
  paid : 64 * moments ≤ spent p

going : (config : Configuration) (moments : ℕ) (p : Play) → Spent config (64 * moments) p → Idle p →
    (is_over p ≡ true) ⊎ Goes config moments p
going config moments p h idle = by (is_over p) refl h.paid idle
  where
    by : (over : Bool) → is_over p ≡ over → Pays (64 * moments) p → Idle p → (is_over p ≡ true) ⊎ Goes config moments p
    by true over paid idle = inl over
    by false goes_on (inl over) idle = inl over
    by false goes_on (inr paid) (inl over) = inl over
    by false goes_on (inr paid) (inr idle) = inr (record { run = h.run; goes_on = goes_on; idle = idle; paid = paid })

-- a play that rests waits no longer
rested : (p : Play) → Rests p → after_waiting_once p ≡ p
rested p (inl over) = ap (λ b. cond (not b && owes (switch_of p) 1) (after_waiting_until (next_actor p) p) p) over
rested p (inr free) = by (is_over p)
  where
    by : (over : Bool) → cond (not over && owes (switch_of p) 1) (after_waiting_until (next_actor p) p) p ≡ p
    by true = refl
    by false = ap (λ b. cond b (after_waiting_until (next_actor p) p) p) free

-- somebody has something to do
due_is : (who : DueActor) → IsDue who → is_due who ≡ true
due_is (due.Slot slot) is = refl
due_is (due.Dial slot) is = refl
due_is (due.Job number) is = refl
due_is (due.Load number) is = refl
due_is (due.Later moment) is = absurd is
due_is due.Never is = absurd is

-- at the next moment something is due, which costs something
spent_waited : (config : Configuration) (moments moment : ℕ) (p : Play) → IsWithin config →
    Goes config moments p → next_actor p ≡ due.Later moment →
    Spent config (64 * (moments + 1)) (after_settling (record p { clock = moment }))
spent_waited config moments moment p within goes later =
    let next =
    spent_settled config (record p { clock = moment }) within ((each_run config).goes_on moment p goes.run)
    (due_is (next_actor (record p { clock = moment })) (comes_due (switch_of p) p.clock moment later)) in
    record { run = next.run; paid = by next.paid }
  where
    by : Pays (spent p + 64) (after_settling (record p { clock = moment })) →
        Pays (64 * (moments + 1)) (after_settling (record p { clock = moment }))
    by (inl over) = inl over
    by (inr paid) = inr (omega (arith, paid, goes.paid))

once : (config : Configuration) (moments : ℕ) (p : Play) → IsWithin config → Goes config moments p →
    Rests (after_waiting_once p) ⊎ Goes config (moments + 1) (after_waiting_once p)
once config moments p within goes = by (owes (switch_of p) 1) refl
  where
    later : (q : Play) → (is_over q ≡ true) ⊎ Goes config (moments + 1) q → Rests q ⊎ Goes config (moments + 1) q
    later q (inl over) = inl (inl over)
    later q (inr goes) = inr goes

    at : owes (switch_of p) 1 ≡ true → (who : DueActor) → next_actor p ≡ who →
        Rests (after_waiting_until who p) ⊎ Goes config (moments + 1) (after_waiting_until who p)
    at owed (due.Slot slot) is = let none : is_due (due.Slot slot) ≡ false = ap is_due (sym is) ∙ goes.idle in absurd (cc none)
    at owed (due.Dial slot) is = let none : is_due (due.Dial slot) ≡ false = ap is_due (sym is) ∙ goes.idle in absurd (cc none)
    at owed (due.Job number) is = let none : is_due (due.Job number) ≡ false = ap is_due (sym is) ∙ goes.idle in absurd (cc none)
    at owed (due.Load number) is = let none : is_due (due.Load number) ≡ false = ap is_due (sym is) ∙ goes.idle in absurd (cc none)
    at owed (due.Later moment) is =
        later (after_settling (record p { clock = moment }))
        (going config (moments + 1) (after_settling (record p { clock = moment })) (spent_waited config moments moment p within goes is)
        (idle_settled (record p { clock = moment })))
    at owed due.Never is = absurd (owed_laws.goes_on (switch_of p) 1 p.clock (owed_of_run config p within goes.run) owed is)

    by : (owed : Bool) → owes (switch_of p) 1 ≡ owed → Rests (after_waiting_once p) ⊎ Goes config (moments + 1) (after_waiting_once p)
    by false free = inl (subst Rests (sym (rested p (inr free))) (inr free))
    by true owed =
        subst (λ q. Rests q ⊎ Goes config (moments + 1) q)
        (sym (ap (λ b. cond (not b && owes (switch_of p) 1) (after_waiting_until (next_actor p) p) p) goes.goes_on
        ∙ ap (λ b. cond b (after_waiting_until (next_actor p) p) p) owed))
        (at owed (next_actor p) refl)

rounds : (config : Configuration) (n moments : ℕ) (p : Play) → IsWithin config → Goes config moments p →
    Rests (repeated n after_waiting_once p) ⊎ Goes config (moments + n) (repeated n after_waiting_once p)
unfolding repeated
rounds config zero moments p within goes = inr (subst (λ m. Goes config m p) (none moments) goes)
  where
    none : (m : ℕ) → m ≡ m + 0
    none m = omega arith
rounds config (suc n) moments p within goes =
    by (once config moments p within goes) (λ further. rounds config n (moments + 1) (after_waiting_once p) within further)
  where
    more : (m k : ℕ) → (m + 1) + k ≡ m + suc k
    more m k = omega arith

    by : Rests (after_waiting_once p) ⊎ Goes config (moments + 1) (after_waiting_once p) →
        (Goes config (moments + 1) (after_waiting_once p) →
        Rests (repeated n after_waiting_once (after_waiting_once p))
        ⊎ Goes config ((moments + 1) + n) (repeated n after_waiting_once (after_waiting_once p))) →
        Rests (repeated n after_waiting_once (after_waiting_once p)) ⊎ Goes config (moments + suc n)
        (repeated n after_waiting_once (after_waiting_once p))
    by (inl rests) later =
        inl (subst Rests (sym (repeated_none n after_waiting_once (after_waiting_once p) (rested (after_waiting_once p) rests))) rests)
    by (inr further) later =
        subst (λ m. Rests (repeated n after_waiting_once (after_waiting_once p))
        ⊎ Goes config m (repeated n after_waiting_once (after_waiting_once p))) (more moments n) (later further)

-- no play can pay for so many
too_many : (config : Configuration) (p : Play) → Goes config (0 + 2 ^ 64) p → ⊥
too_many config p goes = let bound = cost_bound p.journal (empty p.config) (omega arith) in omega (arith, bound, goes.paid)

rests_rounds : (config : Configuration) (p : Play) → Rests p ⊎ Goes config (0 + 2 ^ 64) p → Rests p
rests_rounds config p (inl rests) = rests
rests_rounds config p (inr goes) = absurd (too_many config p goes)

-- so a play that waits comes to rest
pub rests_waited : (config : Configuration) (p : Play) → IsWithin config → IsRun config p →
    Rests (after_waiting (after_settling p))
unfolding after_waiting_as
rests_waited config p within run =
    by (going config 0 (after_settling p) (record {
      run = kept_settled Any (IsRun config) (each_run config) p run;
      paid = inr (omega arith);
    }) (idle_settled p))
  where
    by : (is_over (after_settling p) ≡ true) ⊎ Goes config 0 (after_settling p) →
        Rests (repeated (2 ^ 64) after_waiting_once (after_settling p))
    by (inl over) =
        subst Rests (sym (repeated_none (2 ^ 64) after_waiting_once (after_settling p) (rested (after_settling p) (inl over)))) (inl over)
    by (inr goes) = rests_rounds config (repeated (2 ^ 64) after_waiting_once (after_settling p))
        (rounds config (2 ^ 64) 0 (after_settling p) within goes)

rests_taken : (p : Play) → Rests p → Rests (after_taking_all p)
rests_taken p (inl over) = inl (ap is_over (goes_all_taken.over p over) ∙ over)
rests_taken p (inr free) = inr (free_taken p free)

pub rests_acted : (config : Configuration) (act : Act) (p : Play) → IsWithin config → IsRun config p →
    Rests (after_act act p)
rests_acted config act p within run =
    rests_taken (after_waiting (after_settling (after_trying_act act p)))
    (rests_waited config (after_trying_act act p) within ((keeps_run config).enters act tt p run))

-- ---- the conversation

rests_commanded : (config : Configuration) (block : List ℕ) (p : Play) → IsWithin config → IsRun config p →
    Rests p → Rests (after_command p block)
rests_commanded config block p within run rests =
    elim (takes_commands p) as (λ b. Rests (cond b (after_act (Command 1 block) p) p)) [
      | true ↦ rests_acted config (Command 1 block) p within run
      | false ↦ rests
    ]

rests_all_commanded : (config : Configuration) (blocks : List (List ℕ)) (p : Play) → IsWithin config →
    IsRun config p → Rests p → Rests (after_commands p blocks)
rests_all_commanded config [] p within run rests = rests
rests_all_commanded config (block ∷ blocks) p within run rests =
    rests_all_commanded config blocks (after_command p block) within (kept_commanded Any (IsRun config) (keeps_run config) block tt p run)
    (rests_commanded config block p within run rests)

pub rests_conversed : (config : Configuration) (input : List ℕ) (notes : List LoadNote) → IsWithin config →
    Rests (after_conversing config input notes)
rests_conversed config input notes within =
    rests_all_commanded config (blocks_of input) (after_opening config notes) within
    (kept_opened Any (IsRun config) (keeps_run config) tt config notes (run_begun config notes))
    (rests_acted config Arrive (new_play config notes) within (run_begun config notes))

-- it may come, and then it is there
pub fit_arrival : (config : Configuration) (notes : List LoadNote) → IsWithin config →
    after_trying_act Arrive (new_play config notes) ≡ longer_by Arrive (new_play config notes)
fit_arrival config notes within =
    ap (λ cause. after_judging cause (entry_of Arrive (new_play config notes)) (new_play config notes)) (arrival_accepted config 0 within)

here_first : (config : Configuration) (notes : List LoadNote) → IsWithin config → Here (after_trying_act Arrive (new_play config notes))
here_first config notes within goes_on =
    subst (λ (p : Play). IsHere 1 (switch_of p)) (sym (fit_arrival config notes within)) (arrival_here config 0 within)

pub here_conversed : (config : Configuration) (input : List ℕ) (notes : List LoadNote) → IsWithin config →
    Here (after_conversing config input notes)
here_conversed config input notes within =
    kept_all_commanded ClosesNone Here keeps_here (λ block. tt) (blocks_of input) (after_opening config notes)
    (kept_followed ClosesNone Here keeps_here (after_trying_act Arrive (new_play config notes)) (here_first config notes within))

-- ---- the end of the input

-- the connection reads no further command, and is owed nothing
pub record Parted (p : Play) : Type 0 where
  pub ending : phase_at (switch_of p) 1 ≡ Ending
  pub free : owes (switch_of p) 1 ≡ false

-- between entries no connection stands whose channel has left it
pub none_left_of : (p : Play) → NoneLeft (switch_of p)
none_left_of p = run_none_left (empty p.config) p.journal (empty_none_left p.config)

-- taking frames leaves it so
parted_judged : (cause : Option Refusal) (p : Play) → Parted p → Parted (after_judging cause (entry_of (Take 1) p) p)
parted_judged None p h = record {
  ending = ap (λ (s : Switch). phase_at s 1) (switch_longer (Take 1) p) ∙ take_leaves_phase (switch_of p) p.clock 1 (none_left_of p)
      ∙ h.ending;
  free = ap (λ (s : Switch). owes s 1) (switch_longer (Take 1) p) ∙ take_owes (switch_of p) p.clock 1 1 ∙ h.free;
}
parted_judged (Some (refusal.JournalFull cost limit)) p h = record { ending = h.ending; free = h.free }
parted_judged (Some _) p h = h

parted_entered : (p : Play) → Parted p → Parted (after_trying_act (Take 1) p)
parted_entered p h =
    elim (is_over p) as (λ b. Parted (cond b p (after_judging (refusal_of (switch_of p) (entry_of (Take 1) p)) (entry_of (Take 1) p) p))) [
      | true ↦ h
      | false ↦ parted_judged (refusal_of (switch_of p) (entry_of (Take 1) p)) p h
    ]

parted_repeated : (n : ℕ) (p : Play) → Parted p → Parted (repeated n (after_trying_act (Take 1)) p)
parted_repeated n p h = kept_repeated Parted n (after_trying_act (Take 1)) parted_entered p h

parted_taken : (p : Play) → Parted p → Parted (after_taking_all p)
unfolding after_taking_all_as
parted_taken p h = parted_repeated (length (waiting_for (switch_of p) 1)) p h

-- a connection that reads commands may end its input
pub fit_end : (p : Play) → reads_on p ≡ true → IsFit (Close 1 EndOfInput) p
fit_end p reading = ap (λ b. refused_where (not b) refusal.Gone None) reading

parted_end : (p : Play) → is_over p ≡ false → reads_on p ≡ true → Free p →
    (is_over (after_trying_act (Close 1 EndOfInput) p) ≡ true) ⊎ Parted (after_trying_act (Close 1 EndOfInput) p)
parted_end p goes_on reading free =
    subst (λ (q : Play). (is_over q ≡ true) ⊎ Parted q) (sym (fit_entered (Close 1 EndOfInput) p goes_on (fit_end p reading)))
    (by (is_full (switch_of p)))
  where
    parts : Parted (longer_by (Close 1 EndOfInput) p)
    parts = let both = end_parts (switch_of p) p.clock 1 reading free in record {
      ending = ap (λ (s : Switch). phase_at s 1) (switch_longer (Close 1 EndOfInput) p) ∙ both.0;
      free = ap (λ (s : Switch). owes s 1) (switch_longer (Close 1 EndOfInput) p) ∙ both.1;
    }

    by : (full : Bool) → (is_over (cond full (filled p) (longer_by (Close 1 EndOfInput) p)) ≡ true)
        ⊎ Parted (cond full (filled p) (longer_by (Close 1 EndOfInput) p))
    by true = inl refl
    by false = inr parts

-- the play is over, or its connection has parted
abbrev PartsOrOver : Play → Type 0
PartsOrOver p = (is_over p ≡ true) ⊎ Parted p

parts_taken : (p : Play) → PartsOrOver p → PartsOrOver (after_taking_all p)
parts_taken p (inl over) = inl (ap is_over (goes_all_taken.over p over) ∙ over)
parts_taken p (inr h) = inr (parted_taken p h)

parts_ended : (config : Configuration) (p : Play) → IsWithin config → IsRun config p → Here p → Rests p →
    PartsOrOver (after_input_end p)
parts_ended config p within run here rests = by (is_over p) refl rests (reads_on p) refl
  where
    over_both : (reading : Bool) → is_over p ≡ true →
        PartsOrOver (cond reading (after_taking_all (after_trying_act (Close 1 EndOfInput) p)) p)
    over_both true over =
        parts_taken (after_trying_act (Close 1 EndOfInput) p) (inl (ap is_over ((goes_entered (Close 1 EndOfInput)).over p over) ∙ over))
    over_both false over = inl over

    by : (over : Bool) → is_over p ≡ over → Rests p → (reading : Bool) → reads_on p ≡ reading →
        PartsOrOver (cond reading (after_taking_all (after_trying_act (Close 1 EndOfInput) p)) p)
    by true over rests reading is = over_both reading over
    by false goes_on (inl over) reading is = over_both reading over
    by false goes_on (inr free) true is = parts_taken (after_trying_act (Close 1 EndOfInput) p) (parted_end p goes_on is free)
    by false goes_on (inr free) false is =
        inr (record { ending = ending_at (switch_of p) 1 (owed_of_run config p within run) (here goes_on).there is; free = free })

-- ---- the closing

-- one that has parted and for which nothing waits can be closed
fit_sent : (p : Play) → Parted p → waiting_for (switch_of p) 1 ≡ [] → IsFit (Close 1 Sent) p
fit_sent p h nothing = sent_accepted (at_moment p.clock (switch_of p)) 1 h.ending nothing h.free

-- nothing speaks against the closing of a play that is not over
fit_closing : (config : Configuration) (p : Play) → IsWithin config → IsRun config p → Here p → Rests p →
    Drained p → is_over (after_input_end p) ≡ false → IsFit (Close 1 Sent) (after_input_end p)
fit_closing config p within run here rests drained goes_on = by (parts_ended config p within run here rests)
  where
    by : PartsOrOver (after_input_end p) → IsFit (Close 1 Sent) (after_input_end p)
    by (inl over) = absurd (both_ways (is_over (after_input_end p)) goes_on over)
    by (inr h) =
        fit_sent (after_input_end p) h
        (nothing_waits (after_input_end p) (drained_ended config p within.settings.journal.1 run drained) goes_on)

pub fit_last : (config : Configuration) (input : List ℕ) (notes : List LoadNote) → IsWithin config →
    is_over (after_input_end (after_conversing config input notes)) ≡ false →
    IsFit (Close 1 Sent) (after_input_end (after_conversing config input notes))
fit_last config input notes within goes_on =
    fit_closing config (after_conversing config input notes) within (run_conversed config input notes) (here_conversed config input notes within)
    (rests_conversed config input notes within) (drained_conversed config input notes within.settings.journal.1) goes_on

-- the journal ends with the Close as Sent of the connection
abbrev pub EndsSent : Play → Type 0
EndsSent p = (before : List Entry) × (moment : ℕ) × (p.journal ≡ before ++ record { moment = moment; act = Close 1 Sent } ∷ [])

sent_entered : (p : Play) → (is_over p ≡ false → IsFit (Close 1 Sent) p) → is_over (after_trying_act (Close 1 Sent) p) ≡ false →
    EndsSent (after_trying_act (Close 1 Sent) p)
sent_entered p fit goes_on = by (is_over p) refl (is_full (switch_of p)) refl
  where
    by : (over : Bool) → is_over p ≡ over → (full : Bool) → is_full (switch_of p) ≡ full → EndsSent (after_trying_act (Close 1 Sent) p)
    by true over full is =
        absurd (both_ways (is_over (after_trying_act (Close 1 Sent) p)) goes_on
        (ap is_over ((goes_entered (Close 1 Sent)).over p over) ∙ over))
    by false still true is =
        absurd (both_ways (is_over (after_trying_act (Close 1 Sent) p)) goes_on
        (ap is_over (fit_entered (Close 1 Sent) p still (fit still) ∙ ap (λ b. cond b (filled p) (longer_by (Close 1 Sent) p)) is)))
    by false still false is =
        subst EndsSent (sym (fit_entered (Close 1 Sent) p still (fit still) ∙ ap (λ b. cond b (filled p) (longer_by (Close 1 Sent) p)) is))
        (p.journal, p.clock, refl)

sent_concluded : (how end : End) (p : Play) → (is_over p ≡ false → EndsSent p) → Early p → (with_end how p).end ≡ Some end →
    is_early end ≡ false → EndsSent (with_end how p)
sent_concluded how end p sent early is not_early = by (is_over p) refl is
  where
    by : (over : Bool) → is_over p ≡ over → (cond over p (record p { end = Some how })).end ≡ Some end →
        EndsSent (cond over p (record p { end = Some how }))
    by true over e = absurd (both_ways (is_early end) not_early (subst EndsEarly e early))
    by false goes_on e = sent goes_on

-- a play that ends with its connection closes it
pub sent_played : (config : Configuration) (input : List ℕ) (read_failed : Bool) (notes : List LoadNote) (end : End) → IsWithin config →
    (played config input read_failed notes).end ≡ Some end → is_early end ≡ false →
    EndsSent (played config input read_failed notes)
unfolding played_as
sent_played config input read_failed notes end within is not_early =
    sent_concluded (end_behind (farewell (after_conversing config input notes)) (fault_of (rest_of input)) read_failed) end
    (after_closing (after_conversing config input notes))
    (sent_entered (after_input_end (after_conversing config input notes)) (fit_last config input notes within)) (early_closed config input notes) is not_early
