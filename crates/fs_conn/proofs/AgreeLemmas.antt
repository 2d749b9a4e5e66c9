-- In a play no entry is refused but for a full journal.
use Rattle.std.proofs.Common.{◌≡◌, ◌≢◌, ℕ, zero, suc, ◌^◌, ◌≤◌, ◌==◌, Bool, true, false, cond, not, ◌&&◌, List, [], ◌∷◌, length, Option}
use Rattle.std.proofs.Common.{None, Some, is_some, ◌⊎◌, inl, inr, refl, sym, ap, ◌∙◌, subst, arith}
use Rattle.std.proofs.lemmas.Bool.{both_ways, ne_eqb}
use Rattle.std.proofs.lemmas.List.{nil_from_length, length-drop}
use Rattle.fs_doc.specs.Reading.{Configuration}
use Rattle.fs_doc.specs.Limits.{IsWithin}
use Rattle.fs_frame.specs.Block.{fault_of}
use Rattle.fs_frame.specs.Blocks.{blocks_of, rest_of}
use Rattle.fs_state.specs.Switch.{Switch, empty, waiting_for, is_full}
use Rattle.fs_machine.specs.declared.due.DueActor.{DueActor}
use Rattle.fs_machine.specs.declared.due.DueActor.TheVariants as due
use Rattle.fs_machine.specs.declared.entry.Act.{Act}
use Rattle.fs_machine.specs.declared.entry.Act.TheVariants.{Arrive, Command, Take, Close, Dialed, Work, Job, Loaded}
use Rattle.fs_machine.specs.declared.entry.Closing.TheVariants.{EndOfInput, Sent}
use Rattle.fs_machine.specs.declared.refusal.Refusal.TheVariants as refusal
use Rattle.fs_machine.specs.Connections.{phase_at}
use Rattle.fs_machine.specs.Questions.{owed_to}
use Rattle.fs_machine.specs.Step.{is_closed, refused_where, busy}
use Rattle.fs_machine.proofs.OrderLemmas.{not_refused}
use Rattle.fs_machine.proofs.FramesLaws.{closed_waits_not}
use Rattle.fs_machine.proofs.HereLemmas.{arrival_accepted}
use Rattle.fs_conn.specs.Play.{Play, switch_of, new_play, is_over, with_end, by_refusal, by_room, repeated, next_actor, with_runaway_end}
use Rattle.fs_conn.specs.Play.{next_note, after_loading_as}
use Rattle.fs_conn.specs.Play.{waits, reads_on, takes_commands, farewell, end_behind, after_trying_act_as, after_due_work_as}
use Rattle.fs_conn.specs.Play.{after_due_step_as, after_settling_as, after_waiting_until_as, after_waiting_once_as, after_waiting_as}
use Rattle.fs_conn.specs.Play.{after_taking_all_as, after_following_as, after_act_as, after_command_as, after_commands_as, after_opening_as}
use Rattle.fs_conn.specs.Play.{after_input_end_as, after_closing_as, after_conversing_as, played_as, after_trying_act, after_due_step}
use Rattle.fs_conn.specs.Play.{after_settling, after_waiting, after_waiting_once, after_taking_all, after_following, after_act}
use Rattle.fs_conn.specs.Play.{after_command, after_commands, after_opening, after_input_end, after_closing, after_conversing, played}
use Rattle.fs_conn.specs.Steps.{entry_of}
use Rattle.fs_conn.proofs.PlayLemmas.{goes_entered, loaded_in, act_in}
use Rattle.fs_conn.proofs.KeepLemmas.{kept_settled, kept_waited, kept_opened, kept_commanded, kept_worked_once, kept_waited_once}
use Rattle.fs_conn.proofs.LawLemmas.{Any, IsRun, each_run, keeps_run}
use Rattle.fs_conn.proofs.DrainLemmas.{run_of, switch_is, waits_in, taken_rest, run_begun, run_conversed}
use Rattle.fs_conn.proofs.CloseLemmas.{IsFit, filled, longer_by, fit_entered, fit_due, fit_end, fit_last}
use Rattle.fs_machine.specs.declared.note.LoadNote.{LoadNote}

-- an act that the machine does not refuse comes to the same
fit_agrees : (act : Act) (p : Play) → (is_over p ≡ false → IsFit act p) → after_trying_act act p ≡ after_trying_act_as by_room act p
fit_agrees act p fit = by (is_over p) refl
  where
    by : (over : Bool) → is_over p ≡ over → after_trying_act act p ≡ after_trying_act_as by_room act p
    by true over = (goes_entered act).over p over ∙ sym (ap (λ b. cond b p (by_room (entry_of act p) p)) over)
    by false goes_on = fit_entered act p goes_on (fit goes_on) ∙ sym (ap (λ b. cond b p (by_room (entry_of act p) p)) goes_on)

-- rounds of steps that come to the same
repeated_agrees : (Holds : Play → Type 0) (f g : Play → Play) → ((p : Play) → Holds p → f p ≡ g p) → ((p : Play) → Holds p → Holds (f p)) →
    (n : ℕ) (p : Play) → Holds p → repeated n f p ≡ repeated n g p
unfolding repeated
repeated_agrees Holds f g same keeps zero p h = refl
repeated_agrees Holds f g same keeps (suc n) p h = repeated_agrees Holds f g same keeps n (f p) (keeps p h) ∙ ap (repeated n g) (same p h)

-- ---- what is due

worked_agrees : (config : Configuration) → IsWithin config → (p : Play) → IsRun config p →
    after_due_step p ≡ after_due_step_as by_room p
worked_agrees config within p run = by (next_actor p) refl
  where
    loaded : (number : ℕ) (note : Option LoadNote) → next_note p ≡ note → next_actor p ≡ due.Load number →
        after_loading_as by_refusal number note p ≡ after_loading_as by_room number note p
    loaded number None at is = refl
    loaded number (Some note) at is =
        fit_agrees (Loaded number note) p
        (λ goes_on. fit_due config (Loaded number note) p within run (ap (act_in p) is ∙ ap (loaded_in number) at))

    by : (who : DueActor) → next_actor p ≡ who → after_due_work_as by_refusal who p ≡ after_due_work_as by_room who p
    by (due.Slot slot) is = fit_agrees (Work slot) p (λ goes_on. fit_due config (Work slot) p within run (ap (act_in p) is))
    by (due.Dial slot) is =
        fit_agrees (Dialed slot false) p (λ goes_on. fit_due config (Dialed slot false) p within run (ap (act_in p) is))
    by (due.Job number) is = fit_agrees (Job number) p (λ goes_on. fit_due config (Job number) p within run (ap (act_in p) is))
    by (due.Load number) is = loaded number (next_note p) refl is
    by (due.Later moment) is = refl
    by due.Never is = refl

settled_agrees : (config : Configuration) → IsWithin config → (p : Play) → IsRun config p →
    after_settling p ≡ after_settling_as by_room p
unfolding after_settling_as
settled_agrees config within p run =
    ap with_runaway_end (repeated_agrees (IsRun config) after_due_step (after_due_step_as by_room) (worked_agrees config within)
    (kept_worked_once Any (IsRun config) (each_run config)) 100000 p run)

-- ---- replies that are owed

waited_once_agrees : (config : Configuration) → IsWithin config → (p : Play) → IsRun config p →
    after_waiting_once p ≡ after_waiting_once_as by_room p
waited_once_agrees config within p run = ap (λ q. cond (waits p) q p) (by (next_actor p))
  where
    by : (who : DueActor) → after_waiting_until_as by_refusal who p ≡ after_waiting_until_as by_room who p
    by (due.Later moment) = settled_agrees config within (record p { clock = moment }) ((each_run config).goes_on moment p run)
    by (due.Slot slot) = refl
    by (due.Dial slot) = refl
    by (due.Job number) = refl
    by (due.Load number) = refl
    by due.Never = refl

all_waited_agrees : (config : Configuration) → IsWithin config → (n : ℕ) (p : Play) → IsRun config p →
    repeated n after_waiting_once p ≡ repeated n (after_waiting_once_as by_room) p
all_waited_agrees config within n p run =
    repeated_agrees (IsRun config) after_waiting_once (after_waiting_once_as by_room) (waited_once_agrees config within)
    (kept_waited_once Any (IsRun config) (keeps_run config)) n p run

waited_agrees : (config : Configuration) → IsWithin config → (p : Play) → IsRun config p →
    after_waiting p ≡ after_waiting_as by_room p
unfolding after_waiting_as
waited_agrees config within p run = all_waited_agrees config within (2 ^ 64) p run

-- ---- frames

-- nothing speaks against a Take where a frame waits
fit_take : (config : Configuration) (p : Play) → IsWithin config → IsRun config p → waits_in p ≢ [] →
    (is_closed (phase_at (switch_of p) 1) ≡ false) × IsFit (Take 1) p
fit_take config p within run some = by (is_closed (phase_at (switch_of p) 1)) refl
  where
    none_long : length (waits_in p) ≡ 0 → waits_in p ≡ []
    none_long is = nil_from_length (waits_in p) is

    by : (gone : Bool) → is_closed (phase_at (switch_of p) 1) ≡ gone → (is_closed (phase_at (switch_of p) 1) ≡ false) × IsFit (Take 1) p
    by true gone =
        let here = switch_is config p run in
        absurd (some (ap (λ (s : Switch). waiting_for s 1) (sym here)
        ∙ closed_waits_not config p.journal 1 within.settings.journal.1 (run_of config p run)
        (ap (λ (s : Switch). is_closed (phase_at s 1)) here ∙ gone)))
    by false after_opening = (
      after_opening,
      ap (λ gone. refused_where gone refusal.Gone (refused_where (length (waits_in p) == 0) refusal.Empty None)) after_opening
          ∙ ap (λ none. refused_where none refusal.Empty None) (ne_eqb (length (waits_in p)) 0 (λ is. some (none_long is))),
    )

-- the play is over, or so many frames wait at least
abbrev Offers : ℕ → Play → Type 0
Offers n p = (is_over p ≡ true) ⊎ (n ≤ length (waits_in p))

some_wait : (n : ℕ) (p : Play) → suc n ≤ length (waits_in p) → waits_in p ≢ []
some_wait n p enough none = let long = ap length none in omega (arith, enough, long)

offers_less : (config : Configuration) (n : ℕ) (p : Play) → IsWithin config → IsRun config p → Offers (suc n) p →
    Offers n (after_trying_act (Take 1) p)
offers_less config n p within run offers = by (is_over p) refl offers (is_full (switch_of p)) refl
  where
    fewer : suc n ≤ length (waits_in p) → Offers n (longer_by (Take 1) p)
    fewer enough =
        let rest = ap length (taken_rest config p within.settings.journal.1 run (fit_take config p within run (some_wait n p enough)).0) in
        let less = length-drop 1 (waits_in p) in inr (omega (arith, enough, rest, less))

    fit : is_over p ≡ false → suc n ≤ length (waits_in p) →
        after_trying_act (Take 1) p ≡ cond (is_full (switch_of p)) (filled p) (longer_by (Take 1) p)
    fit goes_on enough = fit_entered (Take 1) p goes_on (fit_take config p within run (some_wait n p enough)).1

    by : (over : Bool) → is_over p ≡ over → Offers (suc n) p → (full : Bool) → is_full (switch_of p) ≡ full →
        Offers n (after_trying_act (Take 1) p)
    by true over offers full is = inl (ap is_over ((goes_entered (Take 1)).over p over) ∙ over)
    by false goes_on (inl over) full is = absurd (both_ways (is_over p) goes_on over)
    by false goes_on (inr enough) true is =
        subst (Offers n) (sym (fit goes_on enough ∙ ap (λ b. cond b (filled p) (longer_by (Take 1) p)) is)) (inl refl)
    by false goes_on (inr enough) false is =
        subst (Offers n) (sym (fit goes_on enough ∙ ap (λ b. cond b (filled p) (longer_by (Take 1) p)) is)) (fewer enough)

take_agrees : (config : Configuration) (n : ℕ) (p : Play) → IsWithin config → IsRun config p → Offers (suc n) p →
    after_trying_act (Take 1) p ≡ after_trying_act_as by_room (Take 1) p
take_agrees config n p within run offers = fit_agrees (Take 1) p (λ goes_on. by goes_on offers)
  where
    by : is_over p ≡ false → Offers (suc n) p → IsFit (Take 1) p
    by goes_on (inl over) = absurd (both_ways (is_over p) goes_on over)
    by goes_on (inr enough) = (fit_take config p within run (some_wait n p enough)).1

takes_agree : (config : Configuration) (n : ℕ) (p : Play) → IsWithin config → IsRun config p → Offers n p →
    repeated n (after_trying_act (Take 1)) p ≡ repeated n (after_trying_act_as by_room (Take 1)) p
unfolding repeated
takes_agree config zero p within run offers = refl
takes_agree config (suc n) p within run offers =
    takes_agree config n (after_trying_act (Take 1) p) within ((keeps_run config).enters (Take 1) tt p run)
    (offers_less config n p within run offers)
    ∙ ap (repeated n (after_trying_act_as by_room (Take 1))) (take_agrees config n p within run offers)

all_taken_agrees : (config : Configuration) → IsWithin config → (p : Play) → IsRun config p →
    after_taking_all p ≡ after_taking_all_as by_room p
unfolding after_taking_all_as
all_taken_agrees config within p run = takes_agree config (length (waits_in p)) p within run (inr (omega arith))

-- ---- all that comes of an act

followed_agrees : (config : Configuration) → IsWithin config → (p : Play) → IsRun config p →
    after_following p ≡ after_following_as by_room p
followed_agrees config within p run =
    let settles = kept_settled Any (IsRun config) (each_run config) p run in
    let waits_out = kept_waited Any (IsRun config) (keeps_run config) (after_settling p) settles in
    all_taken_agrees config within (after_waiting (after_settling p)) waits_out
    ∙ ap (after_taking_all_as by_room) (waited_agrees config within (after_settling p) settles
    ∙ ap (after_waiting_as by_room) (settled_agrees config within p run))

acted_agrees : (config : Configuration) → IsWithin config → (act : Act) (p : Play) → IsRun config p →
    (is_over p ≡ false → IsFit act p) → after_act act p ≡ after_act_as by_room act p
acted_agrees config within act p run fit =
    followed_agrees config within (after_trying_act act p) ((keeps_run config).enters act tt p run) ∙ ap (after_following_as by_room)
    (fit_agrees act p fit)

-- ---- the conversation

-- nothing speaks against a command where one is taken
fit_command : (p : Play) (block : List ℕ) → takes_commands p ≡ true → IsFit (Command 1 block) p
fit_command p block takes = by (reads_on p) refl (owed_to (switch_of p) 1) refl takes
  where
    by : (reading : Bool) → reads_on p ≡ reading → (owed : Option ℕ) → owed_to (switch_of p) 1 ≡ owed →
        (reading && not (is_some owed)) ≡ true → IsFit (Command 1 block) p
    by true reading None free both =
        ap (λ reads_still. refused_where (not reads_still) refusal.Gone (busy (owed_to (switch_of p) 1))) reading ∙ ap busy free
    by true reading (Some since) free both = absurd (cc both)
    by false reading owed free both = absurd (cc both)

commanded_agrees : (config : Configuration) → IsWithin config → (p : Play) (block : List ℕ) → IsRun config p →
    after_command p block ≡ after_command_as by_room p block
commanded_agrees config within p block run = by (takes_commands p) refl
  where
    by : (takes : Bool) → takes_commands p ≡ takes →
        cond takes (after_act (Command 1 block) p) p ≡ cond takes (after_act_as by_room (Command 1 block) p) p
    by true takes = acted_agrees config within (Command 1 block) p run (λ goes_on. fit_command p block takes)
    by false takes = refl

all_commanded_agrees : (config : Configuration) → IsWithin config → (p : Play) (blocks : List (List ℕ)) →
    IsRun config p → after_commands p blocks ≡ after_commands_as by_room p blocks
all_commanded_agrees config within p [] run = refl
all_commanded_agrees config within p (block ∷ blocks) run =
    all_commanded_agrees config within (after_command p block) blocks (kept_commanded Any (IsRun config) (keeps_run config) block tt p run)
    ∙ ap (λ q. after_commands_as by_room q blocks) (commanded_agrees config within p block run)

opened_agrees : (config : Configuration) (notes : List LoadNote) → IsWithin config →
    after_opening config notes ≡ after_opening_as by_room config notes
opened_agrees config notes within =
    acted_agrees config within Arrive (new_play config notes) (run_begun config notes)
    (λ goes_on. not_refused (empty config) (entry_of Arrive (new_play config notes)) (arrival_accepted config 0 within))

conversed_agrees : (config : Configuration) (input : List ℕ) (notes : List LoadNote) → IsWithin config →
    after_conversing config input notes ≡ after_conversing_as by_room config input notes
conversed_agrees config input notes within =
    all_commanded_agrees config within (after_opening config notes) (blocks_of input)
    (kept_opened Any (IsRun config) (keeps_run config) tt config notes (run_begun config notes))
    ∙ ap (λ q. after_commands_as by_room q (blocks_of input)) (opened_agrees config notes within)

input_ended_agrees : (config : Configuration) → IsWithin config → (p : Play) → IsRun config p →
    after_input_end p ≡ after_input_end_as by_room p
input_ended_agrees config within p run = by (reads_on p) refl
  where
    by : (reading : Bool) → reads_on p ≡ reading →
        cond reading (after_taking_all (after_trying_act (Close 1 EndOfInput) p)) p
        ≡ cond reading (after_taking_all_as by_room (after_trying_act_as by_room (Close 1 EndOfInput) p)) p
    by true reading =
        all_taken_agrees config within (after_trying_act (Close 1 EndOfInput) p) ((keeps_run config).enters (Close 1 EndOfInput) tt p run)
        ∙ ap (after_taking_all_as by_room) (fit_agrees (Close 1 EndOfInput) p (λ goes_on. fit_end p reading))
    by false reading = refl

closed_agrees : (config : Configuration) (input : List ℕ) (notes : List LoadNote) → IsWithin config →
    after_closing (after_conversing config input notes) ≡ after_closing_as by_room (after_conversing config input notes)
closed_agrees config input notes within =
    fit_agrees (Close 1 Sent) (after_input_end (after_conversing config input notes)) (fit_last config input notes within)
    ∙ ap (after_trying_act_as by_room (Close 1 Sent))
    (input_ended_agrees config within (after_conversing config input notes) (run_conversed config input notes))

-- the whole play is one whose entries are judged by the room in the journal alone
pub played_agrees : (config : Configuration) (input : List ℕ) (read_failed : Bool) (notes : List LoadNote) → IsWithin config →
    played config input read_failed notes ≡ played_as by_room config input read_failed notes
unfolding played_as
played_agrees config input read_failed notes within =
    ap (with_end (end_behind (farewell (after_conversing config input notes)) (fault_of (rest_of input)) read_failed))
    (closed_agrees config input notes within)
    ∙ ap (λ p. with_end (end_behind (farewell p) (fault_of (rest_of input)) read_failed) (after_closing_as by_room p))
    (conversed_agrees config input notes within)
