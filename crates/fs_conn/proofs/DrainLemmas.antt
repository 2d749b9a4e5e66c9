-- What a play gives its connection is handed out, all of it unless the play is over before the connection.
use Rattle.std.proofs.Common.{◌≡◌, ℕ, zero, suc, ◌-◌, ◌≤◌, ◌==◌, Bool, true, false, cond, List, [], ◌∷◌, ◌++◌, length, drop, Option, None}
use Rattle.std.proofs.Common.{Some, ◌⊎◌, inl, inr, refl, sym, ap, ◌∙◌, subst, append-nil, arith}
use Rattle.std.specs.List.{concat}
use Rattle.std.proofs.lemmas.Bool.{both_ways, eqb-true}
use Rattle.std.proofs.lemmas.List.{nil_from_length, length-drop}
use Rattle.std.proofs.lemmas.List.Folds.{concat-append}
use Rattle.fs_doc.specs.Reading.{Configuration}
use Rattle.fs_frame.specs.Block.{fault_of}
use Rattle.fs_frame.specs.Blocks.{blocks_of, rest_of}
use Rattle.fs_text.specs.Texts.{Text}
use Rattle.fs_state.specs.Switch.{Switch, empty, waiting_for, is_full}
use Rattle.fs_machine.specs.declared.entry.Entry.{Entry}
use Rattle.fs_machine.specs.declared.entry.Act.{Act}
use Rattle.fs_machine.specs.declared.entry.Act.TheVariants.{Arrive, Command, Take, Close}
use Rattle.fs_machine.specs.declared.entry.Closing.TheVariants.{EndOfInput, Sent}
use Rattle.fs_machine.specs.declared.refusal.Refusal.{Refusal}
use Rattle.fs_machine.specs.declared.refusal.Refusal.TheVariants as refusal
use Rattle.fs_machine.specs.Connections.{phase_at}
use Rattle.fs_machine.specs.Step.{step, is_closed, refused_where, refusal_of}
use Rattle.fs_machine.specs.Runs.{run_from, IsRunFrom}
use Rattle.fs_machine.specs.Frames.{frames_from, handed_from}
use Rattle.fs_machine.proofs.RunLemmas.{run_more}
use Rattle.fs_machine.proofs.FramesLaws.{handed_first, handed_sent, closed_waits_not, take_leaves_rest, IsUnfailed, AreUnfailed}
use Rattle.fs_machine.proofs.FramesLaws.{unfailed_more, handed_unfailed}
use Rattle.fs_conn.specs.declared.end.End.{End}
use Rattle.fs_conn.specs.Play.{Play, switch_of, bytes_handed, new_play, is_over, with_end, after_judging, after_trying_act, repeated}
use Rattle.fs_conn.specs.Play.{after_settling, after_waiting, after_taking_all, after_act, reads_on, takes_commands, after_command}
use Rattle.fs_conn.specs.Play.{after_commands, after_opening, after_input_end, after_conversing, after_closing, farewell, end_behind}
use Rattle.fs_conn.specs.Play.{played, after_taking_all_as, played_as}
use Rattle.fs_conn.specs.Steps.{is_early, entry_of}
use Rattle.fs_conn.proofs.PlayLemmas.{goes_entered, goes_taken}
use Rattle.fs_conn.proofs.KeepLemmas.{Keeps, by_each, kept_settled, kept_waited, kept_opened, kept_commanded, kept_all_commanded}
use Rattle.fs_conn.proofs.KeepLemmas.{kept_input_ended}
use Rattle.fs_conn.proofs.LawLemmas.{Any, IsRun, each_run, keeps_run, run_closed, run_played, EndsEarly, Early, early_closed}
use Rattle.fs_machine.specs.declared.note.LoadNote.{LoadNote}

-- the run of a play, in terms of what it was configured by
pub run_of : (config : Configuration) (p : Play) → IsRun config p → IsRunFrom (empty config) p.journal
run_of config p h = subst (λ (c : Configuration). IsRunFrom (empty c) p.journal) h.config_is h.run

pub switch_is : (config : Configuration) (p : Play) → IsRun config p → run_from (empty config) p.journal ≡ switch_of p
switch_is config p h = ap (λ (c : Configuration). run_from (empty c) p.journal) (sym h.config_is)

-- the frames that wait for the connection
abbrev pub waits_in : Play → List Text
waits_in p = waiting_for (switch_of p) 1

-- ---- taking frames

-- the play is over, or nothing waits
abbrev pub Drained : Play → Type 0
Drained p = (is_over p ≡ true) ⊎ (waits_in p ≡ [])

-- the play is over, or one frame less waits
abbrev pub Takes : Play → Play → Type 0
Takes p q = (is_over q ≡ true) ⊎ (length (waits_in q) ≤ length (waits_in p) - 1)

-- how a Take is judged
abbrev take_judged : Bool → Bool → Bool → Play → Play
take_judged full gone none p =
    after_judging (refused_where full (refusal.JournalFull (switch_of p).cost (switch_of p).settings.journal_limit)
    (refused_where gone refusal.Gone (refused_where none refusal.Empty None))) (entry_of (Take 1) p) p

take_is : (p : Play) → is_over p ≡ false →
    after_trying_act (Take 1) p ≡ take_judged (is_full (switch_of p)) (is_closed (phase_at (switch_of p) 1)) (length (waits_in p) == 0) p
unfolding refusal_of
take_is p goes_on =
    ap (λ over. cond over p (after_judging (refusal_of (switch_of p) (entry_of (Take 1) p)) (entry_of (Take 1) p) p)) goes_on

-- one that is entered leaves the others
pub taken_rest : (config : Configuration) (p : Play) → config.settings.journal_limit ≤ 1073741824 → IsRun config p →
    is_closed (phase_at (switch_of p) 1) ≡ false →
    waits_in (record p { journal = p.journal ++ entry_of (Take 1) p ∷ [] }) ≡ drop 1 (waits_in p)
taken_rest config p limit run is_open =
    let entry = entry_of (Take 1) p in
    let here = switch_is config p run in
    let left =
    (take_leaves_rest config p.journal p.clock 1 limit (run_of config p run)
    (ap (λ (s : Switch). is_closed (phase_at s 1)) here ∙ is_open)).0 in
    ap (λ (s : Switch). waiting_for s 1) (run_more (empty p.config) p.journal entry)
    ∙ subst (λ (s : Switch). waiting_for (step s entry).state 1 ≡ drop 1 (waiting_for s 1)) here left

taken_one : (config : Configuration) (p : Play) → config.settings.journal_limit ≤ 1073741824 → IsRun config p →
    is_closed (phase_at (switch_of p) 1) ≡ false →
    length (waits_in (record p { journal = p.journal ++ entry_of (Take 1) p ∷ [] })) ≤ length (waits_in p) - 1
taken_one config p limit run is_open =
    let fewer = length-drop 1 (waits_in p) in
    let same = ap length (taken_rest config p limit run is_open) in omega (arith, fewer, same)

takes_judged : (config : Configuration) (p : Play) (full gone none : Bool) → config.settings.journal_limit ≤ 1073741824 → IsRun config p →
    is_closed (phase_at (switch_of p) 1) ≡ gone → (length (waits_in p) == 0) ≡ none → Takes p (take_judged full gone none p)
takes_judged config p true gone none limit run is_gone is_none = inl refl
takes_judged config p false true none limit run is_gone is_none =
    let here = switch_is config p run in
    let nothing : waits_in p ≡ [] =
    ap (λ (s : Switch). waiting_for s 1) (sym here)
    ∙ closed_waits_not config p.journal 1 limit (run_of config p run) (ap (λ (s : Switch). is_closed (phase_at s 1)) here ∙ is_gone) in
    let zero_long = ap length nothing in inr (omega (arith, zero_long))
takes_judged config p false false true limit run is_gone is_none =
    let zero_long = eqb-true (length (waits_in p)) 0 is_none in inr (omega (arith, zero_long))
takes_judged config p false false false limit run is_gone is_none = inr (taken_one config p limit run is_gone)

pub takes_one : (config : Configuration) (p : Play) → config.settings.journal_limit ≤ 1073741824 → IsRun config p →
    Takes p (after_trying_act (Take 1) p)
takes_one config p limit run = by (is_over p) refl
  where
    by : (over : Bool) → is_over p ≡ over → Takes p (after_trying_act (Take 1) p)
    by true over = inl (ap is_over ((goes_entered (Take 1)).over p over) ∙ over)
    by false goes_on =
        subst (Takes p) (sym (take_is p goes_on))
        (takes_judged config p (is_full (switch_of p)) (is_closed (phase_at (switch_of p) 1))
        (length (waits_in p) == 0) limit run refl refl)

-- so many are taken
drained_by : (n : ℕ) (p q : Play) → Takes p q → length (waits_in p) ≤ suc n →
    (length (waits_in q) ≤ n → Drained (repeated n (after_trying_act (Take 1)) q)) → Drained (repeated n (after_trying_act (Take 1)) q)
drained_by n p q (inl over) few others = inl (ap is_over ((goes_taken n).over q over) ∙ over)
drained_by n p q (inr fewer) few others = others (omega (arith, fewer, few))

drained_all : (config : Configuration) (n : ℕ) (p : Play) → config.settings.journal_limit ≤ 1073741824 → IsRun config p →
    length (waits_in p) ≤ n → Drained (repeated n (after_trying_act (Take 1)) p)
unfolding repeated
drained_all config zero p limit run few = inr (nil_from_length (waits_in p) (omega (arith, few)))
drained_all config (suc n) p limit run few =
    drained_by n p (after_trying_act (Take 1) p) (takes_one config p limit run) few
    (λ less. drained_all config n (after_trying_act (Take 1) p) limit ((keeps_run config).enters (Take 1) tt p run) less)

drained_taken : (config : Configuration) (p : Play) → config.settings.journal_limit ≤ 1073741824 → IsRun config p →
    Drained (after_taking_all p)
unfolding after_taking_all_as
drained_taken config p limit run = drained_all config (length (waits_in p)) p limit run (omega arith)

-- ---- the conversation

drained_acted : (config : Configuration) (act : Act) (p : Play) → config.settings.journal_limit ≤ 1073741824 → IsRun config p →
    Drained (after_act act p)
drained_acted config act p limit run =
    let first = (keeps_run config).enters act tt p run in
    let then = kept_settled Any (IsRun config) (each_run config) (after_trying_act act p) first in
    drained_taken config (after_waiting (after_settling (after_trying_act act p))) limit
    (kept_waited Any (IsRun config) (keeps_run config) (after_settling (after_trying_act act p)) then)

drained_commanded : (config : Configuration) (block : List ℕ) (p : Play) → config.settings.journal_limit ≤ 1073741824 → IsRun config p →
    Drained p → Drained (after_command p block)
drained_commanded config block p limit run drained =
    elim (takes_commands p) as (λ b. Drained (cond b (after_act (Command 1 block) p) p)) [
      | true ↦ drained_acted config (Command 1 block) p limit run
      | false ↦ drained
    ]

drained_all_commanded : (config : Configuration) (blocks : List (List ℕ)) (p : Play) → config.settings.journal_limit ≤ 1073741824 →
    IsRun config p → Drained p → Drained (after_commands p blocks)
drained_all_commanded config [] p limit run drained = drained
drained_all_commanded config (block ∷ blocks) p limit run drained =
    drained_all_commanded config blocks (after_command p block) limit (kept_commanded Any (IsRun config) (keeps_run config) block tt p run)
    (drained_commanded config block p limit run drained)

pub run_begun : (config : Configuration) (notes : List LoadNote) → IsRun config (new_play config notes)
run_begun config notes = record { config_is = refl; run = tt }

pub run_conversed : (config : Configuration) (input : List ℕ) (notes : List LoadNote) → IsRun config (after_conversing config input notes)
run_conversed config input notes =
    kept_all_commanded Any (IsRun config) (keeps_run config) (λ block. tt) (blocks_of input) (after_opening config notes)
    (kept_opened Any (IsRun config) (keeps_run config) tt config notes (run_begun config notes))

pub drained_conversed : (config : Configuration) (input : List ℕ) (notes : List LoadNote) → config.settings.journal_limit ≤ 1073741824 →
    Drained (after_conversing config input notes)
drained_conversed config input notes limit =
    drained_all_commanded config (blocks_of input) (after_opening config notes) limit
    (kept_opened Any (IsRun config) (keeps_run config) tt config notes (run_begun config notes))
    (drained_acted config Arrive (new_play config notes) limit (run_begun config notes))

pub run_ended : (config : Configuration) (input : List ℕ) (notes : List LoadNote) →
    IsRun config (after_input_end (after_conversing config input notes))
run_ended config input notes =
    kept_input_ended Any (IsRun config) (keeps_run config) tt (after_conversing config input notes) (run_conversed config input notes)

pub drained_ended : (config : Configuration) (p : Play) → config.settings.journal_limit ≤ 1073741824 → IsRun config p → Drained p →
    Drained (after_input_end p)
drained_ended config p limit run drained =
    elim (reads_on p) as (λ b. Drained (cond b (after_taking_all (after_trying_act (Close 1 EndOfInput) p)) p)) [
      | true ↦ drained_taken config (after_trying_act (Close 1 EndOfInput) p) limit
          ((keeps_run config).enters (Close 1 EndOfInput) tt p run)
      | false ↦ drained
    ]

-- ---- no connection is closed as failed

abbrev Unfailed : Play → Type 0
Unfailed p = AreUnfailed p.journal

unfailed_judged : (cause : Option Refusal) (entry : Entry) (p : Play) → IsUnfailed entry.act → Unfailed p →
    Unfailed (after_judging cause entry p)
unfailed_judged None entry p such h = unfailed_more p.journal entry h such
unfailed_judged (Some (refusal.JournalFull cost limit)) entry p such h = h
unfailed_judged (Some _) entry p such h = h

keeps_unfailed : Keeps IsUnfailed Unfailed
keeps_unfailed = by_each IsUnfailed Unfailed (record {
  works = λ slot. tt;
  dials = λ slot. tt;
  jobs = λ number. tt;
  loads = λ number note. tt;
  takes = tt;
  enters =
      λ act such p h. elim (is_over p) as (λ b. Unfailed
      (cond b p (after_judging (refusal_of (switch_of p) (entry_of act p)) (entry_of act p) p))) [
        | true ↦ h
        | false ↦ unfailed_judged (refusal_of (switch_of p) (entry_of act p)) (entry_of act p) p such h
      ];
  ends = λ end early p h. elim (is_over p) as (λ b. Unfailed (cond b p (record p { end = Some end }))) [ true ↦ h | false ↦ h ];
  goes_on = λ moment p h. h;
})

unfailed_ended : (config : Configuration) (input : List ℕ) (notes : List LoadNote) →
    Unfailed (after_input_end (after_conversing config input notes))
unfailed_ended config input notes =
    kept_input_ended IsUnfailed Unfailed keeps_unfailed tt (after_conversing config input notes)
    (kept_all_commanded IsUnfailed Unfailed keeps_unfailed (λ block. tt) (blocks_of input) (after_opening config notes)
    (kept_opened IsUnfailed Unfailed keeps_unfailed tt config notes tt))

-- ---- frames

-- the frames that a journal gives the connection, and those that it hands out
abbrev given_to : Configuration → List Entry → List Text
given_to config journal = frames_from 1 (empty config) journal

abbrev handed_to : Configuration → List Entry → List Text
handed_to config journal = handed_from 1 (empty config) journal

-- all was handed out
abbrev IsWhole : Configuration → Play → Type 0
IsWhole config p = given_to config p.journal ≡ handed_to config p.journal

-- before the connection is closed, where nothing waits
whole_before : (config : Configuration) (p : Play) → config.settings.journal_limit ≤ 1073741824 → IsRun config p → Unfailed p →
    waits_in p ≡ [] → IsWhole config p
whole_before config p limit run unfailed nothing =
    handed_unfailed config p.journal 1 limit (run_of config p run) unfailed
    ∙ ap (λ frames. handed_to config p.journal ++ frames) (ap (λ (s : Switch). waiting_for s 1) (switch_is config p run) ∙ nothing)
    ∙ append-nil (handed_to config p.journal)

-- once it is closed, or that was refused
whole_judged : (config : Configuration) (cause : Option Refusal) (p : Play) → config.settings.journal_limit ≤ 1073741824 → IsRun config p →
    IsRun config (after_judging cause (entry_of (Close 1 Sent) p) p) → Unfailed p →
    waits_in p ≡ [] → is_over (after_judging cause (entry_of (Close 1 Sent) p) p) ≡ false →
    IsWhole config (after_judging cause (entry_of (Close 1 Sent) p) p)
whole_judged config None p limit run later unfailed nothing goes_on =
    handed_sent config p.journal p.clock 1 limit (run_of config (record p { journal = p.journal ++ entry_of (Close 1 Sent) p ∷ [] }) later)
whole_judged config (Some (refusal.JournalFull cost most)) p limit run later unfailed nothing goes_on = absurd (cc)
whole_judged config (Some _) p limit run later unfailed nothing goes_on = whole_before config p limit run unfailed nothing

-- a play that is not over was not before
not_over : (p : Play) → is_over (after_trying_act (Close 1 Sent) p) ≡ false → is_over p ≡ false
not_over p goes_on = by (is_over p) refl
  where
    by : (over : Bool) → is_over p ≡ over → over ≡ false
    by true over = sym (ap is_over ((goes_entered (Close 1 Sent)).over p over) ∙ over) ∙ goes_on
    by false over = refl

pub nothing_waits : (p : Play) → Drained p → is_over p ≡ false → waits_in p ≡ []
nothing_waits p (inl over) goes_on = absurd (cc)
nothing_waits p (inr nothing) goes_on = nothing

whole_closed : (config : Configuration) (input : List ℕ) (notes : List LoadNote) → config.settings.journal_limit ≤ 1073741824 →
    is_over (after_closing (after_conversing config input notes)) ≡ false → IsWhole config (after_closing (after_conversing config input notes))
whole_closed config input notes limit goes_on =
    let q = after_input_end (after_conversing config input notes) in
    let still : is_over q ≡ false = not_over q goes_on in
    let cause = refusal_of (switch_of q) (entry_of (Close 1 Sent) q) in
    let nothing =
    nothing_waits q (drained_ended config (after_conversing config input notes) limit (run_conversed config input notes)
    (drained_conversed config input notes limit)) still in
    let is : after_closing (after_conversing config input notes) ≡ after_judging cause (entry_of (Close 1 Sent) q) q =
    ap (λ b. cond b q (after_judging cause (entry_of (Close 1 Sent) q) q)) still in
    subst (λ (p : Play). IsWhole config p) (sym is)
    (whole_judged config cause q limit (run_ended config input notes) (subst (λ (p : Play). IsRun config p) is (run_closed config input notes))
    (unfailed_ended config input notes) nothing (ap is_over (sym is) ∙ goes_on))

-- ---- the whole play

-- what is handed out is the first of what is given
pub first_played : (config : Configuration) (input : List ℕ) (read_failed : Bool) (notes : List LoadNote) →
    config.settings.journal_limit ≤ 1073741824 →
    (more : List ℕ) × (concat (frames_from 1 (empty config) (played config input read_failed notes).journal)
    ≡ bytes_handed config (played config input read_failed notes).journal ++ more)
first_played config input read_failed notes limit =
    let journal = (played config input read_failed notes).journal in
    let first = handed_first config journal 1 limit (run_played config input read_failed notes) in
    (concat first.0, ap concat first.1 ∙ concat-append (handed_from 1 (empty config) journal) first.0)

whole_concluded : (config : Configuration) (how end : End) (p : Play) → (is_over p ≡ false → IsWhole config p) → Early p →
    (with_end how p).end ≡ Some end → is_early end ≡ false → IsWhole config (with_end how p)
whole_concluded config how end p whole early is not_early = by (is_over p) refl is
  where
    by : (over : Bool) → is_over p ≡ over → (cond over p (record p { end = Some how })).end ≡ Some end →
        IsWhole config (cond over p (record p { end = Some how }))
    by true over e = absurd (both_ways (is_early end) not_early (subst EndsEarly e early))
    by false goes_on e = whole goes_on

whole_played : (config : Configuration) (input : List ℕ) (read_failed : Bool) (notes : List LoadNote) (end : End) →
    config.settings.journal_limit ≤ 1073741824 →
    (played config input read_failed notes).end ≡ Some end → is_early end ≡ false → IsWhole config (played config input read_failed notes)
unfolding played_as
whole_played config input read_failed notes end limit is not_early =
    whole_concluded config (end_behind (farewell (after_conversing config input notes)) (fault_of (rest_of input)) read_failed) end
    (after_closing (after_conversing config input notes))
    (whole_closed config input notes limit) (early_closed config input notes) is not_early

-- all is handed out, unless the play ends before the connection
pub all_played : (config : Configuration) (input : List ℕ) (read_failed : Bool) (notes : List LoadNote) (end : End) →
    config.settings.journal_limit ≤ 1073741824 →
    (played config input read_failed notes).end ≡ Some end → is_early end ≡ false →
    bytes_handed config (played config input read_failed notes).journal
    ≡ concat (frames_from 1 (empty config) (played config input read_failed notes).journal)
all_played config input read_failed notes end limit is not_early = ap concat (sym (whole_played config input read_failed notes end limit is not_early))
