-- What holds of every play: its journal is a run, and it ends.
use Rattle.std.proofs.Common.{◌≡◌, ℕ, Bool, true, false, cond, List, [], ◌∷◌, ◌++◌, Option, None, Some, is_some, refl, sym, ap, ◌∙◌, subst}
use Rattle.std.proofs.Common.{append_assoc}
use Rattle.std.specs.List.{concat}
use Rattle.std.proofs.lemmas.List.Folds.{concat-append}
use Rattle.fs_doc.specs.Reading.{Configuration}
use Rattle.fs_frame.specs.Block.{fault_of}
use Rattle.fs_frame.specs.Blocks.{blocks_of, rest_of}
use Rattle.fs_state.specs.Switch.{Switch, empty}
use Rattle.fs_machine.specs.declared.entry.Entry.{Entry}
use Rattle.fs_machine.specs.declared.entry.Act.{Act}
use Rattle.fs_machine.specs.declared.refusal.Refusal.{Refusal}
use Rattle.fs_machine.specs.declared.refusal.Refusal.TheVariants as refusal
use Rattle.fs_machine.specs.Step.{step, refusal_of}
use Rattle.fs_machine.specs.Runs.{run_from, IsRunFrom}
use Rattle.fs_machine.specs.Frames.{handed_in, handed_from}
use Rattle.fs_machine.proofs.RunLemmas.{is_run_more}
use Rattle.fs_machine.proofs.FramesLaws.{settings_run}
use Rattle.fs_conn.specs.declared.end.End.{End}
use Rattle.fs_conn.specs.Play.{Play, switch_of, bytes_handed, is_over, with_end, after_judging, after_trying_act, after_opening}
use Rattle.fs_conn.specs.Play.{after_conversing, after_closing, farewell, end_behind, played, played_as}
use Rattle.fs_conn.specs.Steps.{is_early, entry_of}
use Rattle.fs_conn.proofs.KeepLemmas.{Keeps, KeepsEach, by_each, kept_opened, kept_all_commanded, kept_closed}
use Rattle.fs_machine.specs.declared.note.LoadNote.{LoadNote}

-- every act
abbrev pub Any : Act → Type 0
Any act = Unit {0}

-- ---- the journal is a run

pub record IsRun (config : Configuration) (p : Play) : Type 0 where
  pub config_is : p.config ≡ config
  pub run : IsRunFrom (empty p.config) p.journal

run_judged : (config : Configuration) (cause : Option Refusal) (entry : Entry) (p : Play) → refusal_of (switch_of p) entry ≡ cause →
    IsRun config p → IsRun config (after_judging cause entry p)
run_judged config None entry p is h = record { config_is = h.config_is; run = is_run_more (empty p.config) p.journal entry h.run is }
run_judged config (Some (refusal.JournalFull cost limit)) entry p is h = record { config_is = h.config_is; run = h.run }
run_judged config (Some _) entry p is h = h

pub each_run : (config : Configuration) → KeepsEach Any (IsRun config)
each_run config = record {
  works = λ slot. tt;
  dials = λ slot. tt;
  jobs = λ number. tt;
  loads = λ number note. tt;
  takes = tt;
  enters =
      λ act such p h. elim (is_over p) as (λ b. IsRun config
      (cond b p (after_judging (refusal_of (switch_of p) (entry_of act p)) (entry_of act p) p))) [
        | true ↦ h
        | false ↦ run_judged config (refusal_of (switch_of p) (entry_of act p)) (entry_of act p) p refl h
      ];
  ends =
      λ end early p h. elim (is_over p) as (λ b. IsRun config (cond b p (record p { end = Some end }))) [
        | true ↦ h
        | false ↦ record { config_is = h.config_is; run = h.run }
      ];
  goes_on = λ moment p h. record { config_is = h.config_is; run = h.run };
}

pub keeps_run : (config : Configuration) → Keeps Any (IsRun config)
keeps_run config = by_each Any (IsRun config) (each_run config)

run_concluded : (config : Configuration) (end : End) (p : Play) → IsRun config p → IsRun config (with_end end p)
run_concluded config end p h =
    elim (is_over p) as (λ b. IsRun config (cond b p (record p { end = Some end })))
    [ true ↦ h | false ↦ record { config_is = h.config_is; run = h.run } ]

pub run_closed : (config : Configuration) (input : List ℕ) (notes : List LoadNote) →
    IsRun config (after_closing (after_conversing config input notes))
run_closed config input notes =
    kept_closed Any (IsRun config) (keeps_run config) tt tt (after_conversing config input notes)
    (kept_all_commanded Any (IsRun config) (keeps_run config) (λ block. tt) (blocks_of input) (after_opening config notes)
    (kept_opened Any (IsRun config) (keeps_run config) tt config notes (record { config_is = refl; run = tt })))

run_whole : (config : Configuration) (input : List ℕ) (read_failed : Bool) (notes : List LoadNote) →
    IsRun config (played config input read_failed notes)
unfolding played_as
run_whole config input read_failed notes =
    run_concluded config (end_behind (farewell (after_conversing config input notes)) (fault_of (rest_of input)) read_failed)
    (after_closing (after_conversing config input notes)) (run_closed config input notes)

pub config_played : (config : Configuration) (input : List ℕ) (read_failed : Bool) (notes : List LoadNote) →
    (played config input read_failed notes).config ≡ config
config_played config input read_failed notes = (run_whole config input read_failed notes).config_is

-- so are the settings of the switch
pub settings_kept : (config : Configuration) (input : List ℕ) (read_failed : Bool) (notes : List LoadNote) →
    (switch_of (played config input read_failed notes)).settings ≡ config.settings
settings_kept config input read_failed notes =
    let p = played config input read_failed notes in
    settings_run (empty p.config) p.journal ∙ ap (λ (c : Configuration). c.settings) (config_played config input read_failed notes)

pub run_played : (config : Configuration) (input : List ℕ) (read_failed : Bool) (notes : List LoadNote) →
    IsRunFrom (empty config) (played config input read_failed notes).journal
run_played config input read_failed notes =
    let h = run_whole config input read_failed notes in
    subst (λ (c : Configuration). IsRunFrom (empty c) (played config input read_failed notes).journal) h.config_is h.run

-- ---- ends before that of the connection

-- the play is not over, or it came to an end before that of its connection
abbrev pub EndsEarly : Option End → Type 0
EndsEarly None = Unit {0}
EndsEarly (Some end) = is_early end ≡ true

abbrev pub Early : Play → Type 0
Early p = EndsEarly p.end

early_judged : (cause : Option Refusal) (entry : Entry) (p : Play) → Early p → Early (after_judging cause entry p)
early_judged None entry p h = h
early_judged (Some (refusal.JournalFull cost limit)) entry p h = refl
early_judged (Some _) entry p h = h

early_entered : (act : Act) (p : Play) → Early p → Early (after_trying_act act p)
early_entered act p h =
    elim (is_over p) as (λ b. Early (cond b p (after_judging (refusal_of (switch_of p) (entry_of act p)) (entry_of act p) p))) [
      | true ↦ h
      | false ↦ early_judged (refusal_of (switch_of p) (entry_of act p)) (entry_of act p) p h
    ]

early_ended : (end : End) → is_early end ≡ true → (p : Play) → Early p → Early (with_end end p)
early_ended end early p h = elim (is_over p) as (λ b. Early (cond b p (record p { end = Some end }))) [ true ↦ h | false ↦ early ]

keeps_early : Keeps Any Early
keeps_early = by_each Any Early (record {
  works = λ slot. tt;
  dials = λ slot. tt;
  jobs = λ number. tt;
  loads = λ number note. tt;
  takes = tt;
  enters = λ act such p h. early_entered act p h;
  ends = early_ended;
  goes_on = λ moment p h. h;
})

pub early_closed : (config : Configuration) (input : List ℕ) (notes : List LoadNote) →
    Early (after_closing (after_conversing config input notes))
early_closed config input notes =
    kept_closed Any Early keeps_early tt tt (after_conversing config input notes)
    (kept_all_commanded Any Early keeps_early (λ block. tt) (blocks_of input) (after_opening config notes)
    (kept_opened Any Early keeps_early tt config notes tt))

-- ---- every play ends

ended_some : (how : End) (p : Play) → (end : End) × ((with_end how p).end ≡ Some end)
ended_some how p = by p.end refl
  where
    by : (last : Option End) → p.end ≡ last → (end : End) × ((with_end how p).end ≡ Some end)
    by None is = (how, ap (λ over. (cond over p (record p { end = Some how })).end) (ap is_some is))
    by (Some end) is = (end, ap (λ over. (cond over p (record p { end = Some how })).end) (ap is_some is) ∙ is)

pub ends_played : (config : Configuration) (input : List ℕ) (read_failed : Bool) (notes : List LoadNote) →
    (end : End) × ((played config input read_failed notes).end ≡ Some end)
unfolding played_as
ends_played config input read_failed notes =
    ended_some (end_behind (farewell (after_conversing config input notes)) (fault_of (rest_of input)) read_failed)
    (after_closing (after_conversing config input notes))

-- ---- what is handed out

handed_append : (conn : ℕ) (s : Switch) (entries more : List Entry) →
    handed_from conn s (entries ++ more) ≡ handed_from conn s entries ++ handed_from conn (run_from s entries) more
handed_append conn s [] more = refl
handed_append conn s (entry ∷ entries) more =
    ap (λ frames. handed_in conn entry.act s ++ frames) (handed_append conn (step s entry).state entries more)
    ∙ sym (append_assoc (handed_in conn entry.act s) (handed_from conn (step s entry).state entries)
    (handed_from conn (run_from (step s entry).state entries) more))

-- what a longer journal hands out begins with what a front of it does
pub bytes_begin : (config : Configuration) (whole journal more : List Entry) → whole ≡ journal ++ more →
    bytes_handed config whole ≡ bytes_handed config journal ++ concat (handed_from 1 (run_from (empty config) journal) more)
bytes_begin config whole journal more split =
    ap (bytes_handed config) split ∙ ap concat (handed_append 1 (empty config) journal more)
    ∙ concat-append (handed_from 1 (empty config) journal) (handed_from 1 (run_from (empty config) journal) more)
