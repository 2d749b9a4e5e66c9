-- The causes of the statuses of a run.
use Rattle.std.proofs.Common.{◌≡◌, ◌≢◌, ℕ, Bool, true, cond, List, Option, None, Some, IfSome, Result, Ok, Err}
use Rattle.std.proofs.Common.{◌⊎◌, unwrap_or, refl, sym, ap, ◌∙◌, subst, inl, inr}
use Rattle.std.specs.Option.{option_map}
use Rattle.fs_ports.specs.Counts.{raised}
use Rattle.fs_ports.specs.Ports.{Input, Output}
use Rattle.fs_ports.specs.Loads.{LoadCounts, next}
use Rattle.fs_ports.specs.declared.files.Load.{Load as File}
use Rattle.fs_ports.specs.declared.files.Load.TheVariants.{Got, Absent, Failed}
use Rattle.fs_load.specs.Document.{load_document}
use Rattle.fs_frame.specs.Block.{fault_of}
use Rattle.fs_frame.specs.declared.fault.Fault.{Fault}
use Rattle.fs_frame.specs.declared.fault.Fault.TheVariants as faults
use Rattle.fs_frame.specs.Blocks.{rest_of}
use Rattle.fs_doc.specs.declared.settings.Settings.{Settings}
use Rattle.fs_doc.specs.Reading.{Configuration, config_of}
use Rattle.fs_doc.specs.declared.fault.DocFault.{DocFault}
use Rattle.fs_plan.specs.declared.fault.PlanFault.{PlanFault}
use Rattle.fs_machine.specs.declared.note.LoadNote.{LoadNote}
use Rattle.fs_conn.specs.declared.end.End.{End}
use Rattle.fs_conn.specs.declared.end.End.TheVariants as ends
use Rattle.fs_conn.specs.Play.{Play as PlaySoFar, switch_of, end_for, played}
use Rattle.fs_conn.specs.Turns.{HasRead}
use Rattle.fs_conn.specs.Filed.{FileView}
use Rattle.fs_conn.specs.Ends.{IsFullAt, IsFullForLoadAt, HasCause}
use Rattle.fs_conn.proofs.LawLemmas.{settings_kept, ends_played}
use Rattle.fs_conn.proofs.CauseLemmas.{cause_played}
use Rattle.fs_top.specs.Told.{Told, Asked, Check, Hunt, Play, Load, file_asked, told_words, told_file, told_read, told_asked}
use Rattle.fs_top.specs.Told.{status_of_end}
use Rattle.fs_top.specs.Runs.{line_of_outcome, status_of_outcome, CarriesOut, completes, fails_to_write, lacks_memory}
use Rattle.fs_top.specs.Runs.{fails_for_memory, IsPlayed, Gives, LoadedAs, IsBuilt}
use Rattle.fs_top.specs.Runs.{Runs, HasConfig, HasFault, HasRefusal, CountRose, FillsJournal, MeetsBadBlock}
use Rattle.fs_top.specs.Runs.{RunsAway, RefusesPattern, Library, view_in, name_of, Reloads, reloader_read, reloader_file}
use Rattle.fs_top.specs.declared.outcome.Outcome.{Outcome}
use Rattle.fs_top.proofs.AnswerLaws.{tells}

-- the end of a play of this status
status_ended : (c : Configuration) (notes : List LoadNote) (input : List ℕ) (read_failed : Bool) (status : ℕ) →
    (tells c notes input read_failed).status ≡ status →
    (end : End) × ((played c input read_failed notes).end ≡ Some end) × (status_of_end end ≡ status)
status_ended c notes input read_failed status is =
    let ended = ends_played c input read_failed notes in
    (ended.0, ended.1, sym (ap (λ (last : Option End). unwrap_or (option_map status_of_end last) 0) ended.1) ∙ is)

-- the count that a status of 4 shows
unreadable_end : (end : End) (p : PlaySoFar) (fault : Option Fault) (read_failed : Bool) → status_of_end end ≡ 4 →
    HasCause end p fault read_failed → read_failed ≡ true
unreadable_end ends.Exit p fault read_failed four cause = absurd (cc)
unreadable_end ends.Eof p fault read_failed four cause = absurd (cc)
unreadable_end ends.AuthRefused p fault read_failed four cause = absurd (cc)
unreadable_end ends.Stopped p fault read_failed four cause = absurd (cc)
unreadable_end ends.ReadFault p fault read_failed four cause = cause.1
unreadable_end ends.WriteFault p fault read_failed four cause = absurd cause
unreadable_end (ends.TooLong len) p fault read_failed four cause = absurd (cc)
unreadable_end ends.BadLength p fault read_failed four cause = absurd (cc)
unreadable_end (ends.JournalFull cost limit) p fault read_failed four cause = absurd (cc)
unreadable_end ends.Memory p fault read_failed four cause = absurd (cc)
unreadable_end (ends.Runaway count) p fault read_failed four cause = absurd (cc)

-- a read that failed is one of the link, since no other fails
pub failed_read : (asked : Option Asked) (in0 in1 from to : Input) → IsPlayed asked in0 in1 from to → to.faults ≡ raised from.faults →
    in1.faults ≡ raised in0.faults
failed_read None in0 in1 from to sides rose = rw (← sides.0, ← sides.1) rose
failed_read (Some (Check file)) in0 in1 from to sides rose = rw (← sides.0, ← sides.1) rose
failed_read (Some (Hunt file context dest)) in0 in1 from to sides rose = rw (← sides.0, ← sides.1) rose
failed_read (Some (Play file)) in0 in1 from to sides rose = rw (← sides.0, ← sides.1) rose
failed_read (Some (Load count start)) in0 in1 from to sides rose =
    let one : 0 ≡ raised 0 = sym sides.1 ∙ rose ∙ ap (λ (i : Input). raised i.faults) sides.0 in absurd (cc)

unreadable_play : (asked : Option Asked) (c : Configuration) (notes : List LoadNote) (counts0 counts1 : LoadCounts)
    (in0 in1 from to : Input) (input : List ℕ) (read_failed : Bool) → IsPlayed asked in0 in1 from to →
    HasRead from to input read_failed → (tells c notes input read_failed).status ≡ 4 → CountRose counts0 counts1 in0 in1
unreadable_play asked c notes counts0 counts1 in0 in1 from to input read_failed is_played has_read four =
    let ended = status_ended c notes input read_failed 4 four in
    let failed =
    unreadable_end ended.0 (played c input read_failed notes) (fault_of (rest_of input)) read_failed ended.2
    (cause_played c input read_failed notes ended.0 ended.1) in
    inr (inr (failed_read asked in0 in1 from to is_played
    (has_read.faults ∙ ap (λ b. cond b (raised from.faults) from.faults) failed)))

-- the bad block that a status of 10 shows
bad_block_end : (end : End) (p : PlaySoFar) (fault : Option Fault) (read_failed : Bool) → status_of_end end ≡ 10 →
    HasCause end p fault read_failed → (bad : Fault) × (fault ≡ Some bad) × (end ≡ end_for bad)
bad_block_end ends.Exit p fault read_failed ten cause = absurd (cc)
bad_block_end ends.Eof p fault read_failed ten cause = absurd (cc)
bad_block_end ends.AuthRefused p fault read_failed ten cause = absurd (cc)
bad_block_end ends.Stopped p fault read_failed ten cause = absurd (cc)
bad_block_end ends.ReadFault p fault read_failed ten cause = absurd (cc)
bad_block_end ends.WriteFault p fault read_failed ten cause = absurd cause
bad_block_end (ends.TooLong len) p fault read_failed ten cause = (faults.TooLong len, cause, refl)
bad_block_end ends.BadLength p fault read_failed ten cause = (faults.BadLength, cause, refl)
bad_block_end (ends.JournalFull cost limit) p fault read_failed ten cause = absurd (cc)
bad_block_end ends.Memory p fault read_failed ten cause = absurd (cc)
bad_block_end (ends.Runaway count) p fault read_failed ten cause = absurd (cc)

bad_block_play : (asked : Option Asked) (c : Configuration) (notes : List LoadNote) (in0 in1 from to : Input) (input : List ℕ)
    (read_failed : Bool) →
    IsPlayed asked in0 in1 from to → HasRead from to input read_failed →
    (tells c notes input read_failed).status ≡ 10 → MeetsBadBlock asked c in0 in1
bad_block_play asked c notes in0 in1 from to input read_failed is_played has_read ten =
    let ended = status_ended c notes input read_failed 10 ten in
    let is = bad_block_end ended.0 (played c input read_failed notes) (fault_of (rest_of input)) read_failed ended.2
    (cause_played c input read_failed notes ended.0 ended.1) in record {
      from = from;
      to = to;
      input = input;
      read_failed = read_failed;
      is_played = is_played;
      has_read = has_read;
      notes = notes;
      fault = is.0;
      is_bad = is.1;
      end_is = ended.1 ∙ ap Some is.2;
    }

-- the journal that a status of 8 shows
abbrev IsFull : End → PlaySoFar → Type 0
IsFull end p =
    (cost : ℕ) × (limit : ℕ) × (end ≡ ends.JournalFull cost limit) × (IsFullAt cost limit (switch_of p) ⊎ IsFullForLoadAt cost limit p)

full_limit : (cost limit : ℕ) (p : PlaySoFar) → IsFullAt cost limit (switch_of p) ⊎ IsFullForLoadAt cost limit p →
    limit ≡ (switch_of p).settings.journal_limit
full_limit cost limit p (inl full) = full.limit_is
full_limit cost limit p (inr full) = full.limit_is

full_end : (end : End) (p : PlaySoFar) (fault : Option Fault) (read_failed : Bool) → status_of_end end ≡ 8 → HasCause end p fault read_failed →
    IsFull end p
full_end ends.Exit p fault read_failed eight cause = absurd (cc)
full_end ends.Eof p fault read_failed eight cause = absurd (cc)
full_end ends.AuthRefused p fault read_failed eight cause = absurd (cc)
full_end ends.Stopped p fault read_failed eight cause = absurd (cc)
full_end ends.ReadFault p fault read_failed eight cause = absurd (cc)
full_end ends.WriteFault p fault read_failed eight cause = absurd cause
full_end (ends.TooLong len) p fault read_failed eight cause = absurd (cc)
full_end ends.BadLength p fault read_failed eight cause = absurd (cc)
full_end (ends.JournalFull cost limit) p fault read_failed eight cause = (cost, limit, refl, cause)
full_end ends.Memory p fault read_failed eight cause = absurd (cc)
full_end (ends.Runaway count) p fault read_failed eight cause = absurd (cc)

full_play : (asked : Option Asked) (c : Configuration) (notes : List LoadNote) (in0 in1 from to : Input) (input : List ℕ)
    (read_failed : Bool) →
    IsPlayed asked in0 in1 from to → HasRead from to input read_failed →
    (tells c notes input read_failed).status ≡ 8 → FillsJournal asked c in0 in1
full_play asked c notes in0 in1 from to input read_failed is_played has_read eight =
    let ended = status_ended c notes input read_failed 8 eight in
    let is = full_end ended.0 (played c input read_failed notes) (fault_of (rest_of input)) read_failed ended.2
    (cause_played c input read_failed notes ended.0 ended.1) in record {
      from = from;
      to = to;
      input = input;
      read_failed = read_failed;
      is_played = is_played;
      has_read = has_read;
      notes = notes;
      cost_told = is.0;
      limit_told = is.1;
      end_is = ended.1 ∙ ap Some is.2;
      full = is.3;
      limit_is =
          full_limit is.0 is.1 (played c input read_failed notes) is.3
          ∙ ap (λ (settings : Settings). settings.journal_limit) (settings_kept c input read_failed notes);
    }

-- the end that a status of 9 shows
away_end : (end : End) (p : PlaySoFar) (fault : Option Fault) (read_failed : Bool) → status_of_end end ≡ 9 → HasCause end p fault read_failed →
    end ≡ ends.Runaway 100000
away_end ends.Exit p fault read_failed nine cause = absurd (cc)
away_end ends.Eof p fault read_failed nine cause = absurd (cc)
away_end ends.AuthRefused p fault read_failed nine cause = absurd (cc)
away_end ends.Stopped p fault read_failed nine cause = absurd (cc)
away_end ends.ReadFault p fault read_failed nine cause = absurd (cc)
away_end ends.WriteFault p fault read_failed nine cause = absurd cause
away_end (ends.TooLong len) p fault read_failed nine cause = absurd (cc)
away_end ends.BadLength p fault read_failed nine cause = absurd (cc)
away_end (ends.JournalFull cost limit) p fault read_failed nine cause = absurd (cc)
away_end ends.Memory p fault read_failed nine cause = absurd (cc)
away_end (ends.Runaway count) p fault read_failed nine cause = ap ends.Runaway cause.many

away_play : (asked : Option Asked) (c : Configuration) (notes : List LoadNote) (in0 in1 from to : Input) (input : List ℕ)
    (read_failed : Bool) →
    IsPlayed asked in0 in1 from to → HasRead from to input read_failed →
    (tells c notes input read_failed).status ≡ 9 → RunsAway asked c in0 in1
away_play asked c notes in0 in1 from to input read_failed is_played has_read nine =
    let ended = status_ended c notes input read_failed 9 nine in record {
      from = from;
      to = to;
      input = input;
      read_failed = read_failed;
      is_played = is_played;
      has_read = has_read;
      notes = notes;
      end_is =
          ended.1 ∙ ap Some (away_end ended.0 (played c input read_failed notes) (fault_of (rest_of input)) read_failed ended.2
          (cause_played c input read_failed notes ended.0 ended.1));
    }

-- a status that is neither 1 nor 5 is the one that is told
status-done : (told : Told) (in1 : Input) (out0 out1 : Output) (line : List ℕ) (status : ℕ) → CarriesOut told in1 out0 out1 line status →
    status ≢ 1 → status ≢ 5 → status ≡ told.status
status-done told in1 out0 out1 line status (completes h) not_1 not_5 = h.status_is
status-done told in1 out0 out1 line status (fails_to_write h) not_1 not_5 = absurd (not_5 h.status_is)
status-done told in1 out0 out1 line status (lacks_memory h) not_1 not_5 = absurd (not_1 h.status_is)
status-done told in1 out0 out1 line status (fails_for_memory h) not_1 not_5 = absurd (not_1 h.status_is)

status-told : (asked : Option Asked) (files0 files1 : Library) (in0 in1 : Input) (out0 out1 : Output) (outcome : Outcome)
    (runs : Runs asked files0 files1 in0 in1 out0 out1 outcome) → status_of_outcome outcome ≢ 1 → status_of_outcome outcome ≢ 5 →
    status_of_outcome outcome ≡ (told_words asked runs.file runs.built runs.notes runs.answers.input runs.answers.read_failed).status
status-told asked files0 files1 in0 in1 out0 out1 outcome runs not_1 not_5 =
    status-done _ runs.answers.to out0 out1 (line_of_outcome outcome) (status_of_outcome outcome) runs.answers.does not_1 not_5

-- what a status that only a play has shows: the document was read, no pattern was refused, and the play ended so
record Played (asked : Option Asked) (next_load : List ℕ → Option File) (notes : List LoadNote) (input : List ℕ) (read_failed : Bool)
    (status : ℕ) : Type 0 where
  c : Configuration
  has : HasConfig asked next_load c
  ended : (tells c notes input read_failed).status ≡ status

played_asked : (asked : Asked) (bytes : List ℕ) (c : Configuration) (next_load : List ℕ → Option File) (notes : List LoadNote)
    (input : List ℕ) (read_failed : Bool) (status : ℕ) → status ≢ 0 →
    Gives next_load (file_asked asked) (Got bytes) → config_of bytes ≡ Ok c → status ≡ (told_asked asked c notes input read_failed).status →
    Played (Some asked) next_load notes input read_failed status
played_asked (Check file) bytes c next_load notes input read_failed status not_0 tells reads is = absurd (not_0 is)
played_asked (Hunt file context dest) bytes c next_load notes input read_failed status not_0 tells reads is = absurd (not_0 is)
played_asked (Play file) bytes c next_load notes input read_failed status not_0 tells reads is = record {
  c = c;
  has = record { of = Play file; bytes = bytes; is_asked = refl; told = tells; reads = reads };
  ended = sym is;
}
played_asked (Load count start) bytes c next_load notes input read_failed status not_0 tells reads is = record {
  c = c;
  has = record { of = Load count start; bytes = bytes; is_asked = refl; told = tells; reads = reads };
  ended = sym is;
}

played_read : (asked : Asked) (bytes : List ℕ) (read : Result Configuration DocFault) (built : Option PlanFault) (next_load : List ℕ →
    Option File) (notes : List LoadNote) (input : List ℕ) (read_failed : Bool) (status : ℕ) →
    status ≢ 0 → status ≢ 3 → Gives next_load (file_asked asked) (Got bytes) → config_of bytes ≡ read →
    status ≡ (told_read asked read built notes input read_failed).status →
    Played (Some asked) next_load notes input read_failed status
played_read asked bytes (Ok c) None next_load notes input read_failed status not_0 not_3 tells reads is =
    played_asked asked bytes c next_load notes input read_failed status not_0 tells reads is
played_read asked bytes (Ok c) (Some fault) next_load notes input read_failed status not_0 not_3 tells reads is = absurd (not_3 is)
played_read asked bytes (Err fault) built next_load notes input read_failed status not_0 not_3 tells reads is = absurd (not_3 is)

played_file : (asked : Option Asked) (file : File) (built : Option PlanFault) (next_load : List ℕ → Option File) (notes : List LoadNote)
    (input : List ℕ) (read_failed : Bool) (status : ℕ) →
    status ≢ 0 → status ≢ 2 → status ≢ 3 → status ≢ 4 → IfSome asked (λ a. Gives next_load (file_asked a) file) →
    status ≡ (told_words asked file built notes input read_failed).status →
    Played asked next_load notes input read_failed status
played_file None file built next_load notes input read_failed status not_0 not_2 not_3 not_4 tells is = absurd (not_2 is)
played_file (Some asked) (Got bytes) built next_load notes input read_failed status not_0 not_2 not_3 not_4 tells is =
    played_read asked bytes (config_of bytes) built next_load notes input read_failed status not_0 not_3 tells refl is
played_file (Some asked) Absent built next_load notes input read_failed status not_0 not_2 not_3 not_4 tells is = absurd (not_4 is)
played_file (Some asked) Failed built next_load notes input read_failed status not_0 not_2 not_3 not_4 tells is = absurd (not_4 is)

-- what status 8 shows
pub cause_full : (asked : Option Asked) (files0 files1 : Library) (in0 in1 : Input) (out0 out1 : Output) (outcome : Outcome) →
    Runs asked files0 files1 in0 in1 out0 out1 outcome → status_of_outcome outcome ≡ 8 →
    (c : Configuration) × HasConfig asked (next files0.loads) c × FillsJournal asked c in0 in1
cause_full asked files0 files1 in0 in1 out0 out1 outcome runs eight =
    let told = status-told asked files0 files1 in0 in1 out0 out1 outcome runs (λ e. absurd (cc)) (λ e. absurd (cc)) in
    let p =
    played_file asked runs.file runs.built (next files0.loads) runs.notes runs.answers.input runs.answers.read_failed
    (status_of_outcome outcome) (λ e. absurd (cc)) (λ e. absurd (cc)) (λ e. absurd (cc)) (λ e. absurd (cc)) runs.file_told told in
    let ended : (tells p.c runs.notes runs.answers.input runs.answers.read_failed).status ≡ 8 =
    subst (λ (n : ℕ). (tells p.c runs.notes runs.answers.input runs.answers.read_failed).status ≡ n) eight p.ended in (
      p.c,
      p.has,
      full_play asked p.c runs.notes in0 in1 runs.answers.from runs.answers.to runs.answers.input runs.answers.read_failed
          runs.answers.is_played runs.answers.has_read ended,
    )

-- what status 9 shows
pub cause_away : (asked : Option Asked) (files0 files1 : Library) (in0 in1 : Input) (out0 out1 : Output) (outcome : Outcome) →
    Runs asked files0 files1 in0 in1 out0 out1 outcome → status_of_outcome outcome ≡ 9 →
    (c : Configuration) × HasConfig asked (next files0.loads) c × RunsAway asked c in0 in1
cause_away asked files0 files1 in0 in1 out0 out1 outcome runs nine =
    let told = status-told asked files0 files1 in0 in1 out0 out1 outcome runs (λ e. absurd (cc)) (λ e. absurd (cc)) in
    let p =
    played_file asked runs.file runs.built (next files0.loads) runs.notes runs.answers.input runs.answers.read_failed
    (status_of_outcome outcome) (λ e. absurd (cc)) (λ e. absurd (cc)) (λ e. absurd (cc)) (λ e. absurd (cc)) runs.file_told told in
    let ended : (tells p.c runs.notes runs.answers.input runs.answers.read_failed).status ≡ 9 =
    subst (λ (n : ℕ). (tells p.c runs.notes runs.answers.input runs.answers.read_failed).status ≡ n) nine p.ended in (
      p.c,
      p.has,
      away_play asked p.c runs.notes in0 in1 runs.answers.from runs.answers.to runs.answers.input runs.answers.read_failed
          runs.answers.is_played runs.answers.has_read ended,
    )

-- what status 10 shows
pub cause_bad_block : (asked : Option Asked) (files0 files1 : Library) (in0 in1 : Input) (out0 out1 : Output) (outcome : Outcome) →
    Runs asked files0 files1 in0 in1 out0 out1 outcome → status_of_outcome outcome ≡ 10 →
    (c : Configuration) × HasConfig asked (next files0.loads) c × MeetsBadBlock asked c in0 in1
cause_bad_block asked files0 files1 in0 in1 out0 out1 outcome runs ten =
    let told = status-told asked files0 files1 in0 in1 out0 out1 outcome runs (λ e. absurd (cc)) (λ e. absurd (cc)) in
    let p =
    played_file asked runs.file runs.built (next files0.loads) runs.notes runs.answers.input runs.answers.read_failed
    (status_of_outcome outcome) (λ e. absurd (cc)) (λ e. absurd (cc)) (λ e. absurd (cc)) (λ e. absurd (cc)) runs.file_told told in
    let ended : (tells p.c runs.notes runs.answers.input runs.answers.read_failed).status ≡ 10 =
    subst (λ (n : ℕ). (tells p.c runs.notes runs.answers.input runs.answers.read_failed).status ≡ n) ten p.ended in (
      p.c,
      p.has,
      bad_block_play asked p.c runs.notes in0 in1 runs.answers.from runs.answers.to runs.answers.input runs.answers.read_failed
          runs.answers.is_played runs.answers.has_read ended,
    )

-- no play is told to end by a write that failed
unwritten_end : (end : End) (p : PlaySoFar) (fault : Option Fault) (read_failed : Bool) → status_of_end end ≡ 5 →
    HasCause end p fault read_failed → ⊥
unwritten_end ends.Exit p fault read_failed five cause = cc
unwritten_end ends.Eof p fault read_failed five cause = cc
unwritten_end ends.AuthRefused p fault read_failed five cause = cc
unwritten_end ends.Stopped p fault read_failed five cause = cc
unwritten_end ends.ReadFault p fault read_failed five cause = cc
unwritten_end ends.WriteFault p fault read_failed five cause = cause
unwritten_end (ends.TooLong len) p fault read_failed five cause = cc
unwritten_end ends.BadLength p fault read_failed five cause = cc
unwritten_end (ends.JournalFull cost limit) p fault read_failed five cause = cc
unwritten_end ends.Memory p fault read_failed five cause = cc
unwritten_end (ends.Runaway count) p fault read_failed five cause = cc

unwritten_play : (c : Configuration) (notes : List LoadNote) (input : List ℕ) (read_failed : Bool) →
    (tells c notes input read_failed).status ≡ 5 → ⊥
unwritten_play c notes input read_failed five =
    let ended = status_ended c notes input read_failed 5 five in
    unwritten_end ended.0 (played c input read_failed notes) (fault_of (rest_of input)) read_failed ended.2
    (cause_played c input read_failed notes ended.0 ended.1)

-- so a status of 5 comes of a write
failed_write : (told : Told) (in1 : Input) (out0 out1 : Output) (line : List ℕ) (status : ℕ) → CarriesOut told in1 out0 out1 line status →
    status ≡ 5 → told.status ≢ 5 → out1.faults ≡ raised out0.faults
failed_write told in1 out0 out1 line status (completes h) five never = absurd (never (sym h.status_is ∙ five))
failed_write told in1 out0 out1 line status (fails_to_write h) five never = h.stopped.faults
failed_write told in1 out0 out1 line status (lacks_memory h) five never = let one : 1 ≡ 5 = sym h.status_is ∙ five in absurd (cc)
failed_write told in1 out0 out1 line status (fails_for_memory h) five never = h.stopped.faults

-- what status 5 shows
pub cause_write : (asked : Option Asked) (files0 files1 : Library) (in0 in1 : Input) (out0 out1 : Output) (outcome : Outcome) →
    Runs asked files0 files1 in0 in1 out0 out1 outcome → status_of_outcome outcome ≡ 5 → out1.faults ≡ raised out0.faults
cause_write asked files0 files1 in0 in1 out0 out1 outcome runs five =
    failed_write (told_words asked runs.file runs.built runs.notes runs.answers.input runs.answers.read_failed) runs.answers.to out0 out1
    (line_of_outcome outcome) (status_of_outcome outcome) runs.answers.does five
    (λ e. let p = played_file asked runs.file runs.built (next files0.loads) runs.notes runs.answers.input runs.answers.read_failed 5
    (λ z. absurd (cc)) (λ z. absurd (cc)) (λ z. absurd (cc)) (λ z. absurd (cc)) runs.file_told (sym e) in
    unwritten_play p.c runs.notes runs.answers.input runs.answers.read_failed p.ended)

-- what status 4 shows
unreadable_counted : (of : Option (List ℕ)) (file : File) (next_load : List ℕ → Option File) (counts0 counts1 : LoadCounts)
    (in0 in1 : Input) → Gives next_load of file → LoadedAs of counts0 counts1 file → ((bytes : List ℕ) → file ≢ Got bytes) →
    CountRose counts0 counts1 in0 in1
unreadable_counted None file next_load counts0 counts1 in0 in1 gives loaded unread = absurd (unread load_document gives)
unreadable_counted (Some name) (Got bytes) next_load counts0 counts1 in0 in1 gives loaded unread = absurd (unread bytes refl)
unreadable_counted (Some name) Absent next_load counts0 counts1 in0 in1 gives loaded unread = inl (ap (λ c. c.absences) loaded)
unreadable_counted (Some name) Failed next_load counts0 counts1 in0 in1 gives loaded unread = inr (inl (ap (λ c. c.faults) loaded))

-- nothing was counted behind a load for which nothing was loaded again
store_counted : (store view : FileView) (counts : LoadCounts) → view ≡ store → view.counts ≡ counts → store.counts ≡ counts
store_counted store view counts same are = sym (ap (λ (v : FileView). v.counts) same) ∙ are

unreadable_file : (asked : Asked) (file : File) (built : Option PlanFault) (next_load : List ℕ → Option File) (counts0 counts1 : LoadCounts)
    (status : ℕ) (store view : FileView) (notes : List LoadNote) (in0 in1 from to : Input) (input : List ℕ)
    (read_failed : Bool) → status ≡ 4 → Gives next_load (file_asked asked) file → LoadedAs (file_asked asked) counts0 store.counts file →
    Reloads (reloader_file asked file built) status store view notes → view.counts ≡ counts1 →
    IsPlayed (Some asked) in0 in1 from to → HasRead from to input read_failed →
    status ≡ (told_file asked file built notes input read_failed).status → CountRose counts0 counts1 in0 in1
unreadable_file asked (Got bytes) built next_load counts0 counts1 status store view notes in0 in1 from to input read_failed four
    gives loaded reloaded counts is_played has_read is =
    let p =
    played_read asked bytes (config_of bytes) built next_load notes input read_failed 4 (λ e. absurd (cc)) (λ e. absurd (cc)) gives refl
    (sym four ∙ is) in
    unreadable_play (Some asked) p.c notes counts0 counts1 in0 in1 from to input read_failed is_played has_read p.ended
unreadable_file asked Absent built next_load counts0 counts1 status store view notes in0 in1 from to input read_failed four gives
    loaded reloaded counts is_played has_read is =
    unreadable_counted (file_asked asked) Absent next_load counts0 counts1 in0 in1 gives
    (subst (λ (n : LoadCounts). LoadedAs (file_asked asked) counts0 n Absent) (store_counted store view counts1 reloaded.1 counts) loaded)
    (λ bytes e. absurd (cc))
unreadable_file asked Failed built next_load counts0 counts1 status store view notes in0 in1 from to input read_failed four gives
    loaded reloaded counts is_played has_read is =
    unreadable_counted (file_asked asked) Failed next_load counts0 counts1 in0 in1 gives
    (subst (λ (n : LoadCounts). LoadedAs (file_asked asked) counts0 n Failed) (store_counted store view counts1 reloaded.1 counts) loaded)
    (λ bytes e. absurd (cc))

pub cause_unreadable : (asked : Option Asked) (files0 files1 : Library) (in0 in1 : Input) (out0 out1 : Output) (outcome : Outcome) →
    Runs asked files0 files1 in0 in1 out0 out1 outcome → status_of_outcome outcome ≡ 4 → CountRose files0.counts files1.counts in0 in1
cause_unreadable None files0 files1 in0 in1 out0 out1 outcome runs four = let two = runs.usage refl in absurd (cc)
cause_unreadable (Some asked) files0 files1 in0 in1 out0 out1 outcome runs four =
    let told = status-told (Some asked) files0 files1 in0 in1 out0 out1 outcome runs (λ e. absurd (cc)) (λ e. absurd (cc)) in
    unreadable_file asked runs.file runs.built (next files0.loads) files0.counts files1.counts (status_of_outcome outcome)
    runs.store (view_in files1 (name_of asked)) runs.notes in0 in1 runs.answers.from runs.answers.to
    runs.answers.input runs.answers.read_failed four runs.file_told (runs.loaded (λ e. absurd (cc))) runs.reloaded refl
    runs.answers.is_played runs.answers.has_read told

-- no play has status 3
end_not_3 : (end : End) → status_of_end end ≡ 3 → ⊥
end_not_3 ends.Exit three = cc
end_not_3 ends.Eof three = cc
end_not_3 ends.AuthRefused three = cc
end_not_3 ends.Stopped three = cc
end_not_3 ends.ReadFault three = cc
end_not_3 ends.WriteFault three = cc
end_not_3 (ends.TooLong len) three = cc
end_not_3 ends.BadLength three = cc
end_not_3 (ends.JournalFull cost limit) three = cc
end_not_3 ends.Memory three = cc
end_not_3 (ends.Runaway count) three = cc

asked_not_3 : (asked : Asked) (c : Configuration) (notes : List LoadNote) (input : List ℕ) (read_failed : Bool) →
    (told_asked asked c notes input read_failed).status ≡ 3 → ⊥
asked_not_3 (Check file) c notes input read_failed three = cc
asked_not_3 (Hunt file context dest) c notes input read_failed three = cc
asked_not_3 (Play file) c notes input read_failed three =
    let ended = status_ended c notes input read_failed 3 three in end_not_3 ended.0 ended.2
asked_not_3 (Load count start) c notes input read_failed three =
    let ended = status_ended c notes input read_failed 3 three in end_not_3 ended.0 ended.2

document_read : (asked : Asked) (bytes : List ℕ) (read : Result Configuration DocFault) (built : Option PlanFault) (next_load : List ℕ →
    Option File) (sizes0 status : ℕ) (store view : FileView) (notes : List LoadNote) (input : List ℕ) (read_failed : Bool) →
    Gives next_load (file_asked asked) (Got bytes) → config_of bytes ≡ read → IsBuilt (Got bytes) built sizes0 store.sizes →
    Reloads (reloader_read asked read built) status store view notes → (told_read asked read built notes input read_failed).status ≡ 3 →
    HasFault (Some asked) next_load ⊎ HasRefusal (Some asked) next_load sizes0 view.sizes
document_read asked bytes (Err fault) built next_load sizes0 status store view notes input read_failed tells reads built_told reloaded three =
    inl (record { of = asked; bytes = bytes; fault = fault; is_asked = refl; told = tells; reads = reads })
document_read asked bytes (Ok c) None next_load sizes0 status store view notes input read_failed tells reads built_told reloaded three =
    absurd (asked_not_3 asked c notes input read_failed three)
document_read asked bytes (Ok c) (Some fault) next_load sizes0 status store view notes input read_failed tells reads built_told reloaded
    three = inr (record {
      c = built_told.0;
      fault = fault;
      has = record { of = asked; bytes = bytes; is_asked = refl; told = tells; reads = built_told.1 };
      refused =
          subst (λ (n : ℕ). RefusesPattern built_told.0.contexts fault sizes0 n) (sym (ap (λ (v : FileView). v.sizes) reloaded.1))
          built_told.2;
    })

document_file : (asked : Asked) (file : File) (built : Option PlanFault) (next_load : List ℕ → Option File) (sizes0 status : ℕ)
    (store view : FileView) (notes : List LoadNote) (input : List ℕ) (read_failed : Bool) →
    Gives next_load (file_asked asked) file → IsBuilt file built sizes0 store.sizes →
    Reloads (reloader_file asked file built) status store view notes → (told_file asked file built notes input read_failed).status ≡ 3 →
    HasFault (Some asked) next_load ⊎ HasRefusal (Some asked) next_load sizes0 view.sizes
document_file asked (Got bytes) built next_load sizes0 status store view notes input read_failed tells built_told reloaded three =
    document_read asked bytes (config_of bytes) built next_load sizes0 status store view notes input read_failed tells refl built_told reloaded
    three
document_file asked Absent built next_load sizes0 status store view notes input read_failed tells built_told reloaded three = absurd (cc)
document_file asked Failed built next_load sizes0 status store view notes input read_failed tells built_told reloaded three = absurd (cc)

pub cause_document : (asked : Option Asked) (files0 files1 : Library) (in0 in1 : Input) (out0 out1 : Output) (outcome : Outcome) →
    Runs asked files0 files1 in0 in1 out0 out1 outcome → status_of_outcome outcome ≡ 3 →
    HasFault asked (next files0.loads) ⊎ HasRefusal asked (next files0.loads) files0.sizes files1.sizes
cause_document None files0 files1 in0 in1 out0 out1 outcome runs three = let two = runs.usage refl in absurd (cc)
cause_document (Some asked) files0 files1 in0 in1 out0 out1 outcome runs three =
    let told = status-told (Some asked) files0 files1 in0 in1 out0 out1 outcome runs (λ e. absurd (cc)) (λ e. absurd (cc)) in
    document_file asked runs.file runs.built (next files0.loads) files0.sizes (status_of_outcome outcome) runs.store
    (view_in files1 (name_of asked)) runs.notes runs.answers.input runs.answers.read_failed runs.file_told runs.built_told runs.reloaded
    (sym told ∙ three)
