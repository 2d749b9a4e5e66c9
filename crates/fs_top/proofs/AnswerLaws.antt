-- What the commands of the program answer.
use Rattle.std.proofs.Common.{◌≡◌, ◌≢◌, ℕ, Bool, true, false, cond, IsTrue, List, [], ◌++◌, Option, None, Some, Result, Ok, Err}
use Rattle.std.proofs.Common.{unwrap_or, refl, sym, ap, ◌∙◌, subst, inl, inr, true≢false}
use Rattle.std.specs.List.{concat}
use Rattle.std.specs.Option.{option_map}
use Rattle.fs_ports.specs.Counts.{raised}
use Rattle.fs_ports.specs.Ports.{Input, Output, Writes, Stopped}
use Rattle.fs_ports.specs.declared.files.Load.{Load as File}
use Rattle.fs_ports.specs.declared.files.Load.TheVariants.{Got, Absent, Failed}
use Rattle.fs_ports.proofs.Sides.{reads_nothing, writes_nothing, stopped_sooner}
use Rattle.fs_load.specs.Calls.{load_input, input_left, dropped}
use Rattle.fs_doc.specs.Reading.{Configuration, config_of}
use Rattle.fs_doc.specs.declared.fault.DocFault.{DocFault}
use Rattle.fs_state.specs.Counts.{Tallies}
use Rattle.fs_state.specs.Switch.{empty}
use Rattle.fs_machine.specs.declared.entry.Entry.{Entry}
use Rattle.fs_machine.specs.declared.note.LoadNote.{LoadNote}
use Rattle.fs_machine.specs.Runs.{run_from}
use Rattle.fs_machine.specs.Frames.{handed_from}
use Rattle.fs_conn.specs.declared.end.End.{End}
use Rattle.fs_conn.specs.declared.end.End.TheVariants as ends
use Rattle.fs_conn.specs.Play.{switch_of, bytes_handed, played}
use Rattle.fs_conn.specs.Filed.{FileView}
use Rattle.fs_conn.specs.Loads.{HasLoaded, HasLoadedOrBegun, LoadsBy}
use Rattle.fs_conn.specs.Turns.{HasRead, Plays, Finishes, Breaks, all_written, then_failed, failed_before}
use Rattle.fs_conn.proofs.LawLemmas.{config_played, bytes_begin}
use Rattle.fs_conn.proofs.NoteLemmas.{loaded_none}
use Rattle.fs_top.specs.Counted.{counts_text}
use Rattle.fs_top.specs.Told.{Told, Asked, Check, Hunt, Play, Load, told_asked}
use Rattle.fs_top.specs.Told.{told_play, told_calls, counts_printed, told_text, refused, is_eof, line_of_end, status_of_end}
use Rattle.fs_top.specs.Runs.{line_of_outcome, status_of_outcome, PlaysTo, completes, fails_to_write, lacks_memory}
use Rattle.fs_top.specs.Runs.{fails_for_memory, CarriesOutAs, IsPlayed, Loads, Answers}
use Rattle.fs_top.specs.Runs.{RestsAs, PlaysAnew}
use Rattle.fs_top.specs.Runs.{Player, ReloadsAs}
use Rattle.fs_top.specs.Runs.{reloader_of, reloader_read, reloader_file}
use Rattle.fs_top.specs.declared.outcome.Outcome.{Outcome}
use Rattle.fs_top.specs.declared.outcome.Outcome.TheVariants.{Usage, CannotRead, BadDocument, BadPattern, Printed, Ended}

-- ---- what is answered

-- nothing was taken from the link
reads_none : (in0 : Input) → HasRead in0 in0 [] false
reads_none in0 = record { reads = reads_nothing in0; faults = refl }

-- a line alone is the answer
pub refused_does : (in0 : Input) (out0 : Output) (line : List ℕ) (status : ℕ) (outcome : Outcome) →
    line_of_outcome outcome ≡ line → status_of_outcome outcome ≡ status → CarriesOutAs (refused line status) in0 out0 out0 outcome
refused_does in0 out0 line status outcome line_is status_is =
    completes (record { written = writes_nothing out0; line_is = line_is; status_is = status_is; at_end = λ h. absurd (cc) })

-- memory was wanting before anything was written
pub memory_does : (told : Told) (in1 : Input) (out0 : Output) → CarriesOutAs told in1 out0 out0 (Ended ends.Memory)
memory_does told in1 out0 =
    lacks_memory (record { front = []; back = told.output; split = refl; written = writes_nothing out0; line_is = refl; status_is = refl })

-- the link rests as it was, behind a line alone or for want of memory
pub refused_rests : (in0 : Input) (out0 : Output) (line : List ℕ) (status : ℕ) (outcome : Outcome) →
    line_of_outcome outcome ≡ line → status_of_outcome outcome ≡ status → RestsAs (refused line status) in0 in0 out0 out0 outcome
refused_rests in0 out0 line status outcome line_is status_is =
    λ _. record { input = refl; output = refl; answer = inl (line_is, status_is) }

pub memory_rests : (told : Told) (in0 : Input) (out0 : Output) → RestsAs told in0 in0 out0 out0 (Ended ends.Memory)
memory_rests told in0 out0 = λ _. record { input = refl; output = refl; answer = inr (refl, refl) }

-- what is done with it is not told so
pub used_rests : (told : Told) (in0 in1 : Input) (out0 out1 : Output) (outcome : Outcome) → told.untouched ≡ false →
    RestsAs told in0 in1 out0 out1 outcome
used_rests told in0 in1 out0 out1 outcome used = λ left. absurd (true≢false (sym left ∙ used))

-- a text was printed, or a write of it failed, or memory was wanting for it
pub print_all : (in1 : Input) (out0 out1 : Output) (text : List ℕ) → Writes out0 out1 text →
    CarriesOutAs (told_text text) in1 out0 out1 Printed
print_all in1 out0 out1 text written = completes (record { written = written; line_is = refl; status_is = refl; at_end = λ h. absurd (cc) })

pub print_failed : (in1 : Input) (out0 out1 : Output) (text : List ℕ) → Stopped out0 out1 text →
    CarriesOutAs (told_text text) in1 out0 out1 (Ended ends.WriteFault)
print_failed in1 out0 out1 text stopped = fails_to_write (record { stopped = stopped; line_is = refl; status_is = refl })

pub print_none : (in1 : Input) (out0 : Output) (text : List ℕ) → CarriesOutAs (told_text text) in1 out0 out0 (Ended ends.Memory)
print_none in1 out0 text = memory_does (told_text text) in1 out0

-- a text is printed whatever is read
pub text_anywhere : (text : List ℕ) (in1 to : Input) (out0 out1 : Output) (outcome : Outcome) →
    CarriesOutAs (told_text text) in1 out0 out1 outcome → CarriesOutAs (told_text text) to out0 out1 outcome
text_anywhere text in1 to out0 out1 outcome (completes h) =
    completes (record { written = h.written; line_is = h.line_is; status_is = h.status_is; at_end = λ eof. absurd (cc) })
text_anywhere text in1 to out0 out1 outcome (fails_to_write h) = fails_to_write h
text_anywhere text in1 to out0 out1 outcome (lacks_memory h) = lacks_memory h
text_anywhere text in1 to out0 out1 outcome (fails_for_memory h) = fails_for_memory h

-- the side that would have been played
record Unplayed (asked : Option Asked) (in0 : Input) : Type 0 where
  side : Input
  is_played : IsPlayed asked in0 in0 side side

unplayed : (asked : Option Asked) (in0 : Input) → Unplayed asked in0
unplayed None in0 = record { side = in0; is_played = (refl, refl) }
unplayed (Some (Check file)) in0 = record { side = in0; is_played = (refl, refl) }
unplayed (Some (Hunt file context dest)) in0 = record { side = in0; is_played = (refl, refl) }
unplayed (Some (Play file)) in0 = record { side = in0; is_played = (refl, refl) }
unplayed (Some (Load count start)) in0 = record { side = input_left (load_input count start); is_played = (refl, refl) }

-- nothing was read for the answer
pub answers_quiet : (told : List ℕ → Bool → Told) (asked : Option Asked) (in0 in1 : Input) (out0 out1 : Output) (outcome : Outcome) →
    in1 ≡ in0 → ((to : Input) → CarriesOutAs (told [] false) to out0 out1 outcome) → RestsAs (told [] false) in0 in1 out0 out1 outcome →
    Answers told asked in0 in1 out0 out1 outcome
answers_quiet told asked in0 in1 out0 out1 outcome same does rests = let none = unplayed asked in0 in record {
  from = none.side;
  to = none.side;
  input = [];
  read_failed = false;
  is_played = subst (λ (i : Input). IsPlayed asked in0 i none.side none.side) (sym same) none.is_played;
  has_read = reads_none none.side;
  quiet = λ _. same;
  does = does none.side;
  rests = rests;
}

-- only one end is by the end of the input
eof_is : (end : End) → IsTrue (is_eof end) → end ≡ ends.Eof
eof_is ends.Exit h = absurd (cc)
eof_is ends.Eof h = refl
eof_is ends.AuthRefused h = absurd (cc)
eof_is ends.Stopped h = absurd (cc)
eof_is ends.ReadFault h = absurd (cc)
eof_is ends.WriteFault h = absurd (cc)
eof_is (ends.TooLong len) h = absurd (cc)
eof_is ends.BadLength h = absurd (cc)
eof_is (ends.JournalFull cost limit) h = absurd (cc)
eof_is ends.Memory h = absurd (cc)
eof_is (ends.Runaway count) h = absurd (cc)

-- what is told of a play
abbrev pub tells : Configuration → List LoadNote → List ℕ → Bool → Told
tells c notes input read_failed = told_play c (played c input read_failed notes)

-- the connection came to its end, or the play did before
answers_finished : (c : Configuration) (notes : List LoadNote) (file : List ℕ) (in0 in1 : Input) (out0 out1 : Output) (end : End)
    (journal : List Entry) →
    Finishes c notes in0 out0 in1 out1 end journal →
    Answers (tells c notes) (Some (Play file)) in0 in1 out0 out1 (Ended end)
answers_finished c notes file in0 in1 out0 out1 end journal f = record {
  from = in0;
  to = in1;
  input = f.input;
  read_failed = f.read_failed;
  is_played = (refl, refl);
  has_read = f.has_read;
  quiet = λ none. absurd none;
  does = completes (record {
    written = f.written;
    line_is = sym (ap (λ (last : Option End). unwrap_or (option_map line_of_end last) []) f.end_is);
    status_is = sym (ap (λ (last : Option End). unwrap_or (option_map status_of_end last) 0) f.end_is);
    at_end = λ h. f.at_end (eof_is end (subst (λ (last : Option End). IsTrue (unwrap_or (option_map is_eof last) false)) f.end_is h));
  });
  rests = used_rests (tells c notes f.input f.read_failed) in0 in1 out0 out1 (Ended end) refl;
}

-- what a front of the journal handed out is a front of the output
begins_output : (c : Configuration) (notes : List LoadNote) (in0 in1 : Input) (journal : List Entry) (breaks : Breaks c notes in0 in1 journal) →
    bytes_handed c (played c breaks.input breaks.read_failed notes).journal ≡ bytes_handed c journal
    ++ concat (handed_from 1 (run_from (empty c) journal) breaks.more)
begins_output c notes in0 in1 journal breaks =
    bytes_begin c (played c breaks.input breaks.read_failed notes).journal journal breaks.more breaks.split

-- where a write of it failed, a write of the output did
stopped_output : (c : Configuration) (notes : List LoadNote) (in0 in1 : Input) (out0 out1 : Output) (journal : List Entry)
    (breaks : Breaks c notes in0 in1 journal) →
    Stopped out0 out1 (bytes_handed c journal) →
    Stopped out0 out1 (bytes_handed c (played c breaks.input breaks.read_failed notes).journal)
stopped_output c notes in0 in1 out0 out1 journal breaks stopped =
    subst (λ (bytes : List ℕ). Stopped out0 out1 bytes) (sym (begins_output c notes in0 in1 journal breaks))
    (stopped_sooner out0 out1 (bytes_handed c journal) (concat (handed_from 1 (run_from (empty c) journal) breaks.more)) stopped)

-- the connection was played
answers_ended : (c : Configuration) (notes : List LoadNote) (file : List ℕ) (in0 in1 : Input) (out0 out1 : Output) (end : End)
    (journal : List Entry) →
    Plays c notes in0 out0 in1 out1 journal end →
    Answers (tells c notes) (Some (Play file)) in0 in1 out0 out1 (Ended end)
answers_ended c notes file in0 in1 out0 out1 ends.Exit journal plays =
    answers_finished c notes file in0 in1 out0 out1 ends.Exit journal plays
answers_ended c notes file in0 in1 out0 out1 ends.Eof journal plays = answers_finished c notes file in0 in1 out0 out1 ends.Eof journal plays
answers_ended c notes file in0 in1 out0 out1 ends.AuthRefused journal plays =
    answers_finished c notes file in0 in1 out0 out1 ends.AuthRefused journal plays
answers_ended c notes file in0 in1 out0 out1 ends.Stopped journal plays =
    answers_finished c notes file in0 in1 out0 out1 ends.Stopped journal plays
answers_ended c notes file in0 in1 out0 out1 ends.ReadFault journal plays =
    answers_finished c notes file in0 in1 out0 out1 ends.ReadFault journal plays
answers_ended c notes file in0 in1 out0 out1 (ends.TooLong len) journal plays =
    answers_finished c notes file in0 in1 out0 out1 (ends.TooLong len) journal plays
answers_ended c notes file in0 in1 out0 out1 ends.BadLength journal plays =
    answers_finished c notes file in0 in1 out0 out1 ends.BadLength journal plays
answers_ended c notes file in0 in1 out0 out1 (ends.JournalFull cost limit) journal plays =
    answers_finished c notes file in0 in1 out0 out1 (ends.JournalFull cost limit) journal plays
answers_ended c notes file in0 in1 out0 out1 (ends.Runaway count) journal plays =
    answers_finished c notes file in0 in1 out0 out1 (ends.Runaway count) journal plays
answers_ended c notes file in0 in1 out0 out1 ends.Memory journal (all_written plays) = let b = plays.breaks in record {
  from = in0;
  to = in1;
  input = b.input;
  read_failed = b.read_failed;
  is_played = (refl, refl);
  has_read = b.has_read;
  quiet = λ none. absurd none;
  does = lacks_memory (record {
    front = bytes_handed c journal;
    back = concat (handed_from 1 (run_from (empty c) journal) b.more);
    split = begins_output c notes in0 in1 journal b;
    written = plays.written;
    line_is = refl;
    status_is = refl;
  });
  rests = used_rests (tells c notes b.input b.read_failed) in0 in1 out0 out1 (Ended ends.Memory) refl;
}
answers_ended c notes file in0 in1 out0 out1 ends.Memory journal (then_failed plays) = let b = plays.breaks in record {
  from = in0;
  to = in1;
  input = b.input;
  read_failed = b.read_failed;
  is_played = (refl, refl);
  has_read = b.has_read;
  quiet = λ none. absurd none;
  does =
      fails_for_memory (record { stopped = stopped_output c notes in0 in1 out0 out1 journal b plays.stopped; line_is = refl; status_is = refl });
  rests = used_rests (tells c notes b.input b.read_failed) in0 in1 out0 out1 (Ended ends.Memory) refl;
}
answers_ended c notes file in0 in1 out0 out1 ends.Memory journal (failed_before p plays same) = let b = plays.breaks in record {
  from = in0;
  to = in1;
  input = b.input;
  read_failed = b.read_failed;
  is_played = (refl, refl);
  has_read = b.has_read;
  quiet = λ none. absurd none;
  does =
      fails_for_memory (record {
        stopped = stopped_output c notes in0 in1 out0 out1 p.journal b plays.stopped;
        line_is = refl;
        status_is = refl;
      });
  rests = used_rests (tells c notes b.input b.read_failed) in0 in1 out0 out1 (Ended ends.Memory) refl;
}
answers_ended c notes file in0 in1 out0 out1 ends.WriteFault journal plays = let b = plays.breaks_at.breaks in record {
  from = in0;
  to = in1;
  input = b.input;
  read_failed = b.read_failed;
  is_played = (refl, refl);
  has_read = b.has_read;
  quiet = λ none. absurd none;
  does =
      fails_to_write (record {
        stopped = stopped_output c notes in0 in1 out0 out1 plays.play.journal b plays.breaks_at.stopped;
        line_is = refl;
        status_is = refl;
      });
  rests = used_rests (tells c notes b.input b.read_failed) in0 in1 out0 out1 (Ended ends.WriteFault) refl;
}

pub answers_played : (c : Configuration) (notes : List LoadNote) (file : List ℕ) (in0 in1 : Input) (out0 out1 : Output) (outcome : Outcome) →
    PlaysTo c notes in0 out0 in1 out1 outcome →
    Answers (tells c notes) (Some (Play file)) in0 in1 out0 out1 outcome
answers_played c notes file in0 in1 out0 out1 Usage plays = absurd plays
answers_played c notes file in0 in1 out0 out1 (CannotRead name) plays = absurd plays
answers_played c notes file in0 in1 out0 out1 (BadDocument fault) plays = absurd plays
answers_played c notes file in0 in1 out0 out1 (BadPattern fault) plays = absurd plays
answers_played c notes file in0 in1 out0 out1 Printed plays = absurd plays
answers_played c notes file in0 in1 out0 out1 (Ended end) plays = answers_ended c notes file in0 in1 out0 out1 end plays.0 plays.1

-- memory was wanting for the machine
plays_none : (c : Configuration) (notes : List LoadNote) (in0 : Input) (out0 : Output) → PlaysTo c notes in0 out0 in0 out0 (Ended ends.Memory)
plays_none c notes in0 out0 = (
  [],
  all_written (record {
    breaks = record { input = []; read_failed = false; has_read = reads_none in0; more = (played c [] false notes).journal; split = refl };
    written = writes_nothing out0;
  }),
)

-- ---- loads of the file that is played

-- loads that are all noted
noted_all : (old new : FileView) (notes : List LoadNote) → HasLoaded old new notes → HasLoadedOrBegun old new notes
noted_all old new notes loaded = record {
  mid = new;
  noted = loaded;
  begun = record { rest = inl (λ k. refl); counts = inl (refl, refl) };
}

-- what a play loaded, by its end
reloads_by : (end : End) (old new : FileView) (notes : List LoadNote) → LoadsBy end old new notes → ReloadsAs Player (Ended end) old new notes
unfolding LoadsBy
reloads_by ends.Exit old new notes loads = (noted_all old new notes loads, λ _. loads)
reloads_by ends.Eof old new notes loads = (noted_all old new notes loads, λ _. loads)
reloads_by ends.AuthRefused old new notes loads = (noted_all old new notes loads, λ _. loads)
reloads_by ends.Stopped old new notes loads = (noted_all old new notes loads, λ _. loads)
reloads_by ends.ReadFault old new notes loads = (noted_all old new notes loads, λ _. loads)
reloads_by ends.WriteFault old new notes loads = (noted_all old new notes loads, λ _. loads)
reloads_by (ends.TooLong len) old new notes loads = (noted_all old new notes loads, λ _. loads)
reloads_by ends.BadLength old new notes loads = (noted_all old new notes loads, λ _. loads)
reloads_by (ends.JournalFull cost limit) old new notes loads = (noted_all old new notes loads, λ _. loads)
reloads_by (ends.Runaway count) old new notes loads = (noted_all old new notes loads, λ _. loads)
reloads_by ends.Memory old new notes loads = (loads, λ not_one. absurd (not_one refl))

pub plays_anew : (c : Configuration) (notes : List LoadNote) (view0 view1 : FileView) (in0 : Input) (out0 : Output) (in1 : Input)
    (out1 : Output) (end : End) (journal : List Entry) → Plays c notes in0 out0 in1 out1 journal end → LoadsBy end view0 view1 notes →
    PlaysAnew c view0 view1 in0 out0 in1 out1 (Ended end)
plays_anew c notes view0 view1 in0 out0 in1 out1 end journal plays loads =
    record { notes = notes; reloaded = reloads_by end view0 view1 notes loads; plays = (journal, plays) }

-- memory was wanting before any
pub plays_nothing : (c : Configuration) (view : FileView) (in0 : Input) (out0 : Output) →
    PlaysAnew c view view in0 out0 in0 out0 (Ended ends.Memory)
unfolding LoadsBy
plays_nothing c view in0 out0 = record {
  notes = [];
  reloaded = reloads_by ends.Memory view view [] (noted_all view view [] (loaded_none view));
  plays = plays_none c [] in0 out0;
}

-- nothing is loaded again where memory was wanting before
pub reloads_none : (asked : Asked) (view : FileView) → ReloadsAs (reloader_of asked) (Ended ends.Memory) view view []
unfolding LoadsBy
reloads_none (Check file) view = (refl, refl)
reloads_none (Hunt file context dest) view = (refl, refl)
reloads_none (Play file) view = reloads_by ends.Memory view view [] (noted_all view view [] (loaded_none view))
reloads_none (Load count start) view = refl

pub reloads_unread : (asked : Asked) (read : Result Configuration DocFault) (view : FileView) →
    ReloadsAs (reloader_read asked read None) (Ended ends.Memory) view view []
reloads_unread asked (Ok c) view = reloads_none asked view
reloads_unread asked (Err fault) view = (refl, refl)

pub reloads_unloaded : (asked : Asked) (file : File) (view : FileView) →
    ReloadsAs (reloader_file asked file None) (Ended ends.Memory) view view []
reloads_unloaded asked (Got bytes) view = reloads_unread asked (config_of bytes) view
reloads_unloaded asked Absent view = (refl, refl)
reloads_unloaded asked Failed view = (refl, refl)

-- ---- loads

-- no read of a load fails
none_failed : (read_failed : Bool) (count : ℕ) → count ≡ cond read_failed (raised 0) 0 → count ≡ 0 → read_failed ≡ false
none_failed true count is none = let one : 0 ≡ raised 0 = sym none ∙ is in absurd (cc)
none_failed false count is none = refl

-- what is told of a play with these counts and this end
abbrev told_counted : ℕ → Tallies → Option End → Told
told_counted count tallies last = record {
  output = unwrap_or (option_map (counts_printed count tallies) last) [];
  line = unwrap_or (option_map line_of_end last) [];
  status = unwrap_or (option_map status_of_end last) 0;
  at_end = unwrap_or (option_map is_eof last) false;
  untouched = false;
}

-- all its calls were made, and the counts were printed
pub loads_counted : (c : Configuration) (notes : List LoadNote) (count start : ℕ) (to in1 : Input) (gone out0 out1 : Output)
    (journal : List Entry) (tallies : Tallies) (outcome : Outcome) →
    Finishes c notes (input_left (load_input count start)) dropped to gone ends.Exit journal → to.faults ≡ 0 →
    tallies ≡ (run_from (empty c) journal).counts → CarriesOutAs (told_text (counts_text count tallies)) in1 out0 out1 outcome →
    Loads c count start out0 out1 outcome
loads_counted c notes count start to in1 gone out0 out1 journal tallies outcome f faults counted does =
    let whole = none_failed f.read_failed to.faults f.has_read.faults faults in
    let end_is = subst (λ (b : Bool). (played c f.input b notes).end ≡ Some ends.Exit) whole f.end_is in
    let journal_is : journal ≡ (played c f.input false notes).journal = subst (λ (b : Bool). journal ≡ (played c f.input b notes).journal) whole
    f.journal_is in
    let counts_are : tallies ≡ (switch_of (played c f.input false notes)).counts =
    counted ∙ ap (λ entries. (run_from (empty c) entries).counts) journal_is
    ∙ ap (λ d. (run_from (empty d) (played c f.input false notes).journal).counts) (sym (config_played c f.input false notes)) in
    let told_is : told_calls count (played c f.input false notes) ≡ told_text (counts_text count tallies) =
    ap (told_counted count (switch_of (played c f.input false notes)).counts) end_is
    ∙ ap (λ (t : Tallies). told_counted count t (Some ends.Exit)) (sym counts_are) in
    record {
      to = to;
      input = f.input;
      has_read = subst (λ (b : Bool). HasRead (input_left (load_input count start)) to f.input b) whole f.has_read;
      faults = faults;
      notes = notes;
      does =
          subst (λ (t : Told). CarriesOutAs t to out0 out1 outcome) (sym told_is) (text_anywhere (counts_text count tallies) in1 to out0 out1
          outcome does);
    }

-- the play came to another end
loads_finished : (c : Configuration) (notes : List LoadNote) (count start : ℕ) (to : Input) (gone out0 : Output) (end : End)
    (journal : List Entry) →
    Finishes c notes (input_left (load_input count start)) dropped to gone end journal → to.faults ≡ 0 →
    ((tallies : Tallies) → counts_printed count tallies end ≡ []) → Loads c count start out0 out0 (Ended end)
loads_finished c notes count start to gone out0 end journal f faults prints =
    let whole = none_failed f.read_failed to.faults f.has_read.faults faults in
    let end_is = subst (λ (b : Bool). (played c f.input b notes).end ≡ Some end) whole f.end_is in
    let counts = (switch_of (played c f.input false notes)).counts in
    let nothing : (told_calls count (played c f.input false notes)).output ≡ [] =
    ap (λ (last : Option End). unwrap_or (option_map (counts_printed count counts) last) []) end_is ∙ prints counts in
    record {
      to = to;
      input = f.input;
      has_read = subst (λ (b : Bool). HasRead (input_left (load_input count start)) to f.input b) whole f.has_read;
      faults = faults;
      notes = notes;
      does = completes (record {
        written = subst (λ (bytes : List ℕ). Writes out0 out0 bytes) (sym nothing) (writes_nothing out0);
        line_is = sym (ap (λ (last : Option End). unwrap_or (option_map line_of_end last) []) end_is);
        status_is = sym (ap (λ (last : Option End). unwrap_or (option_map status_of_end last) 0) end_is);
        at_end = λ h. f.at_end (eof_is end (subst (λ (last : Option End). IsTrue (unwrap_or (option_map is_eof last) false)) end_is h));
      });
    }

-- memory was wanting
pub loads_none : (c : Configuration) (count start : ℕ) (out0 : Output) → Loads c count start out0 out0 (Ended ends.Memory)
loads_none c count start out0 = let none = input_left (load_input count start) in record {
  to = none;
  input = [];
  has_read = reads_none none;
  faults = refl;
  notes = [];
  does = memory_does (told_calls count (played c [] false [])) none out0;
}

-- no write fails of a link that drops what is written
never_stopped : (bytes : List ℕ) → Stopped dropped dropped bytes → ⊥
never_stopped bytes stopped = let one : 0 ≡ raised 0 = stopped.faults in cc

pub loads_ended : (c : Configuration) (notes : List LoadNote) (count start : ℕ) (to : Input) (out0 : Output) (end : End) (journal : List Entry) →
    Plays c notes (input_left (load_input count start)) dropped to dropped journal end → to.faults ≡ 0 → end ≢ ends.Exit →
    Loads c count start out0 out0 (Ended end)
loads_ended c notes count start to out0 ends.Exit journal plays faults other = absurd (other refl)
loads_ended c notes count start to out0 ends.Eof journal plays faults other =
    loads_finished c notes count start to dropped out0 ends.Eof journal plays faults (λ tallies. refl)
loads_ended c notes count start to out0 ends.AuthRefused journal plays faults other =
    loads_finished c notes count start to dropped out0 ends.AuthRefused journal plays faults (λ tallies. refl)
loads_ended c notes count start to out0 ends.Stopped journal plays faults other =
    loads_finished c notes count start to dropped out0 ends.Stopped journal plays faults (λ tallies. refl)
loads_ended c notes count start to out0 ends.ReadFault journal plays faults other =
    loads_finished c notes count start to dropped out0 ends.ReadFault journal plays faults (λ tallies. refl)
loads_ended c notes count start to out0 (ends.TooLong len) journal plays faults other =
    loads_finished c notes count start to dropped out0 (ends.TooLong len) journal plays faults (λ tallies. refl)
loads_ended c notes count start to out0 ends.BadLength journal plays faults other =
    loads_finished c notes count start to dropped out0 ends.BadLength journal plays faults (λ tallies. refl)
loads_ended c notes count start to out0 (ends.JournalFull cost limit) journal plays faults other =
    loads_finished c notes count start to dropped out0 (ends.JournalFull cost limit) journal plays faults (λ tallies. refl)
loads_ended c notes count start to out0 (ends.Runaway entries) journal plays faults other =
    loads_finished c notes count start to dropped out0 (ends.Runaway entries) journal plays faults (λ tallies. refl)
loads_ended c notes count start to out0 ends.Memory journal plays faults other = loads_none c count start out0
loads_ended c notes count start to out0 ends.WriteFault journal plays faults other =
    absurd (never_stopped (bytes_handed c plays.play.journal) plays.breaks_at.stopped)

-- what a load came to is what is told of it
pub answers_loaded : (c : Configuration) (count start : ℕ) (in0 in1 : Input) (out0 out1 : Output) (outcome : Outcome) → in1 ≡ in0 →
    (loads : Loads c count start out0 out1 outcome) →
    Answers (told_asked (Load count start) c loads.notes) (Some (Load count start)) in0 in1 out0 out1 outcome
answers_loaded c count start in0 in1 out0 out1 outcome same loads = record {
  from = input_left (load_input count start);
  to = loads.to;
  input = loads.input;
  read_failed = false;
  is_played = (refl, loads.faults);
  has_read = loads.has_read;
  quiet = λ _. same;
  does = loads.does;
  rests = used_rests (told_calls count (played c loads.input false loads.notes)) in0 in1 out0 out1 outcome refl;
}
