-- What a run of the program comes to.
use Rattle.std.proofs.Common.{◌≡◌, ℕ, Bool, true, false, cond, List, [], Option, None, Some, Result, Ok, Err}
use Rattle.std.proofs.Common.{◌⊎◌, unwrap_or, refl, sym, ap, ◌∙◌, subst, inl, inr}
use Rattle.fs_ports.specs.Ports.{Input, Output, SendDid}
use Rattle.fs_ports.specs.declared.send.Sent.{Sent}
use Rattle.fs_ports.specs.Loads.{LoadCounts, Tells, Counted, MovesOn, next}
use Rattle.fs_ports.specs.declared.files.Load.{Load as File}
use Rattle.fs_ports.specs.declared.files.Load.TheVariants.{Got, Absent, Failed}
use Rattle.fs_load.specs.Document.{load_document}
use Rattle.fs_doc.specs.Reading.{Configuration, config_of}
use Rattle.fs_doc.specs.declared.fault.DocKind.TheVariants.{Memory}
use Rattle.fs_doc.specs.declared.fault.DocFault.{DocFault}
use Rattle.fs_plan.specs.Building.{IsPlanRefusal, sizes_after}
use Rattle.fs_plan.specs.declared.fault.PlanFault.{PlanFault}
use Rattle.fs_plan.specs.declared.fault.PlanFault.TheVariants.{PatternRefused, PatternTooLarge, Memory as NoMemory}
use Rattle.fs_conn.specs.declared.end.End.TheVariants as ends
use Rattle.fs_conn.specs.Filed.{FileView, file_view}
use Rattle.fs_top.specs.Told.{Asked, Play, Load, file_asked, told_words, told_file, told_read, told_built, told_asked}
use Rattle.fs_top.specs.Told.{refused, usage_line, cannot_read_line, fault_line}
use Rattle.fs_top.specs.Told.{pattern_line}
use Rattle.fs_top.specs.Runs.{line_of_outcome, status_of_outcome, CarriesOut}
use Rattle.fs_top.specs.Runs.{Loads, Gives, LoadedAs, Answers, IsPlanBuiltOf, IsBuilt, OverConfig, OverBytes, is_memory, not_read}
use Rattle.fs_top.specs.Runs.{not_built, Runs, RefusesPattern, Ran, LeavesAlone, PlaysAnew, OverPlan, KeepsLoads}
use Rattle.fs_top.specs.Runs.{Library, view_in, view_for, name_of, AreBehind, Reloader, Nobody, Reloads, ReloadsAs}
use Rattle.fs_top.specs.Runs.{reloader_of, reloader_read, reloader_words}
use Rattle.fs_top.specs.declared.outcome.Outcome.{Outcome}
use Rattle.fs_top.specs.declared.outcome.Outcome.TheVariants.{Usage, BadDocument, BadPattern, Ended}
use Rattle.fs_top.proofs.AnswerLaws.{refused_does, memory_does, refused_rests, memory_rests, answers_quiet, tells, answers_played, reloads_none, reloads_unread, reloads_unloaded, answers_loaded}

-- ---- over a dialplan

-- a text was printed, and nothing loaded again
pub plan_alone : (asked : Asked) (c : Configuration) (view : FileView) (in0 in1 : Input) (out0 out1 : Output) (outcome : Outcome) →
    reloader_of asked ≡ Nobody → Answers (told_asked asked c []) (Some asked) in0 in1 out0 out1 outcome →
    OverPlan asked c view view in0 in1 out0 out1 outcome
plan_alone asked c view in0 in1 out0 out1 outcome alone answers = record {
  notes = [];
  reloaded = subst (λ (who : Reloader). ReloadsAs who outcome view view []) (sym alone) (refl, refl);
  answers = answers;
}

pub plan_played : (c : Configuration) (file : List ℕ) (view0 view1 : FileView) (in0 in1 : Input) (out0 out1 : Output) (outcome : Outcome) →
    PlaysAnew c view0 view1 in0 out0 in1 out1 outcome → OverPlan (Play file) c view0 view1 in0 in1 out0 out1 outcome
plan_played c file view0 view1 in0 in1 out0 out1 outcome plays = record {
  notes = plays.notes;
  reloaded = plays.reloaded;
  answers = answers_played c plays.notes file in0 in1 out0 out1 outcome plays.plays;
}

pub plan_loaded : (c : Configuration) (count start : ℕ) (view : FileView) (in0 in1 : Input) (out0 out1 : Output) (outcome : Outcome) →
    in1 ≡ in0 → Loads c count start out0 out1 outcome → OverPlan (Load count start) c view view in0 in1 out0 out1 outcome
plan_loaded c count start view in0 in1 out0 out1 outcome same loads = record {
  notes = loads.notes;
  reloaded = refl;
  answers = answers_loaded c count start in0 in1 out0 out1 outcome same loads;
}

-- ---- over a configuration

-- building patterns left the loads of the file of a name as they were
pub loads_kept : (loads0 loads1 : List ℕ → ℕ → Option File) (counts0 counts1 : LoadCounts) (sizes0 sizes1 : ℕ) (name : List ℕ) →
    (counts1 ≡ counts0) × (loads1 ≡ loads0) →
    KeepsLoads (file_view (loads0 name) counts0 sizes0) (file_view (loads1 name) counts1 sizes1)
loads_kept loads0 loads1 counts0 counts1 sizes0 sizes1 name kept =
    record { loads = ap (λ (loads : List ℕ → ℕ → Option File). loads name) kept.1; counts = kept.0 }

-- no pattern was refused
pub over_plan : (asked : Asked) (c : Configuration) (view0 mid view1 : FileView) (in0 in1 : Input) (out0 out1 : Output) (outcome : Outcome) →
    OverPlan asked c mid view1 in0 in1 out0 out1 outcome → mid.sizes ≡ view0.sizes → KeepsLoads view0 mid →
    OverConfig asked c view0 view1 in0 in1 out0 out1 outcome
over_plan asked c view0 mid view1 in0 in1 out0 out1 outcome plan sizes kept = record {
  built = None;
  store = mid;
  notes = plan.notes;
  built_told = sizes;
  kept = kept;
  reloaded = plan.reloaded;
  answers = plan.answers;
}

-- one was refused
over_refused : (asked : Asked) (c : Configuration) (fault : PlanFault) (view0 view1 : FileView) (in0 : Input) (out0 : Output) →
    RefusesPattern c.contexts fault view0.sizes view1.sizes → KeepsLoads view0 view1 →
    OverConfig asked c view0 view1 in0 in0 out0 out0 (BadPattern fault)
over_refused asked c fault view0 view1 in0 out0 refused kept = record {
  built = Some fault;
  store = view1;
  notes = [];
  built_told = refused;
  kept = kept;
  reloaded = (refl, refl);
  answers = answers_quiet (told_built asked c (Some fault) []) (Some asked) in0 in0 out0 out0 (BadPattern fault) refl
      (λ to. refused_does to out0 (pattern_line fault) 3 (BadPattern fault) refl refl)
      (refused_rests in0 out0 (pattern_line fault) 3 (BadPattern fault) refl refl);
}

-- memory was wanting for them
over_unbuilt : (asked : Asked) (c : Configuration) (view0 view1 : FileView) (in0 : Input) (out0 : Output) → view1.sizes ≡ view0.sizes →
    KeepsLoads view0 view1 →
    OverConfig asked c view0 view1 in0 in0 out0 out0 (Ended ends.Memory)
over_unbuilt asked c view0 view1 in0 out0 sizes kept = record {
  built = None;
  store = view1;
  notes = [];
  built_told = sizes;
  kept = kept;
  reloaded = reloads_none asked view1;
  answers =
      answers_quiet (told_built asked c None []) (Some asked) in0 in0 out0 out0 (Ended ends.Memory) refl
      (λ to. memory_does (told_built asked c None [] [] false) to out0) (memory_rests (told_built asked c None [] [] false) in0 out0);
}

-- the dialplan was not built
pub over_fault : (asked : Asked) (c : Configuration) (fault : PlanFault) (view0 view1 : FileView) (in0 : Input) (out0 : Output) →
    IsPlanRefusal c.contexts fault → view1.sizes ≡ sizes_after fault view0.sizes → KeepsLoads view0 view1 →
    OverConfig asked c view0 view1 in0 in0 out0 out0 (not_built fault)
over_fault asked c NoMemory view0 view1 in0 out0 refusal sizes kept = over_unbuilt asked c view0 view1 in0 out0 sizes kept
over_fault asked c (PatternRefused extension condition) view0 view1 in0 out0 refusal sizes kept =
    over_refused asked c (PatternRefused extension condition) view0 view1 in0 out0
    (record { refusal = refusal; no_want = λ e. absurd (cc); sizes = sizes }) kept
over_fault asked c (PatternTooLarge extension condition) view0 view1 in0 out0 refusal sizes kept =
    over_refused asked c (PatternTooLarge extension condition) view0 view1 in0 out0
    (record { refusal = refusal; no_want = λ e. absurd (cc); sizes = sizes }) kept

-- ---- over the bytes of a document

-- a pattern of what the bytes are read as
built_of : (bytes : List ℕ) (c : Configuration) (built : Option PlanFault) (sizes0 sizes1 : ℕ) → config_of bytes ≡ Ok c →
    IsPlanBuiltOf c built sizes0 sizes1 → IsBuilt (Got bytes) built sizes0 sizes1
built_of bytes c None sizes0 sizes1 reads told = told
built_of bytes c (Some fault) sizes0 sizes1 reads told = (c, reads, told)

pub over_read : (asked : Asked) (bytes : List ℕ) (c : Configuration) (view0 view1 : FileView) (in0 in1 : Input) (out0 out1 : Output)
    (outcome : Outcome) → config_of bytes ≡ Ok c →
    OverConfig asked c view0 view1 in0 in1 out0 out1 outcome → OverBytes asked bytes view0 view1 in0 in1 out0 out1 outcome
over_read asked bytes c view0 view1 in0 in1 out0 out1 outcome reads over = record {
  built = over.built;
  store = over.store;
  notes = over.notes;
  built_told = built_of bytes c over.built view0.sizes over.store.sizes reads over.built_told;
  kept = over.kept;
  reloaded =
      subst (λ (r : Result Configuration DocFault). ReloadsAs (reloader_read asked r over.built) outcome over.store view1 over.notes)
      (sym reads) over.reloaded;
  answers =
      subst (λ (r : Result Configuration DocFault). Answers (told_read asked r over.built over.notes) (Some asked) in0 in1 out0 out1 outcome)
      (sym reads) over.answers;
}

-- the loads are as they were where nothing was done with the files
nothing_kept : (view : FileView) → KeepsLoads view view
nothing_kept view = record { loads = refl; counts = refl }

over_faulty : (asked : Asked) (bytes : List ℕ) (fault : DocFault) (view : FileView) (in0 : Input) (out0 : Output) →
    config_of bytes ≡ Err fault →
    OverBytes asked bytes view view in0 in0 out0 out0 (BadDocument fault)
over_faulty asked bytes fault view in0 out0 reads = record {
  built = None;
  store = view;
  notes = [];
  built_told = refl;
  kept = nothing_kept view;
  reloaded =
      subst (λ (r : Result Configuration DocFault). ReloadsAs (reloader_read asked r None) (BadDocument fault) view view [])
      (sym reads) (refl, refl);
  answers =
      subst (λ (r : Result Configuration DocFault). Answers (told_read asked r None []) (Some asked) in0 in0 out0 out0 (BadDocument fault))
      (sym reads)
      (answers_quiet (told_read asked (Err fault) None []) (Some asked) in0 in0 out0 out0 (BadDocument fault) refl
      (λ to. refused_does to out0 (fault_line fault) 3 (BadDocument fault) refl refl)
      (refused_rests in0 out0 (fault_line fault) 3 (BadDocument fault) refl refl));
}

over_unread : (asked : Asked) (bytes : List ℕ) (view : FileView) (in0 : Input) (out0 : Output) →
    OverBytes asked bytes view view in0 in0 out0 out0 (Ended ends.Memory)
over_unread asked bytes view in0 out0 = record {
  built = None;
  store = view;
  notes = [];
  built_told = refl;
  kept = nothing_kept view;
  reloaded = reloads_unread asked (config_of bytes) view;
  answers =
      answers_quiet (told_file asked (Got bytes) None []) (Some asked) in0 in0 out0 out0 (Ended ends.Memory) refl
      (λ to. memory_does (told_file asked (Got bytes) None [] [] false) to out0)
      (memory_rests (told_file asked (Got bytes) None [] [] false) in0 out0);
}

-- the document was not read: it has this fault, or memory was wanting
pub over_answer : (asked : Asked) (bytes : List ℕ) (fault : DocFault) (view : FileView) (in0 : Input) (out0 : Output) →
    (fault ≡ record { at = 0; kind = Memory }) ⊎ (config_of bytes ≡ Err fault) →
    OverBytes asked bytes view view in0 in0 out0 out0 (not_read fault)
over_answer asked bytes fault view in0 out0 why = by (is_memory fault.kind) refl
  where
    by : (memory : Bool) → is_memory fault.kind ≡ memory →
        OverBytes asked bytes view view in0 in0 out0 out0 (cond memory (Ended ends.Memory) (BadDocument fault))
    by true is = over_unread asked bytes view in0 out0
    by false is = over_faulty asked bytes fault view in0 out0 (reads why)
      where
        reads : (fault ≡ record { at = 0; kind = Memory }) ⊎ (config_of bytes ≡ Err fault) → config_of bytes ≡ Err fault
        reads (inl e) = let same : is_memory fault.kind ≡ true = ap (λ f. is_memory f.kind) e in absurd (cc)
        reads (inr e) = e

-- ---- over a file

pub runs_usage : (files : Library) (in0 : Input) (out0 : Output) → Runs None files files in0 in0 out0 out0 Usage
runs_usage files in0 out0 = record {
  file = Absent;
  built = None;
  store = view_in files [];
  notes = [];
  file_told = tt;
  built_told = refl;
  loaded = λ _. refl;
  behind = λ _. tt;
  reloaded = (refl, refl);
  answers =
      answers_quiet (told_words None Absent None []) None in0 in0 out0 out0 Usage refl
      (λ to. refused_does to out0 usage_line 2 Usage refl refl) (refused_rests in0 out0 usage_line 2 Usage refl refl);
  usage = λ _. refl;
}

-- what the file gave whose name is asked for, and what loading it did
pub file_given : (asked : Asked) (name : List ℕ) (next_load : List ℕ → Option File) (file : File) → file_asked asked ≡ Some name →
    Tells (next_load name) file → Gives next_load (file_asked asked) file
file_given asked name next_load file named tells = subst (λ (of : Option (List ℕ)). Gives next_load of file) (sym named) tells

pub file_loaded : (asked : Asked) (name : List ℕ) (counts0 counts1 : LoadCounts) (file : File) → file_asked asked ≡ Some name →
    Counted counts0 counts1 file → LoadedAs (file_asked asked) counts0 counts1 file
file_loaded asked name counts0 counts1 file named counted =
    subst (λ (of : Option (List ℕ)). LoadedAs of counts0 counts1 file) (sym named) counted

-- the loads to come are those behind that one
file_behind : (asked : Asked) (name : List ℕ) (files0 files1 : Library) → file_asked asked ≡ Some name →
    MovesOn files0.loads files1.loads name → AreBehind files0 (view_in files1 (name_of asked)) (file_asked asked)
file_behind asked name files0 files1 named moves =
    subst (λ (of : Option (List ℕ)). AreBehind files0 (view_in files1 (unwrap_or of [])) of) (sym named) moves

-- they still are where they were kept
behind_kept : (files : Library) (old new : FileView) (of : Option (List ℕ)) → new.loads ≡ old.loads → AreBehind files old of →
    AreBehind files new of
behind_kept files old new None kept behind = tt
behind_kept files old new (Some name) kept behind = λ k. ap (λ (loads : ℕ → Option File). loads k) kept ∙ behind k

-- the document of a load, for which no file is loaded
document_given : (asked : Asked) (next_load : List ℕ → Option File) → file_asked asked ≡ None →
    Gives next_load (file_asked asked) (Got load_document)
document_given asked next_load unnamed = subst (λ (of : Option (List ℕ)). Gives next_load of (Got load_document)) (sym unnamed) refl

none_loaded : (asked : Asked) (counts : LoadCounts) (file : File) → file_asked asked ≡ None →
    LoadedAs (file_asked asked) counts counts file
none_loaded asked counts file unnamed = subst (λ (of : Option (List ℕ)). LoadedAs of counts counts file) (sym unnamed) refl

none_behind : (asked : Asked) (files : Library) (view : FileView) → file_asked asked ≡ None → AreBehind files view (file_asked asked)
none_behind asked files view unnamed = subst (λ (of : Option (List ℕ)). AreBehind files view of) (sym unnamed) tt

-- what was done over the bytes that were given, behind that load if there was one
runs_bytes : (asked : Asked) (bytes : List ℕ) (files0 files1 files2 : Library) (in0 in1 : Input) (out0 out1 : Output) (outcome : Outcome) →
    Gives (next files0.loads) (file_asked asked) (Got bytes) → LoadedAs (file_asked asked) files0.counts files1.counts (Got bytes) →
    AreBehind files0 (view_in files1 (name_of asked)) (file_asked asked) → files1.sizes ≡ files0.sizes →
    OverBytes asked bytes (view_in files1 (name_of asked)) (view_in files2 (name_of asked)) in0 in1 out0 out1 outcome →
    Runs (Some asked) files0 files2 in0 in1 out0 out1 outcome
runs_bytes asked bytes files0 files1 files2 in0 in1 out0 out1 outcome tells counted behind sizes over = record {
  file = Got bytes;
  built = over.built;
  store = over.store;
  notes = over.notes;
  file_told = tells;
  built_told = subst (λ (n : ℕ). IsBuilt (Got bytes) over.built n over.store.sizes) sizes over.built_told;
  loaded = λ _. subst (λ (n : LoadCounts). LoadedAs (file_asked asked) files0.counts n (Got bytes)) (sym over.kept.counts) counted;
  behind = λ _. behind_kept files0 (view_in files1 (name_of asked)) over.store (file_asked asked) over.kept.loads behind;
  reloaded = over.reloaded;
  answers = over.answers;
  usage = λ none. absurd (cc);
}

-- the file gave these bytes
pub runs_got : (asked : Asked) (name bytes : List ℕ) (files0 files1 files2 : Library) (in0 in1 : Input) (out0 out1 : Output)
    (outcome : Outcome) → file_asked asked ≡ Some name → Tells (files0.loads name 0) (Got bytes) →
    MovesOn files0.loads files1.loads name → Counted files0.counts files1.counts (Got bytes) → files1.sizes ≡ files0.sizes →
    OverBytes asked bytes (view_in files1 (name_of asked)) (view_in files2 (name_of asked)) in0 in1 out0 out1 outcome →
    Runs (Some asked) files0 files2 in0 in1 out0 out1 outcome
runs_got asked name bytes files0 files1 files2 in0 in1 out0 out1 outcome named tells moves counted sizes over =
    runs_bytes asked bytes files0 files1 files2 in0 in1 out0 out1 outcome
    (file_given asked name (next files0.loads) (Got bytes) named tells)
    (file_loaded asked name files0.counts files1.counts (Got bytes) named counted) (file_behind asked name files0 files1 named moves) sizes over

-- they are those of the document of a load
pub runs_given : (asked : Asked) (files0 files2 : Library) (in0 in1 : Input) (out0 out1 : Output) (outcome : Outcome) →
    file_asked asked ≡ None →
    OverBytes asked load_document (view_in files0 (name_of asked)) (view_in files2 (name_of asked)) in0 in1 out0 out1 outcome →
    Runs (Some asked) files0 files2 in0 in1 out0 out1 outcome
runs_given asked files0 files2 in0 in1 out0 out1 outcome unnamed over =
    runs_bytes asked load_document files0 files0 files2 in0 in1 out0 out1 outcome (document_given asked (next files0.loads) unnamed)
    (none_loaded asked files0.counts (Got load_document) unnamed) (none_behind asked files0 (view_in files0 (name_of asked)) unnamed) refl
    over

-- the line names the file that is asked for
named_line : (asked : Asked) (name : List ℕ) → file_asked asked ≡ Some name → (outcome : Outcome) →
    line_of_outcome outcome ≡ cannot_read_line name → line_of_outcome outcome ≡ cannot_read_line (unwrap_or (file_asked asked) [])
named_line asked name named outcome line_is =
    line_is ∙ ap (λ (of : Option (List ℕ)). cannot_read_line (unwrap_or of [])) (sym named)

-- the file was not there, or could not be read
pub runs_absent : (asked : Asked) (name : List ℕ) (files0 files1 : Library) (in0 : Input) (out0 : Output) (outcome : Outcome) →
    file_asked asked ≡ Some name → Tells (files0.loads name 0) Absent → MovesOn files0.loads files1.loads name →
    Counted files0.counts files1.counts Absent → files1.sizes ≡ files0.sizes →
    line_of_outcome outcome ≡ cannot_read_line name → status_of_outcome outcome ≡ 4 →
    Runs (Some asked) files0 files1 in0 in0 out0 out0 outcome
runs_absent asked name files0 files1 in0 out0 outcome named tells moves counted sizes line_is four = record {
  file = Absent;
  built = None;
  store = view_in files1 (name_of asked);
  notes = [];
  file_told = file_given asked name (next files0.loads) Absent named tells;
  built_told = sizes;
  loaded = λ _. file_loaded asked name files0.counts files1.counts Absent named counted;
  behind = λ _. file_behind asked name files0 files1 named moves;
  reloaded = (refl, refl);
  answers =
      answers_quiet (told_file asked Absent None []) (Some asked) in0 in0 out0 out0 outcome refl
      (λ to. refused_does to out0 (cannot_read_line (unwrap_or (file_asked asked) [])) 4 outcome (named_line asked name named outcome line_is)
      four)
      (refused_rests in0 out0 (cannot_read_line (unwrap_or (file_asked asked) [])) 4 outcome (named_line asked name named outcome line_is) four);
  usage = λ none. absurd (cc);
}

pub runs_failed : (asked : Asked) (name : List ℕ) (files0 files1 : Library) (in0 : Input) (out0 : Output) (outcome : Outcome) →
    file_asked asked ≡ Some name → Tells (files0.loads name 0) Failed → MovesOn files0.loads files1.loads name →
    Counted files0.counts files1.counts Failed → files1.sizes ≡ files0.sizes →
    line_of_outcome outcome ≡ cannot_read_line name → status_of_outcome outcome ≡ 4 →
    Runs (Some asked) files0 files1 in0 in0 out0 out0 outcome
runs_failed asked name files0 files1 in0 out0 outcome named tells moves counted sizes line_is four = record {
  file = Failed;
  built = None;
  store = view_in files1 (name_of asked);
  notes = [];
  file_told = file_given asked name (next files0.loads) Failed named tells;
  built_told = sizes;
  loaded = λ _. file_loaded asked name files0.counts files1.counts Failed named counted;
  behind = λ _. file_behind asked name files0 files1 named moves;
  reloaded = (refl, refl);
  answers =
      answers_quiet (told_file asked Failed None []) (Some asked) in0 in0 out0 out0 outcome refl
      (λ to. refused_does to out0 (cannot_read_line (unwrap_or (file_asked asked) [])) 4 outcome (named_line asked name named outcome line_is)
      four)
      (refused_rests in0 out0 (cannot_read_line (unwrap_or (file_asked asked) [])) 4 outcome (named_line asked name named outcome line_is) four);
  usage = λ none. absurd (cc);
}

-- some answer is the one that is told
some_load : (told : Option File) → (load : File) × Tells told load
some_load None = (Absent, tt)
some_load (Some load) = (load, refl)

some_given : (next_load : List ℕ → Option File) (of : Option (List ℕ)) → (file : File) × Gives next_load of file
some_given next_load None = (Got load_document, refl)
some_given next_load (Some name) = some_load (next_load name)

-- the file could not be loaded for want of memory
pub runs_unloaded : (asked : Asked) (files0 files1 : Library) (in0 : Input) (out0 : Output) → files1.sizes ≡ files0.sizes →
    Runs (Some asked) files0 files1 in0 in0 out0 out0 (Ended ends.Memory)
runs_unloaded asked files0 files1 in0 out0 sizes = let load = some_given (next files0.loads) (file_asked asked) in record {
  file = load.0;
  built = None;
  store = view_in files1 (name_of asked);
  notes = [];
  file_told = load.1;
  built_told = sizes;
  loaded = λ not_one. absurd (not_one refl);
  behind = λ not_one. absurd (not_one refl);
  reloaded = reloads_unloaded asked load.0 (view_in files1 (name_of asked));
  answers =
      answers_quiet (told_file asked load.0 None []) (Some asked) in0 in0 out0 out0 (Ended ends.Memory) refl
      (λ to. memory_does (told_file asked load.0 None [] [] false) to out0)
      (memory_rests (told_file asked load.0 None [] [] false) in0 out0);
  usage = λ none. absurd (cc);
}

-- ---- the whole run

pub ran : (asked : Option Asked) (files0 files1 : Library) (in0 in1 : Input) (out0 out1 err0 err1 : Output) (outcome : Outcome) (sent : Sent)
    (status : ℕ) →
    Runs asked files0 files1 in0 in1 out0 out1 outcome → SendDid err0 err1 sent (line_of_outcome outcome) →
    status ≡ status_of_outcome outcome →
    Ran asked files0 files1 in0 in1 out0 out1 err0 err1 status
ran asked files0 files1 in0 in1 out0 out1 err0 err1 outcome sent status runs says is = record {
  file = runs.file;
  built = runs.built;
  store = runs.store;
  notes = runs.notes;
  from = runs.answers.from;
  to = runs.answers.to;
  input = runs.answers.input;
  read_failed = runs.answers.read_failed;
  line = line_of_outcome outcome;
  sent = sent;
  file_told = runs.file_told;
  built_told = runs.built_told;
  loaded = λ not_1. runs.loaded (λ one. not_1 (is ∙ one));
  behind = λ not_1. runs.behind (λ one. not_1 (is ∙ one));
  reloaded =
      subst (λ (n : ℕ). Reloads (reloader_words asked runs.file runs.built) n runs.store (view_for asked files1) runs.notes) (sym is)
      runs.reloaded;
  is_played = runs.answers.is_played;
  has_read = runs.answers.has_read;
  quiet = runs.answers.quiet;
  does =
      subst (λ (n : ℕ). CarriesOut (told_words asked runs.file runs.built runs.notes runs.answers.input runs.answers.read_failed)
      runs.answers.to out0 out1 (line_of_outcome outcome) n) (sym is) runs.answers.does;
  rests = λ left.
      subst (λ (n : ℕ). LeavesAlone (told_words asked runs.file runs.built runs.notes runs.answers.input runs.answers.read_failed) in0 in1
      out0 out1 (line_of_outcome outcome) n) (sym is) (runs.answers.rests left);
  said = says;
}
