-- A dialplan that is loaded anew: what is noted of a load, and what comes of it.
use Rattle.std.specs.Prelude.{◌≡◌, ℕ, List, [], ◌++◌, Bool, true, false, if◌then◌else◌, Option, None, Some, Result, Ok, Err, codes}
use Rattle.std.specs.Fmt.{decimal}
use Rattle.fs_text.specs.Texts.{Text}
use Rattle.fs_vars.specs.Variables.{Variables}
use Rattle.fs_ports.specs.Counts.{raised}
use Rattle.fs_ports.specs.Loads.{LoadCounts}
use Rattle.fs_ports.specs.declared.files.Load.{Load}
use Rattle.fs_ports.specs.declared.files.Load.TheVariants as answer
use Rattle.fs_plan.specs.Building.{HaveReadings, IsPlanRefusal, patterns_in}
use Rattle.fs_plan.specs.declared.fault.PlanFault.TheVariants as unbuilt
use Rattle.fs_doc.specs.declared.fault.DocFault.{DocFault}
use Rattle.fs_doc.specs.Dialplans.{Context}
use Rattle.fs_doc.specs.Faults.{kind_name}
use Rattle.fs_doc.specs.Reading.{Configuration, config_of}
use Rattle.fs_state.specs.declared.job.Job.{Job}
use Rattle.fs_state.specs.declared.job.JobWork.{JobWork}
use Rattle.fs_state.specs.declared.job.JobWork.TheVariants as work
use Rattle.fs_state.specs.Switch.{Switch, reloaded, job_of, passes_limit, is_full_of_jobs}
use Rattle.fs_machine.specs.declared.entry.Entry.{Entry}
use Rattle.fs_machine.specs.declared.entry.Act.TheVariants.{Loaded}
use Rattle.fs_machine.specs.declared.loading.NewPlan.{NewPlan}
use Rattle.fs_machine.specs.declared.note.LoadNote.{LoadNote}
use Rattle.fs_machine.specs.declared.note.LoadNote.TheVariants.{Ready, DocRefused, PatternRefused, PatternTooLarge, Absent, Failed}
use Rattle.fs_machine.specs.declared.owing.Giver.{Giver}
use Rattle.fs_machine.specs.Done.{Done, says, no_reply_yet}
use Rattle.fs_machine.specs.Originations.{set_all}
use Rattle.fs_machine.specs.Owing.{after_job_begin, after_job_end}
use Rattle.fs_machine.specs.Texts.{limit_passed, too_many_jobs}

-- ---- who waits for a load

-- a job of this work does
abbrev pub is_loading : JobWork → Bool
is_loading work.Run = false
is_loading (work.Sleep until) = false
is_loading (work.Originate orig winner caller) = false
is_loading work.Load = true

-- what may be there is such a job
abbrev pub is_loading_in : Option Job → Bool
is_loading_in None = false
is_loading_in (Some job) = is_loading job.work

-- the job of a number is there, and waits for a load
abbrev pub waits_for_load : ℕ → Switch → Bool
waits_for_load number s = is_loading_in (job_of s number)

-- ---- what a load is answered

-- the document was loaded
unfoldable pub loaded_text : Text
loaded_text = codes "+OK [Success]\n"

-- it cannot be read
unfoldable pub unreadable_text : Text
unreadable_text = codes "-ERR cannot read\n"

-- the journal leaves no room for a load
unfoldable pub journal_limit_text : Text
journal_limit_text = codes "-ERR journal limit\n"

-- the fault of the document, by its kind and its offset
unfoldable pub document_fault_text : DocFault → Text
document_fault_text fault = codes "-ERR " ++ (kind_name fault.kind ++ (codes " at " ++ (decimal fault.at ++ codes "\n")))

-- where the pattern stands that was refused
abbrev pub pattern_place : ℕ → ℕ → Text
pattern_place extension condition = decimal extension ++ (codes " condition " ++ (decimal condition ++ codes "\n"))

-- a pattern is none, or nested too deep
unfoldable pub pattern_refused_text : ℕ → ℕ → Text
pattern_refused_text extension condition = codes "-ERR pattern refused in extension " ++ pattern_place extension condition

-- a pattern is too large
unfoldable pub pattern_too_large_text : ℕ → ℕ → Text
pattern_too_large_text extension condition = codes "-ERR pattern too large in extension " ++ pattern_place extension condition

-- ---- what comes of a load

-- the switch behind a load, and what it is answered
pub record Outcome : Type 0 where
  pub state : Switch
  pub answer : Text

-- it is answered so, and nothing changes
abbrev pub answers : Text → Switch → Outcome
answers text s = record { state = s; answer = text }

-- with these globals the contexts of a configuration come into force, unless there are none
abbrev pub taken_over : Configuration → Option Variables → Switch → Outcome
taken_over config None s = answers limit_passed s
taken_over config (Some globals) s = answers loaded_text (record (reloaded config s) { globals = globals })

-- a document comes into force: its contexts, and its globals over those that are there; the settings stay
abbrev pub document_done : Result Configuration DocFault → Switch → Outcome
document_done (Ok config) s = taken_over config (set_all config.globals.pairs s.globals) s
document_done (Err fault) s = answers (document_fault_text fault) s

-- what is wrong with a document that was refused
abbrev pub refused_document_text : Result Configuration DocFault → Text
refused_document_text (Ok config) = []
refused_document_text (Err fault) = document_fault_text fault

-- what comes of a load by what is noted of it
unfoldable pub load_outcome : LoadNote → Switch → Outcome
load_outcome (Ready text) s = document_done (config_of text) s
load_outcome (DocRefused text) s = answers (refused_document_text (config_of text)) s
load_outcome (PatternRefused text extension condition) s = answers (pattern_refused_text extension condition) s
load_outcome (PatternTooLarge text extension condition) s = answers (pattern_too_large_text extension condition) s
load_outcome Absent s = answers unreadable_text s
load_outcome Failed s = answers unreadable_text s

-- the job of a number ends by it, if it is there and waits for a load
abbrev pub load_ended : ℕ → Option Job → Outcome → Switch → Switch
load_ended number None done s = s
load_ended number (Some job) done s =
    if is_loading job.work then after_job_end number job.asker done.answer done.state else s

-- a load is noted for the job of a number
unfoldable pub after_load : LoadNote → ℕ → Switch → Switch
after_load note number s = load_ended number (job_of s number) (load_outcome note s) s

-- ---- the command

-- the file is to be read again, unless there are too many jobs, or the journal leaves no room for that beside the largest command
abbrev pub reload_begun : Giver → Switch → Done
reload_begun by s =
    if is_full_of_jobs s then says too_many_jobs s
    else if passes_limit 1114241 s then says journal_limit_text s
    else no_reply_yet (after_job_begin by work.Load s)

-- ---- what is submitted

-- the entry that notes a load for the job of a number at a moment
abbrev pub load_at : ℕ → ℕ → LoadNote → Entry
load_at moment number note = record { moment = moment; act = Loaded number note }

-- these bytes are a document
abbrev pub Spells : Text → Type 0
Spells text = (config : Configuration) × (config_of text ≡ Ok config)

-- what was read and built for a note, if anything was, and the fault that was found
abbrev pub IsLoadOf : LoadNote → Option (Configuration × List Context) → Option DocFault → Type 0
IsLoadOf (Ready text) None fault = ⊥
IsLoadOf (Ready text) (Some built) fault = (config_of text ≡ Ok built.0) × (built.1 ≡ built.0.contexts)
IsLoadOf (DocRefused text) built None = ⊥
IsLoadOf (DocRefused text) built (Some fault) = (config_of text ≡ Err fault) × (built ≡ None)
IsLoadOf (PatternRefused text extension condition) built fault = Spells text × (built ≡ None)
IsLoadOf (PatternTooLarge text extension condition) built fault = Spells text × (built ≡ None)
IsLoadOf Absent built fault = built ≡ None
IsLoadOf Failed built fault = built ≡ None

-- these bytes are the document of this configuration
abbrev pub IsSpelt : Text → Configuration → Type 0
IsSpelt text config = config_of text ≡ Ok config

-- A load as it is submitted. What was built is there just where the document is to come into force, and is what its bytes say; one that is
-- refused has the fault that is told.
abbrev pub IsLoad : NewPlan → Type 0
IsLoad load = IsLoadOf load.note load.built load.fault

-- ---- what is noted of what files answer

-- a note of a document of these bytes
abbrev pub IsOfDocument : Text → LoadNote → Type 0
IsOfDocument bytes (Ready text) = text ≡ bytes
IsOfDocument bytes (DocRefused text) = text ≡ bytes
IsOfDocument bytes (PatternRefused text extension condition) = text ≡ bytes
IsOfDocument bytes (PatternTooLarge text extension condition) = text ≡ bytes
IsOfDocument bytes Absent = ⊥
IsOfDocument bytes Failed = ⊥

-- the note of what files answered
abbrev pub IsNoteOfLoad : Load → LoadNote → Type 0
IsNoteOfLoad (answer.Got bytes) note = IsOfDocument bytes note
IsNoteOfLoad answer.Absent note = note ≡ Absent
IsNoteOfLoad answer.Failed note = note ≡ Failed

-- the note of what they tell that they will answer, where they tell it
abbrev pub IsNoteOf : Option Load → LoadNote → Type 0
IsNoteOf None note = Unit {0}
IsNoteOf (Some told) note = IsNoteOfLoad told note

-- the document is what its note says: it has a fault, or its patterns have a reading, or the first that has none is named; one that is too
-- large has none before it without a reading
abbrev pub IsBuiltAsNoted : LoadNote → Type 0
IsBuiltAsNoted (Ready text) = (config : Configuration) × IsSpelt text config × HaveReadings (patterns_in config.contexts)
IsBuiltAsNoted (DocRefused text) = (fault : DocFault) × (config_of text ≡ Err fault)
IsBuiltAsNoted (PatternRefused text extension condition) =
    (config : Configuration) × IsSpelt text config × IsPlanRefusal config.contexts (unbuilt.PatternRefused extension condition)
IsBuiltAsNoted (PatternTooLarge text extension condition) =
    (config : Configuration) × IsSpelt text config × IsPlanRefusal config.contexts (unbuilt.PatternTooLarge extension condition)
IsBuiltAsNoted Absent = Unit {0}
IsBuiltAsNoted Failed = Unit {0}

-- what building a document made of the count of patterns that were too large
abbrev pub CountsTooLarge : LoadNote → ℕ → ℕ → Type 0
CountsTooLarge (PatternTooLarge text extension condition) old new = new ≡ raised old
CountsTooLarge _ old new = new ≡ old

-- what a load made of the counts of files
abbrev pub CountsNote : LoadNote → LoadCounts → LoadCounts → Type 0
CountsNote Absent old new = new ≡ record old { absences = raised old.absences }
CountsNote Failed old new = new ≡ record old { faults = raised old.faults }
CountsNote _ old new = new ≡ old

-- and of all counts
abbrev pub CountsLoad : LoadNote → LoadCounts → LoadCounts → ℕ → ℕ → Type 0
CountsLoad note old new sizes0 sizes1 = CountsNote note old new × CountsTooLarge note sizes0 sizes1
