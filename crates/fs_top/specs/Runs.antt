-- What a run of the program does, and the causes of its statuses.
use Rattle.std.specs.Prelude.{◌≡◌, ◌≢◌, ℕ, ◌+◌, Bool, true, false, IsTrue, List, All, [], ◌++◌, Option, None, Some, IfSome, unwrap_or, Ok, Err, ◌⊎◌}
use Rattle.std.specs.Prelude.{Result}
use Rattle.std.specs.Prelude.{if◌then◌else◌}
use Rattle.std.specs.Io.KnownBytes.{IsAtEnd}
use Rattle.fs_ports.specs.Counts.{raised}
use Rattle.fs_ports.specs.Ports.{Input, Output, Writes, Stopped, SendDid}
use Rattle.fs_ports.specs.declared.send.Sent.{Sent}
use Rattle.fs_ports.specs.Loads.{LoadCounts, Tells, Counted, next}
use Rattle.fs_ports.specs.declared.files.Load.{Load as File}
use Rattle.fs_ports.specs.declared.files.Load.TheVariants.{Got, Absent, Failed}
use Rattle.fs_load.specs.Calls.{load_input, input_left}
use Rattle.fs_load.specs.Document.{load_document}
use Rattle.fs_frame.specs.Block.{fault_of}
use Rattle.fs_frame.specs.Blocks.{rest_of}
use Rattle.fs_frame.specs.declared.fault.Fault.{Fault}
use Rattle.fs_doc.specs.Dialplans.{Context}
use Rattle.fs_doc.specs.Reading.{Configuration, config_of}
use Rattle.fs_doc.specs.declared.fault.DocKind.{DocKind}
use Rattle.fs_doc.specs.declared.fault.DocKind.TheVariants as kind
use Rattle.fs_doc.specs.declared.fault.DocFault.{DocFault}
use Rattle.fs_plan.specs.Building.{IsNoPattern, patterns_in, IsPlanRefusal, sizes_after}
use Rattle.fs_plan.specs.declared.fault.PlanFault.{PlanFault}
use Rattle.fs_plan.specs.declared.fault.PlanFault.TheVariants.{PatternRefused, PatternTooLarge, Memory as NoMemory}
use Rattle.fs_machine.specs.declared.entry.Entry.{Entry}
use Rattle.fs_conn.specs.declared.end.End.TheVariants as ends
use Rattle.fs_conn.specs.Play.{switch_of, end_for, played}
use Rattle.fs_conn.specs.Turns.{HasRead, Plays}
use Rattle.fs_conn.specs.Ends.{IsFullAt, IsFullForLoadAt}
use Rattle.fs_conn.specs.Filed.{FileView, file_view}
use Rattle.fs_conn.specs.Loads.{HasLoaded, HasLoadedOrBegun}
use Rattle.fs_machine.specs.declared.note.LoadNote.{LoadNote}
use Rattle.fs_top.specs.Told.{Told, Asked, Check, Hunt, Play, Load, file_asked, told_calls, told_asked, told_built, told_file, told_words}
use Rattle.fs_top.specs.Told.{line_of_end, status_of_end, usage_line, cannot_read_line, fault_line, pattern_line, write_fault_line, memory_line}
use Rattle.fs_top.specs.declared.outcome.Outcome.{Outcome}
use Rattle.fs_top.specs.declared.outcome.Outcome.TheVariants.{Usage, CannotRead, BadDocument, BadPattern, Printed, Ended}

-- the line of an outcome
abbrev pub line_of_outcome : Outcome → List ℕ
line_of_outcome Usage = usage_line
line_of_outcome (CannotRead name) = cannot_read_line name.now
line_of_outcome (BadDocument fault) = fault_line fault
line_of_outcome (BadPattern fault) = pattern_line fault
line_of_outcome Printed = []
line_of_outcome (Ended end) = line_of_end end

-- the status of an outcome
abbrev pub status_of_outcome : Outcome → ℕ
status_of_outcome Usage = 2
status_of_outcome (CannotRead name) = 4
status_of_outcome (BadDocument fault) = 3
status_of_outcome (BadPattern fault) = 3
status_of_outcome Printed = 0
status_of_outcome (Ended end) = status_of_end end

-- what playing a connection came to, over a switch of this configuration, where these are the notes of its loads
abbrev pub PlaysTo : Configuration → List LoadNote → Input → Output → Input → Output → Outcome → Type 0
PlaysTo c notes in0 out0 in1 out1 Usage = ⊥
PlaysTo c notes in0 out0 in1 out1 (CannotRead name) = ⊥
PlaysTo c notes in0 out0 in1 out1 (BadDocument fault) = ⊥
PlaysTo c notes in0 out0 in1 out1 (BadPattern fault) = ⊥
PlaysTo c notes in0 out0 in1 out1 Printed = ⊥
PlaysTo c notes in0 out0 in1 out1 (Ended end) = (journal : List Entry) × Plays c notes in0 out0 in1 out1 journal end

-- all was answered as it is told
pub record Completes (told : Told) (in1 : Input) (out0 out1 : Output) (line : List ℕ) (status : ℕ) : Type 0 where
  pub written : Writes out0 out1 told.output
  pub line_is : line ≡ told.line
  pub status_is : status ≡ told.status
  pub at_end : IsTrue told.at_end → IsAtEnd in1.left

-- a write failed behind a front of the output
pub record BreaksAtWrite (told : Told) (out0 out1 : Output) (line : List ℕ) (status : ℕ) : Type 0 where
  pub stopped : Stopped out0 out1 told.output
  pub line_is : line ≡ write_fault_line
  pub status_is : status ≡ 5

-- memory was wanting behind a front of the output
pub record BreaksForMemory (told : Told) (out0 out1 : Output) (line : List ℕ) (status : ℕ) : Type 0 where
  pub front : List ℕ
  pub back : List ℕ
  pub split : told.output ≡ front ++ back
  pub written : Writes out0 out1 front
  pub line_is : line ≡ memory_line
  pub status_is : status ≡ 1

-- a write failed behind a front of the output, and memory was wanting
pub record FailsForMemory (told : Told) (out0 out1 : Output) (line : List ℕ) (status : ℕ) : Type 0 where
  pub stopped : Stopped out0 out1 told.output
  pub line_is : line ≡ memory_line
  pub status_is : status ≡ 1

-- one of these four
pub data CarriesOut (told : Told) (in1 : Input) (out0 out1 : Output) (line : List ℕ) (status : ℕ) : Type 0 where
  completes : Completes told in1 out0 out1 line status → CarriesOut told in1 out0 out1 line status
  fails_to_write : BreaksAtWrite told out0 out1 line status → CarriesOut told in1 out0 out1 line status
  lacks_memory : BreaksForMemory told out0 out1 line status → CarriesOut told in1 out0 out1 line status
  fails_for_memory : FailsForMemory told out0 out1 line status → CarriesOut told in1 out0 out1 line status

-- the outcome is one of these
abbrev pub CarriesOutAs : Told → Input → Output → Output → Outcome → Type 0
CarriesOutAs told in1 out0 out1 outcome = CarriesOut told in1 out0 out1 (line_of_outcome outcome) (status_of_outcome outcome)

-- the link is as it was, and the line and the status are those told, or memory was wanting
pub record LeavesAlone (told : Told) (in0 in1 : Input) (out0 out1 : Output) (line : List ℕ) (status : ℕ) : Type 0 where
  pub input : in1 ≡ in0
  pub output : out1 ≡ out0
  pub answer : ((line ≡ told.line) × (status ≡ told.status)) ⊎ ((line ≡ memory_line) × (status ≡ 1))

-- so it is where that is told
abbrev pub RestsIfTold : Told → Input → Input → Output → Output → List ℕ → ℕ → Type 0
RestsIfTold told in0 in1 out0 out1 line status = IsTrue told.untouched → LeavesAlone told in0 in1 out0 out1 line status

-- the same by an outcome
abbrev pub RestsAs : Told → Input → Input → Output → Output → Outcome → Type 0
RestsAs told in0 in1 out0 out1 outcome = RestsIfTold told in0 in1 out0 out1 (line_of_outcome outcome) (status_of_outcome outcome)

-- a pattern of these contexts was refused, for its own sake and not for want of memory
pub record RefusesPattern (contexts : List Context) (fault : PlanFault) (sizes0 sizes1 : ℕ) : Type 0 where
  pub refusal : IsPlanRefusal contexts fault
  pub no_want : fault ≢ NoMemory
  pub sizes : sizes1 ≡ sizes_after fault sizes0

-- a pattern of the configuration was refused, or none
abbrev pub IsPlanBuiltOf : Configuration → Option PlanFault → ℕ → ℕ → Type 0
IsPlanBuiltOf c None sizes0 sizes1 = sizes1 ≡ sizes0
IsPlanBuiltOf c (Some fault) sizes0 sizes1 = RefusesPattern c.contexts fault sizes0 sizes1

-- nothing is read for these words
abbrev pub ReadsNothing : Option Asked → Type 0
ReadsNothing None = Unit {0}
ReadsNothing (Some (Check file)) = Unit {0}
ReadsNothing (Some (Hunt file context dest)) = Unit {0}
ReadsNothing (Some (Play file)) = ⊥
ReadsNothing (Some (Load count start)) = Unit {0}

-- the side that is played, before and behind that: the one of the link, or for a load one that gives its input, of which no read fails
abbrev pub IsPlayed : Option Asked → Input → Input → Input → Input → Type 0
IsPlayed None in0 in1 from to = (from ≡ in0) × (to ≡ in1)
IsPlayed (Some (Check file)) in0 in1 from to = (from ≡ in0) × (to ≡ in1)
IsPlayed (Some (Hunt file context dest)) in0 in1 from to = (from ≡ in0) × (to ≡ in1)
IsPlayed (Some (Play file)) in0 in1 from to = (from ≡ in0) × (to ≡ in1)
IsPlayed (Some (Load count start)) in0 in1 from to = (from ≡ input_left (load_input count start)) × (to.faults ≡ 0)

-- what was taken from the side that is played, and what was answered for it
pub record Answers (told : List ℕ → Bool → Told) (asked : Option Asked) (in0 in1 : Input) (out0 out1 : Output)
    (outcome : Outcome) : Type 0 where
  pub from : Input
  pub to : Input
  pub input : List ℕ
  pub read_failed : Bool
  pub is_played : IsPlayed asked in0 in1 from to
  pub has_read : HasRead from to input read_failed
  pub quiet : ReadsNothing asked → in1 ≡ in0
  pub does : CarriesOutAs (told input read_failed) to out0 out1 outcome
  pub rests : RestsAs (told input read_failed) in0 in1 out0 out1 outcome

-- what a load came to, over a switch of this configuration
pub record Loads (c : Configuration) (count start : ℕ) (out0 out1 : Output) (outcome : Outcome) : Type 0 where
  pub to : Input
  pub input : List ℕ
  pub has_read : HasRead (input_left (load_input count start)) to input false
  pub faults : to.faults ≡ 0
  pub notes : List LoadNote
  pub does : CarriesOutAs (told_calls count (played c input false notes)) to out0 out1 outcome

-- the pattern that was refused is one of the document in this file, and the count of large patterns rose only where it is too large
abbrev pub IsBuilt : File → Option PlanFault → ℕ → ℕ → Type 0
IsBuilt file None sizes0 sizes1 = sizes1 ≡ sizes0
IsBuilt (Got bytes) (Some fault) sizes0 sizes1 =
    (c : Configuration) × (config_of bytes ≡ Ok c) × RefusesPattern c.contexts fault sizes0 sizes1
IsBuilt Absent (Some fault) sizes0 sizes1 = ⊥
IsBuilt Failed (Some fault) sizes0 sizes1 = ⊥

-- who loads the file again: nobody; a play of it; or calls that are made over no file, of whose loads nothing is told
pub data Reloader : Type 0 where
  Nobody : Reloader
  Player : Reloader
  Caller : Reloader

-- who does for these words, once the patterns are built
abbrev pub reloader_of : Asked → Reloader
reloader_of (Check file) = Nobody
reloader_of (Hunt file context dest) = Nobody
reloader_of (Play file) = Player
reloader_of (Load count start) = Caller

-- who does where a pattern was refused, or none
abbrev pub reloader_built : Asked → Option PlanFault → Reloader
reloader_built asked None = reloader_of asked
reloader_built asked (Some fault) = Nobody

-- who does for what a document is read as
abbrev pub reloader_read : Asked → Result Configuration DocFault → Option PlanFault → Reloader
reloader_read asked (Ok c) built = reloader_built asked built
reloader_read asked (Err fault) built = Nobody

-- who does for what the file gave
abbrev pub reloader_file : Asked → File → Option PlanFault → Reloader
reloader_file asked (Got bytes) built = reloader_read asked (config_of bytes) built
reloader_file asked Absent built = Nobody
reloader_file asked Failed built = Nobody

abbrev pub reloader_words : Option Asked → File → Option PlanFault → Reloader
reloader_words None file built = Nobody
reloader_words (Some asked) file built = reloader_file asked file built

-- What later loads made of what is told of the file, behind the first one; these are their notes. Where memory was wanting one more load may
-- have been begun.
abbrev pub Reloads : Reloader → ℕ → FileView → FileView → List LoadNote → Type 0
Reloads Nobody status old new notes = (notes ≡ []) × (new ≡ old)
Reloads Player status old new notes = HasLoadedOrBegun old new notes × (status ≢ 1 → HasLoaded old new notes)
Reloads Caller status old new notes = new ≡ old

-- so by an outcome
abbrev pub ReloadsAs : Reloader → Outcome → FileView → FileView → List LoadNote → Type 0
ReloadsAs who outcome old new notes = Reloads who (status_of_outcome outcome) old new notes

-- what playing a connection over a switch of this configuration came to, with what its loads made of what is told of the file
pub record PlaysAnew (c : Configuration) (view0 view1 : FileView) (in0 : Input) (out0 : Output) (in1 : Input) (out1 : Output)
    (outcome : Outcome) : Type 0 where
  pub notes : List LoadNote
  pub reloaded : ReloadsAs Player outcome view0 view1 notes
  pub plays : PlaysTo c notes in0 out0 in1 out1 outcome

-- building patterns leaves what is told of loads and what was counted of them as it was
pub record KeepsLoads (old new : FileView) : Type 0 where
  pub loads : new.loads ≡ old.loads
  pub counts : new.counts ≡ old.counts

-- what was answered over a configuration whose patterns were built
pub record OverPlan (asked : Asked) (c : Configuration) (view0 view1 : FileView) (in0 in1 : Input) (out0 out1 : Output)
    (outcome : Outcome) : Type 0 where
  pub notes : List LoadNote
  pub reloaded : ReloadsAs (reloader_of asked) outcome view0 view1 notes
  pub answers : Answers (told_asked asked c notes) (Some asked) in0 in1 out0 out1 outcome

-- what was answered over a configuration: a pattern of it was refused, or what is asked was done
pub record OverConfig (asked : Asked) (c : Configuration) (view0 view1 : FileView) (in0 in1 : Input) (out0 out1 : Output)
    (outcome : Outcome) : Type 0 where
  pub built : Option PlanFault
  pub store : FileView
  pub notes : List LoadNote
  pub built_told : IsPlanBuiltOf c built view0.sizes store.sizes
  pub kept : KeepsLoads view0 store
  pub reloaded : ReloadsAs (reloader_built asked built) outcome store view1 notes
  pub answers : Answers (told_built asked c built notes) (Some asked) in0 in1 out0 out1 outcome

-- what was answered over the bytes of a document
pub record OverBytes (asked : Asked) (bytes : List ℕ) (view0 view1 : FileView) (in0 in1 : Input) (out0 out1 : Output)
    (outcome : Outcome) : Type 0 where
  pub built : Option PlanFault
  pub store : FileView
  pub notes : List LoadNote
  pub built_told : IsBuilt (Got bytes) built view0.sizes store.sizes
  pub kept : KeepsLoads view0 store
  pub reloaded : ReloadsAs (reloader_file asked (Got bytes) built) outcome store view1 notes
  pub answers : Answers (told_file asked (Got bytes) built notes) (Some asked) in0 in1 out0 out1 outcome

-- memory was wanting for a document
abbrev pub is_memory : DocKind → Bool
is_memory kind.Memory = true
is_memory _ = false

-- the outcome where a document was not read
abbrev pub not_read : DocFault → Outcome
not_read fault = if is_memory fault.kind then Ended ends.Memory else BadDocument fault

-- the outcome where a dialplan was not built
abbrev pub not_built : PlanFault → Outcome
not_built NoMemory = Ended ends.Memory
not_built (PatternRefused extension condition) = BadPattern (PatternRefused extension condition)
not_built (PatternTooLarge extension condition) = BadPattern (PatternTooLarge extension condition)

-- the file of this name gives this; where no file is asked for, the document of a load is given
abbrev pub Gives : (List ℕ → Option File) → Option (List ℕ) → File → Type 0
Gives next_load None file = file ≡ Got load_document
Gives next_load (Some name) file = Tells (next_load name) file

-- what loading it did to the counts
abbrev pub LoadedAs : Option (List ℕ) → LoadCounts → LoadCounts → File → Type 0
LoadedAs None old new file = new ≡ old
LoadedAs (Some name) old new file = Counted old new file

-- what loading the file that is asked for did to the counts
abbrev pub Loaded : Option Asked → LoadCounts → LoadCounts → File → Type 0
Loaded None old new file = new ≡ old
Loaded (Some asked) old new file = LoadedAs (file_asked asked) old new file

-- what files tell of the loads to come, by name, and what they have counted
pub record Library : Type 0 where
  pub loads : List ℕ → ℕ → Option File
  pub counts : LoadCounts
  pub sizes : ℕ

abbrev pub library : (List ℕ → ℕ → Option File) → LoadCounts → ℕ → Library
library loads counts sizes = record { loads = loads; counts = counts; sizes = sizes }

-- what they tell of the file of a name
abbrev pub view_in : Library → List ℕ → FileView
view_in files name = file_view (files.loads name) files.counts files.sizes

-- the name of the file that is asked for; an empty one where none is
abbrev pub name_of : Asked → List ℕ
name_of asked = unwrap_or (file_asked asked) []

-- what they tell of that file
abbrev pub view_for : Option Asked → Library → FileView
view_for None files = view_in files []
view_for (Some asked) files = view_in files (name_of asked)

-- the loads that are told behind the first one of a file are those behind it, if there was one
abbrev pub AreBehind : Library → FileView → Option (List ℕ) → Type 0
AreBehind files store None = Unit {0}
AreBehind files store (Some name) = (k : ℕ) → store.loads k ≡ files.loads name (k + 1)

-- the run answers as it is told where the words ask for this, or have no form, for what the file gave, for the pattern that was refused, for
-- the notes of the loads behind the first one, and for what was taken from the link
pub record Runs (asked : Option Asked) (files0 files1 : Library) (in0 in1 : Input) (out0 out1 : Output) (outcome : Outcome) : Type 0 where
  pub file : File
  pub built : Option PlanFault
  pub store : FileView
  pub notes : List LoadNote
  pub file_told : IfSome asked (λ a. Gives (next files0.loads) (file_asked a) file)
  pub built_told : IsBuilt file built files0.sizes store.sizes
  pub loaded : status_of_outcome outcome ≢ 1 → Loaded asked files0.counts store.counts file
  pub behind : status_of_outcome outcome ≢ 1 → IfSome asked (λ a. AreBehind files0 store (file_asked a))
  pub reloaded : ReloadsAs (reloader_words asked file built) outcome store (view_for asked files1) notes
  pub answers : Answers (told_words asked file built notes) asked in0 in1 out0 out1 outcome
  pub usage : asked ≡ None → status_of_outcome outcome ≡ 2

-- a run, with the line that it printed
pub record Ran (asked : Option Asked) (files0 files1 : Library) (in0 in1 : Input) (out0 out1 err0 err1 : Output) (status : ℕ)
    : Type 0 where
  pub file : File
  pub built : Option PlanFault
  pub store : FileView
  pub notes : List LoadNote
  pub from : Input
  pub to : Input
  pub input : List ℕ
  pub read_failed : Bool
  pub line : List ℕ
  pub sent : Sent
  pub file_told : IfSome asked (λ a. Gives (next files0.loads) (file_asked a) file)
  pub built_told : IsBuilt file built files0.sizes store.sizes
  pub loaded : status ≢ 1 → Loaded asked files0.counts store.counts file
  pub behind : status ≢ 1 → IfSome asked (λ a. AreBehind files0 store (file_asked a))
  pub reloaded : Reloads (reloader_words asked file built) status store (view_for asked files1) notes
  pub is_played : IsPlayed asked in0 in1 from to
  pub has_read : HasRead from to input read_failed
  pub quiet : ReadsNothing asked → in1 ≡ in0
  pub does : CarriesOut (told_words asked file built notes input read_failed) to out0 out1 line status
  pub rests : RestsIfTold (told_words asked file built notes input read_failed) in0 in1 out0 out1 line status
  pub said : SendDid err0 err1 sent line

-- the file that is asked for is read as this configuration
pub record HasConfig (asked : Option Asked) (next_load : List ℕ → Option File) (c : Configuration) : Type 0 where
  pub of : Asked
  pub bytes : List ℕ
  pub is_asked : asked ≡ Some of
  pub told : Gives next_load (file_asked of) (Got bytes)
  pub reads : config_of bytes ≡ Ok c

-- the file that is asked for has no configuration
pub record HasFault (asked : Option Asked) (next_load : List ℕ → Option File) : Type 0 where
  pub of : Asked
  pub bytes : List ℕ
  pub fault : DocFault
  pub is_asked : asked ≡ Some of
  pub told : Gives next_load (file_asked of) (Got bytes)
  pub reads : config_of bytes ≡ Err fault

-- it has one, and a pattern of it was refused
pub record HasRefusal (asked : Option Asked) (next_load : List ℕ → Option File) (sizes0 sizes1 : ℕ) : Type 0 where
  pub c : Configuration
  pub fault : PlanFault
  pub has : HasConfig asked next_load c
  pub refused : RefusesPattern c.contexts fault sizes0 sizes1

-- a count rose: of files that were absent or could not be read, or of reads of the link
abbrev pub CountRose : LoadCounts → LoadCounts → Input → Input → Type 0
CountRose counts0 counts1 in0 in1 =
    (counts1.absences ≡ raised counts0.absences) ⊎ ((counts1.faults ≡ raised counts0.faults) ⊎ (in1.faults ≡ raised in0.faults))

-- behind the blocks of the bytes that were taken stands one that is too long or has a bad length, and by that the play ends
pub record MeetsBadBlock (asked : Option Asked) (c : Configuration) (in0 in1 : Input) : Type 0 where
  pub from : Input
  pub to : Input
  pub input : List ℕ
  pub read_failed : Bool
  pub is_played : IsPlayed asked in0 in1 from to
  pub has_read : HasRead from to input read_failed
  pub notes : List LoadNote
  pub fault : Fault
  pub is_bad : fault_of (rest_of input) ≡ Some fault
  pub end_is : (played c input read_failed notes).end ≡ Some (end_for fault)

-- the journal of what was taken is full behind its last entry, and was to have a further one; or it has no room for a load, and a job waits
-- for one
pub record FillsJournal (asked : Option Asked) (c : Configuration) (in0 in1 : Input) : Type 0 where
  pub from : Input
  pub to : Input
  pub input : List ℕ
  pub read_failed : Bool
  pub is_played : IsPlayed asked in0 in1 from to
  pub has_read : HasRead from to input read_failed
  pub notes : List LoadNote
  pub cost_told : ℕ
  pub limit_told : ℕ
  pub end_is : (played c input read_failed notes).end ≡ Some (ends.JournalFull cost_told limit_told)
  pub full : IsFullAt cost_told limit_told (switch_of (played c input read_failed notes))
      ⊎ IsFullForLoadAt cost_told limit_told (played c input read_failed notes)
  pub limit_is : limit_told ≡ c.settings.journal_limit

-- channels and jobs of what was taken do not come to rest at some moment
pub record RunsAway (asked : Option Asked) (c : Configuration) (in0 in1 : Input) : Type 0 where
  pub from : Input
  pub to : Input
  pub input : List ℕ
  pub read_failed : Bool
  pub is_played : IsPlayed asked in0 in1 from to
  pub has_read : HasRead from to input read_failed
  pub notes : List LoadNote
  pub end_is : (played c input read_failed notes).end ≡ Some (ends.Runaway 100000)

-- ---- completeness

-- no pattern of a configuration is none, or nested too deep
abbrev pub HasReadings : Configuration → Type 0
HasReadings c = All (λ pattern. IsNoPattern pattern.text → ⊥) (patterns_in c.contexts)

-- the file of this name is told to give these bytes; where no file is asked for, they are those of the document of a load
abbrev pub IsTold : (List ℕ → Option File) → Option (List ℕ) → List ℕ → Type 0
IsTold next_load None bytes = bytes ≡ load_document
IsTold next_load (Some name) bytes = next_load name ≡ Some (Got bytes)

-- the file that is asked for is told, and its bytes are read as this configuration, whose patterns have readings
pub record IsGiven (asked : Option Asked) (next_load : List ℕ → Option File) (of : Asked) (c : Configuration) : Type 0 where
  pub bytes : List ℕ
  pub is_asked : asked ≡ Some of
  pub told : IsTold next_load (file_asked of) bytes
  pub reads : config_of bytes ≡ Ok c
  pub readings : HasReadings c

-- no count rose: of patterns that were too large, of reads of the link that failed, or of writes to it
pub record NoneRose (sizes0 sizes1 : ℕ) (in0 in1 : Input) (out0 out1 : Output) : Type 0 where
  pub sizes : sizes1 ≢ raised sizes0
  pub reads : in1.faults ≢ raised in0.faults
  pub writes : out1.faults ≢ raised out0.faults

-- all was done that is told over a configuration, or a front of it for want of memory
pub record DoesAll (asked : Asked) (c : Configuration) (in0 in1 : Input) (out0 out1 err0 err1 : Output) (status : ℕ) : Type 0 where
  pub from : Input
  pub to : Input
  pub input : List ℕ
  pub line : List ℕ
  pub sent : Sent
  pub is_played : IsPlayed (Some asked) in0 in1 from to
  pub has_read : HasRead from to input false
  pub notes : List LoadNote
  pub does : Completes (told_asked asked c notes input false) to out0 out1 line status
      ⊎ BreaksForMemory (told_asked asked c notes input false) out0 out1 line status
  pub said : SendDid err0 err1 sent line
