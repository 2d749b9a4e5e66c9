-- What serving a file comes to, and the causes of its statuses.
use Rattle.std.specs.Prelude.{◌≡◌, ◌≢◌, ◌⊎◌, ℕ, Bool, true, false, List, [], ◌∷◌, Option, Some, Ok, Err, codes}
use Rattle.std.specs.List.{Contains, list_any}
use Rattle.std.specs.Str.{bytes_eq}
use Rattle.fs_ports.specs.Counts.{raised}
use Rattle.fs_ports.specs.Ports.{Input, Output, SendDid}
use Rattle.fs_ports.specs.declared.send.Sent.{Sent}
use Rattle.fs_ports.specs.Loads.{LoadCounts, Tells, Counted}
use Rattle.fs_ports.specs.declared.files.Load.{Load as File}
use Rattle.fs_ports.specs.declared.files.Load.TheVariants.{Got, Absent, Failed}
use Rattle.fs_doc.specs.Reading.{Configuration, config_of}
use Rattle.fs_doc.specs.declared.fault.DocFault.{DocFault}
use Rattle.fs_plan.specs.declared.fault.PlanFault.{PlanFault}
use Rattle.fs_state.specs.Switch.{is_full}
use Rattle.fs_machine.specs.declared.entry.Entry.{Entry}
use Rattle.fs_machine.specs.Laws.{state_after}
use Rattle.fs_conn.specs.declared.end.End.TheVariants as ends
use Rattle.fs_conn.specs.Ends.{IsFullAt}
use Rattle.fs_top.specs.declared.outcome.Outcome.TheVariants.{BadDocument, BadPattern, Printed, Ended}
use Rattle.fs_top.specs.declared.course.Course.{Course}
use Rattle.fs_top.specs.declared.course.Course.TheVariants.{Run, DoorFault}
use Rattle.fs_top.specs.declared.conns.Conn.{Conn}
use Rattle.fs_top.specs.Doors.{Rose}
use Rattle.fs_top.specs.Headline.{Headline, IsHalted, IsShutDown, is_halt}
use Rattle.fs_top.specs.Lanes.{MayEnter, is_settled}
use Rattle.fs_top.specs.Runs.{HasReadings, RefusesPattern, line_of_outcome, status_of_outcome}
use Rattle.fs_top.specs.Told.{cannot_read_line}

-- the words `serve FILE`
abbrev pub is_serve : List (List ℕ) → Bool
is_serve (word ∷ file ∷ []) = bytes_eq word (codes "serve")
is_serve _ = false

-- the file that is to be served
abbrev pub file_served : List (List ℕ) → List ℕ
file_served (word ∷ file ∷ []) = file
file_served _ = []

-- the line of a course, and its status
unfoldable pub door_fault_line : List ℕ
door_fault_line = codes "fsw: door fault\n"

abbrev pub line_of_course : Course → List ℕ
line_of_course (Run outcome) = line_of_outcome outcome
line_of_course DoorFault = door_fault_line

abbrev pub status_of_course : Course → ℕ
status_of_course (Run outcome) = status_of_outcome outcome
status_of_course DoorFault = 7

module _ (next_load : List ℕ → Option File) (name : List ℕ) where
  -- the file of this name is read as this configuration
  pub record IsReadAs (config : Configuration) : Type 0 where
    pub bytes : List ℕ
    pub told : Tells (next_load name) (Got bytes)
    pub reads : config_of bytes ≡ Ok config

  -- it is not there, or could not be read
  pub record IsUnread (counts0 counts1 : LoadCounts) : Type 0 where
    pub file : File
    pub told : Tells (next_load name) file
    pub loaded : Counted counts0 counts1 file
    pub other : (file ≡ Absent) ⊎ (file ≡ Failed)

  -- it is no document of a configuration
  pub record IsFaulty (fault : DocFault) : Type 0 where
    pub bytes : List ℕ
    pub told : Tells (next_load name) (Got bytes)
    pub reads : config_of bytes ≡ Err fault

  -- a pattern of its configuration was refused
  pub record IsUnbuilt (fault : PlanFault) (sizes0 sizes1 : ℕ) : Type 0 where
    pub config : Configuration
    pub is : IsReadAs config
    pub refused : RefusesPattern config.contexts fault sizes0 sizes1

  -- one of both
  abbrev pub IsNoDocument : ℕ → ℕ → Type 0
  IsNoDocument sizes0 sizes1 = ((fault : DocFault) × IsFaulty fault) ⊎ ((fault : PlanFault) × IsUnbuilt fault sizes0 sizes1)

-- how a server ended, by its journal: it is full; or the entry that ended the switch halts it; or that entry shuts it down
abbrev pub Concludes : Configuration → List Entry → Course → Type 0
Concludes config journal (Run Printed) =
    (is_full (state_after config journal) ≡ false) × ((list_any is_halt journal ≡ false) × IsShutDown config journal)
Concludes config journal (Run (Ended (ends.JournalFull cost limit))) = IsFullAt cost limit (state_after config journal)
Concludes config journal (Run _) = ⊥
Concludes config journal DoorFault =
    (is_full (state_after config journal) ≡ false) × ((list_any is_halt journal ≡ true) × IsHalted config journal)

-- what a switch that ran to its end left: a machine whose journal is this, and the connections that were served
pub record Ends {L : Type 0} (input : L → Input) (output : L → Output) (may : ℕ → Type 0) (config : Configuration)
    (doors0 doors1 : ℕ) (started : Configuration) (journal : List Entry) (conns : List (Conn L)) : Type 0 where
  pub same : started ≡ config
  pub headline : Headline input output (MayEnter may (Rose doors0 doors1)) config journal conns
  pub settled : is_settled (state_after config journal) ≡ true

-- nothing is handed back: no journal, no connections and no dialers
pub record IsNothing {L O : Type 0} (journal : List Entry) (conns : List (Conn L)) (dialers : List O) : Type 0 where
  pub no_entries : journal ≡ []
  pub no_conns : conns ≡ []
  pub no_dialers : dialers ≡ []

-- What serving a configuration came to: memory was wanting, before the switch ran or behind that, or the door did not listen, and nothing is
-- handed back; or the switch ran to its end, and the headline holds of its journal and of the connections that were served.
pub data ServesConfig {L O : Type 0} (input : L → Input) (output : L → Output) (may : ℕ → Type 0) (config : Configuration)
    (doors0 doors1 : ℕ) (course : Course) (journal : List Entry) (conns : List (Conn L)) (dialers : List O) : Type 0 where
  no_machine : course ≡ Run (Ended ends.Memory) → IsNothing journal conns dialers
      → ServesConfig input output may config doors0 doors1 course journal conns dialers
  unheard : course ≡ DoorFault → Rose doors0 doors1 → IsNothing journal conns dialers
      → ServesConfig input output may config doors0 doors1 course journal conns dialers
  served : Headline input output (MayEnter may (Rose doors0 doors1)) config journal conns → Concludes config journal course
      → ServesConfig input output may config doors0 doors1 course journal conns dialers

-- What serving the document in these bytes came to: memory was wanting for it, or it has a fault, or a pattern of it was refused, and nothing
-- is handed back; or its configuration was served.
pub data ServesBytes {L O : Type 0} (input : L → Input) (output : L → Output) (may : ℕ → Type 0) (bytes : List ℕ)
    (sizes0 sizes1 doors0 doors1 : ℕ) (course : Course) (journal : List Entry) (conns : List (Conn L)) (dialers : List O) : Type 0 where
  no_config : course ≡ Run (Ended ends.Memory) → IsNothing journal conns dialers
      → ServesBytes input output may bytes sizes0 sizes1 doors0 doors1 course journal conns dialers
  faulty : (fault : DocFault) → config_of bytes ≡ Err fault → course ≡ Run (BadDocument fault) → IsNothing journal conns dialers
      → ServesBytes input output may bytes sizes0 sizes1 doors0 doors1 course journal conns dialers
  unbuilt : (config : Configuration) (fault : PlanFault) → config_of bytes ≡ Ok config
      → RefusesPattern config.contexts fault sizes0 sizes1 → course ≡ Run (BadPattern fault) → IsNothing journal conns dialers
      → ServesBytes input output may bytes sizes0 sizes1 doors0 doors1 course journal conns dialers
  configured : (config : Configuration) → config_of bytes ≡ Ok config
      → ServesConfig input output may config doors0 doors1 course journal conns dialers
      → ServesBytes input output may bytes sizes0 sizes1 doors0 doors1 course journal conns dialers

-- a course tells that the file of this name cannot be read
pub record TellsUnread (name : List ℕ) (course : Course) : Type 0 where
  pub status : status_of_course course ≡ 4
  pub line : line_of_course course ≡ cannot_read_line name

-- What serving the file of a name came to: memory was wanting for it, or it could not be read, and nothing is handed back; or its bytes were
-- served.
pub data Serves {L O : Type 0} (input : L → Input) (output : L → Output) (may : ℕ → Type 0) (next_load : List ℕ → Option File)
    (name : List ℕ) (counts0 counts1 : LoadCounts) (sizes0 sizes1 doors0 doors1 : ℕ) (course : Course) (journal : List Entry)
    (conns : List (Conn L)) (dialers : List O) : Type 0 where
  no_file : course ≡ Run (Ended ends.Memory) → IsNothing journal conns dialers
      → Serves input output may next_load name counts0 counts1 sizes0 sizes1 doors0 doors1 course journal conns dialers
  unread : IsUnread next_load name counts0 counts1 → TellsUnread name course → IsNothing journal conns dialers
      → Serves input output may next_load name counts0 counts1 sizes0 sizes1 doors0 doors1 course journal conns dialers
  read : (bytes : List ℕ) → Tells (next_load name) (Got bytes)
      → ServesBytes input output may bytes sizes0 sizes1 doors0 doors1 course journal conns dialers
      → Serves input output may next_load name counts0 counts1 sizes0 sizes1 doors0 doors1 course journal conns dialers

-- What a server came to: serving its file came to one course. The status is the one of that, and its line was printed, or a front of it.
pub record ServesAs {L O : Type 0} (input : L → Input) (output : L → Output) (may : ℕ → Type 0) (next_load : List ℕ → Option File)
    (name : List ℕ) (counts0 counts1 : LoadCounts) (sizes0 sizes1 doors0 doors1 : ℕ) (err0 err1 : Output) (code : ℕ)
    (journal : List Entry) (conns : List (Conn L)) (dialers : List O) : Type 0 where
  pub course : Course
  pub sent : Sent
  pub serves : Serves input output may next_load name counts0 counts1 sizes0 sizes1 doors0 doors1 course journal conns dialers
  pub code_is : code ≡ status_of_course course
  pub said : SendDid err0 err1 sent (line_of_course course)

-- the file of this name is told, and its bytes are read as this configuration, whose patterns have readings
pub record IsServable (next_load : List ℕ → Option File) (name : List ℕ) (config : Configuration) : Type 0 where
  pub bytes : List ℕ
  pub told : next_load name ≡ Some (Got bytes)
  pub reads : config_of bytes ≡ Ok config
  pub readings : HasReadings config

-- no count rose: of patterns that were too large, or of what failed at the door
pub record NoneFailed (sizes0 sizes1 doors0 doors1 : ℕ) : Type 0 where
  pub sizes : sizes1 ≢ raised sizes0
  pub doors : Rose doors0 doors1 → ⊥

-- the server was shut down, its journal is full, or memory was wanting
abbrev pub IsGoodStatus : ℕ → Type 0
IsGoodStatus code = Contains (0 ∷ 1 ∷ 8 ∷ []) code

-- the statuses that a server ends with
abbrev pub IsStatus : ℕ → Type 0
IsStatus code = Contains (0 ∷ 1 ∷ 3 ∷ 4 ∷ 7 ∷ 8 ∷ []) code
