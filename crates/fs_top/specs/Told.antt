-- What the program answers: its output, its printed line and its status.
use Rattle.std.specs.Prelude.{ℕ, Bool, true, false, List, [], ◌∷◌, ◌++◌, Option, None, Some, unwrap_or, Result, Ok, Err, codes}
use Rattle.std.specs.Prelude.{if◌then◌else◌, ◌&&◌, nat_le}
use Rattle.std.specs.Str.{bytes_eq}
use Rattle.std.specs.Fmt.{decimal}
use Rattle.std.specs.Option.{option_map}
use Rattle.fs_text.specs.Number.{read_u64}
use Rattle.fs_ports.specs.declared.files.Load.{Load as File}
use Rattle.fs_ports.specs.declared.files.Load.TheVariants.{Got, Absent, Failed}
use Rattle.fs_doc.specs.Reading.{Configuration, config_of}
use Rattle.fs_doc.specs.Faults.{kind_name}
use Rattle.fs_doc.specs.declared.fault.DocFault.{DocFault}
use Rattle.fs_plan.specs.declared.fault.PlanFault.{PlanFault}
use Rattle.fs_plan.specs.declared.fault.PlanFault.TheVariants.{PatternRefused, PatternTooLarge, Memory}
use Rattle.fs_conn.specs.declared.end.End.{End}
use Rattle.fs_conn.specs.declared.end.End.TheVariants as ends
use Rattle.fs_machine.specs.declared.note.LoadNote.{LoadNote}
use Rattle.fs_conn.specs.Play as plays
use Rattle.fs_state.specs.Counts.{Tallies}
use Rattle.fs_top.specs.Documents.{check_text, hunt_text}
use Rattle.fs_top.specs.Counted.{counts_text}

-- the bytes written, the line on standard error, the status, whether the input was read to its end, and whether the link is left alone
pub record Told : Type 0 where
  pub output : List ℕ
  pub line : List ℕ
  pub status : ℕ
  pub at_end : Bool
  pub untouched : Bool

-- what the words ask for: something of a file, or so many calls that are made from a number on
pub data Asked : Type 0 where
  Check : List ℕ → Asked
  Hunt : List ℕ → List ℕ → List ℕ → Asked
  Play : List ℕ → Asked
  Load : ℕ → ℕ → Asked

-- the words `check FILE` and `play FILE`
abbrev pub asked_of_two : List ℕ → List ℕ → Option Asked
asked_of_two word file =
    if bytes_eq word (codes "check") then Some (Check file)
    else (if bytes_eq word (codes "play") then Some (Play file) else None)

-- so many calls, unless they are none or more than 100,000
abbrev pub load_asked : ℕ → ℕ → Option Asked
load_asked count start = if nat_le 1 count && nat_le count 100000 then Some (Load count start) else None

-- where both are numbers
abbrev pub load_asked_by : Option ℕ → Option ℕ → Option Asked
load_asked_by None start = None
load_asked_by (Some count) None = None
load_asked_by (Some count) (Some start) = load_asked count start

-- the words `load COUNT START`
abbrev pub asked_of_three : List ℕ → List ℕ → List ℕ → Option Asked
asked_of_three word count start = if bytes_eq word (codes "load") then load_asked_by (read_u64 count) (read_u64 start) else None

-- the words `hunt FILE CONTEXT DEST`
abbrev pub asked_of_four : List ℕ → List ℕ → List ℕ → List ℕ → Option Asked
asked_of_four word file context dest = if bytes_eq word (codes "hunt") then Some (Hunt file context dest) else None

-- what the words ask for, where they have a form
abbrev pub asked_by : List (List ℕ) → Option Asked
asked_by [] = None
asked_by (word ∷ []) = None
asked_by (word ∷ file ∷ []) = asked_of_two word file
asked_by (word ∷ count ∷ start ∷ []) = asked_of_three word count start
asked_by (word ∷ file ∷ context ∷ dest ∷ []) = asked_of_four word file context dest
asked_by (word ∷ file ∷ context ∷ dest ∷ more ∷ words) = None

-- the name of the file, if it is asked of one
abbrev pub file_asked : Asked → Option (List ℕ)
file_asked (Check file) = Some file
file_asked (Hunt file context dest) = Some file
file_asked (Play file) = Some file
file_asked (Load count start) = None

-- how the words of the command line are to be written
unfoldable pub usage_line : List ℕ
usage_line = codes "usage: fsw check FILE | hunt FILE CONTEXT DEST | play FILE | load COUNT START | serve FILE\n"

-- the file of this name cannot be read
unfoldable pub cannot_read_line : List ℕ → List ℕ
cannot_read_line name = codes "fsw: cannot read " ++ (name ++ codes "\n")

-- what is wrong with a document, and how many bytes stand before it
unfoldable pub fault_line : DocFault → List ℕ
fault_line fault = codes "fsw: " ++ (kind_name fault.kind ++ (codes " at " ++ (decimal fault.at ++ codes "\n")))

-- the pattern that was refused, by the numbers of its extension and condition
unfoldable pub pattern_refused_line : ℕ → ℕ → List ℕ
pattern_refused_line extension condition =
    codes "fsw: pattern refused in extension " ++ (decimal extension ++ (codes " condition " ++ (decimal condition ++ codes "\n")))

-- the pattern that was too large, by the numbers of its extension and condition
unfoldable pub pattern_too_large_line : ℕ → ℕ → List ℕ
pattern_too_large_line extension condition =
    codes "fsw: pattern too large in extension " ++ (decimal extension ++ (codes " condition " ++ (decimal condition ++ codes "\n")))

-- a read of the link failed
unfoldable pub read_fault_line : List ℕ
read_fault_line = codes "fsw: read fault\n"

-- so many bytes have no block in front of them, and are more than a block may have
unfoldable pub too_long_line : ℕ → List ℕ
too_long_line len = codes "fsw: block too long " ++ decimal len ++ codes "\n"

-- the journal has no room for a further entry: its cost, and its limit
unfoldable pub journal_full_line : ℕ → ℕ → List ℕ
journal_full_line cost limit = codes "fsw: journal full " ++ (decimal cost ++ (codes " " ++ (decimal limit ++ codes "\n")))

unfoldable pub bad_length_line : List ℕ
bad_length_line = codes "fsw: bad length\n"

-- so many entries were worked at one moment
unfoldable pub runaway_line : ℕ → List ℕ
runaway_line count = codes "fsw: runaway " ++ (decimal count ++ codes "\n")

-- a write failed
unfoldable pub write_fault_line : List ℕ
write_fault_line = codes "fsw: write fault\n"

-- memory was wanting
unfoldable pub memory_line : List ℕ
memory_line = codes "fsw: out of memory\n"

-- a line and a status, and nothing is done with the link
abbrev pub refused : List ℕ → ℕ → Told
refused line status = record { output = []; line = line; status = status; at_end = false; untouched = true }

-- the line of a refused pattern
abbrev pub pattern_line : PlanFault → List ℕ
pattern_line (PatternRefused extension condition) = pattern_refused_line extension condition
pattern_line (PatternTooLarge extension condition) = pattern_too_large_line extension condition
pattern_line Memory = memory_line

-- the line of an end
abbrev pub line_of_end : End → List ℕ
line_of_end ends.Exit = []
line_of_end ends.Eof = []
line_of_end ends.AuthRefused = []
line_of_end ends.Stopped = []
line_of_end ends.ReadFault = read_fault_line
line_of_end ends.WriteFault = write_fault_line
line_of_end (ends.TooLong len) = too_long_line len
line_of_end ends.BadLength = bad_length_line
line_of_end (ends.JournalFull cost limit) = journal_full_line cost limit
line_of_end ends.Memory = memory_line
line_of_end (ends.Runaway count) = runaway_line count

-- the status of an end
abbrev pub status_of_end : End → ℕ
status_of_end ends.Exit = 0
status_of_end ends.Eof = 0
status_of_end ends.AuthRefused = 0
status_of_end ends.Stopped = 0
status_of_end ends.ReadFault = 4
status_of_end ends.WriteFault = 5
status_of_end (ends.TooLong len) = 10
status_of_end ends.BadLength = 10
status_of_end (ends.JournalFull cost limit) = 8
status_of_end ends.Memory = 1
status_of_end (ends.Runaway count) = 9

-- the end by the end of the input
abbrev pub is_eof : End → Bool
is_eof ends.Exit = false
is_eof ends.Eof = true
is_eof ends.AuthRefused = false
is_eof ends.Stopped = false
is_eof ends.ReadFault = false
is_eof ends.WriteFault = false
is_eof (ends.TooLong len) = false
is_eof ends.BadLength = false
is_eof (ends.JournalFull cost limit) = false
is_eof ends.Memory = false
is_eof (ends.Runaway count) = false

-- what a play hands out, and how it ended
abbrev pub told_play : Configuration → plays.Play → Told
told_play c p = record {
  output = plays.bytes_handed c p.journal;
  line = unwrap_or (option_map line_of_end p.end) [];
  status = unwrap_or (option_map status_of_end p.end) 0;
  at_end = unwrap_or (option_map is_eof p.end) false;
  untouched = false;
}

-- what is printed of so many calls at an end: what was counted where they all were made and the connection left, and nothing otherwise
abbrev pub counts_printed : ℕ → Tallies → End → List ℕ
counts_printed count tallies ends.Exit = counts_text count tallies
counts_printed count tallies _ = []

-- what is told of the play of so many calls
abbrev pub told_calls : ℕ → plays.Play → Told
told_calls count p = record {
  output = unwrap_or (option_map (counts_printed count (plays.switch_of p).counts) p.end) [];
  line = unwrap_or (option_map line_of_end p.end) [];
  status = unwrap_or (option_map status_of_end p.end) 0;
  at_end = unwrap_or (option_map is_eof p.end) false;
  untouched = false;
}

-- this is printed, and nothing is read
abbrev pub told_text : List ℕ → Told
told_text output = record { output = output; line = []; status = 0; at_end = false; untouched = false }

-- what is answered over a configuration
abbrev pub told_asked : Asked → Configuration → List LoadNote → List ℕ → Bool → Told
told_asked (Check file) c notes input read_failed = told_text (check_text c.contexts)
told_asked (Hunt file context dest) c notes input read_failed = told_text (hunt_text c.contexts c.globals context dest)
told_asked (Play file) c notes input read_failed = told_play c (plays.played c input read_failed notes)
told_asked (Load count start) c notes input read_failed = told_calls count (plays.played c input read_failed notes)

-- what is answered over a configuration of which a pattern was refused, or none
abbrev pub told_built : Asked → Configuration → Option PlanFault → List LoadNote → List ℕ → Bool → Told
told_built asked c None notes input read_failed = told_asked asked c notes input read_failed
told_built asked c (Some fault) notes input read_failed = refused (pattern_line fault) 3

-- what is answered for what a document is read as
abbrev pub told_read : Asked → Result Configuration DocFault → Option PlanFault → List LoadNote → List ℕ → Bool → Told
told_read asked (Ok c) built notes input read_failed = told_built asked c built notes input read_failed
told_read asked (Err fault) built notes input read_failed = refused (fault_line fault) 3

-- what is answered once the file gave this
abbrev pub told_file : Asked → File → Option PlanFault → List LoadNote → List ℕ → Bool → Told
told_file asked (Got bytes) built notes input read_failed = told_read asked (config_of bytes) built notes input read_failed
told_file asked Absent built notes input read_failed = refused (cannot_read_line (unwrap_or (file_asked asked) [])) 4
told_file asked Failed built notes input read_failed = refused (cannot_read_line (unwrap_or (file_asked asked) [])) 4

-- what the program answers where its words ask for this, or have no form, where the file gives this, where this pattern is refused, or
-- none, these are the notes of the loads behind that one, and these bytes are taken from the link that is played before its reading ends or
-- fails
abbrev pub told_words : Option Asked → File → Option PlanFault → List LoadNote → List ℕ → Bool → Told
told_words None file built notes input read_failed = refused usage_line 2
told_words (Some asked) file built notes input read_failed = told_file asked file built notes input read_failed

-- what the program answers to these words, over what the file gives, a refused pattern or none, the notes of later loads, and these bytes of
-- the link
abbrev pub told_run : List (List ℕ) → File → Option PlanFault → List LoadNote → List ℕ → Bool → Told
told_run words file built notes input read_failed = told_words (asked_by words) file built notes input read_failed
