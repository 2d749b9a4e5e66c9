-- How the lines of a journal are read. Contracts of private functions speak of it; that it is right is proved against the texts.
use Rattle.std.specs.Prelude.{◌≡◌, ℕ, ◌^◌, Bool, true, false, not, ◌&&◌, ◌==◌, nat_eq, nat_lt, nat_le, if◌then◌else◌, List, [], ◌∷◌, length, take, drop, slice_index, codes}
use Rattle.std.specs.Prelude.{Option, None, Some, Result, Ok, Err}
use Rattle.std.specs.Char.{is_ascii_digit}
use Rattle.std.specs.List.{position_or_len, starts_with}
use Rattle.fs_text.specs.Number.{read_u64}
use Rattle.fs_machine.specs.declared.entry.Entry.{Entry}
use Rattle.fs_machine.specs.declared.entry.Act.{Act}
use Rattle.fs_machine.specs.declared.entry.Act.TheVariants.{Arrive, Command, Take, Close, Dialed, Work, Job, Loaded, Halt}
use Rattle.fs_machine.specs.declared.entry.Closing.{Closing}
use Rattle.fs_machine.specs.declared.entry.Closing.TheVariants.{EndOfInput, Sent, Failed}
use Rattle.fs_machine.specs.declared.note.LoadNote.{LoadNote}
use Rattle.fs_machine.specs.declared.note.LoadNote.TheVariants as note
use Rattle.fs_replay.specs.declared.fault.Fault.{Fault}
use Rattle.fs_replay.specs.declared.fault.Fault.TheVariants.{Bad, Cut, Memory}
use Rattle.fs_replay.specs.declared.acts.Head.{Head}
use Rattle.fs_replay.specs.declared.loads.Kind.{Kind}
use Rattle.fs_replay.specs.declared.loads.Kind.TheVariants.{Ready, DocRefused, PatternRefused, PatternTooLarge}
use Rattle.fs_replay.specs.declared.loads.Spot.{Spot}

-- what was read, and what is left behind it; or nothing was
abbrev pub Read : Type 0 → Type 0
Read X = Option (X × List ℕ)

-- what was taken, and what is left, is what is read
abbrev pub Took : {X : Type 0} → Option X → List ℕ → Read X → Type 0
Took None left read = read ≡ None
Took (Some x) left read = read ≡ Some (x, left)

-- what follows is read behind it
abbrev pub and_then : {X Y : Type 0} → Read X → (X → List ℕ → Read Y) → Read Y
and_then None next = None
and_then (Some r) next = next r.0 r.1

-- ---- words and numbers

-- the word stands in front
abbrev pub begins : List ℕ → List ℕ → Bool
begins word bytes = starts_with nat_eq bytes word

-- what is left behind the word; what it is where the word stands in front
abbrev pub word_at : {X : Type 0} → List ℕ → X → List ℕ → Read X
word_at word x bytes = if begins word bytes then Some (x, drop (length word) bytes) else None

-- the first byte
abbrev pub letter_at : List ℕ → Read ℕ
letter_at [] = None
letter_at (letter ∷ bytes) = Some (letter, bytes)

-- no digit
abbrev pub is_other : ℕ → Bool
is_other byte = not (is_ascii_digit byte)

-- the number of some digits without leading zeros
unfoldable pub number_of : List ℕ → Option ℕ
number_of digits = if nat_lt 1 (length digits) && (slice_index digits 0 == 48) then None else read_u64 digits

-- with what is left behind it
abbrev pub leaving : {X : Type 0} → List ℕ → Option X → Read X
leaving left None = None
leaving left (Some x) = Some (x, left)

-- the number of the digits in front
abbrev pub number_at : List ℕ → Read ℕ
number_at bytes = let len = position_or_len is_other bytes in leaving (drop len bytes) (number_of (take len bytes))

-- the number behind a space
unfoldable pub field_at : List ℕ → Read ℕ
field_at bytes = if begins (codes " ") bytes then number_at (drop 1 bytes) else None

-- where it is below a limit
abbrev pub below : ℕ → Read ℕ → Read ℕ
below limit None = None
below limit (Some r) = if nat_lt r.0 limit then Some r else None

unfoldable pub conn_at : List ℕ → Read ℕ
conn_at bytes = below (2 ^ 32) (field_at bytes)

unfoldable pub slot_at : List ℕ → Read ℕ
slot_at bytes = below (2 ^ 16) (field_at bytes)

-- ---- acts

-- an act whose line ends there
unfoldable pub ended_at : Act → List ℕ → Read Act
ended_at act bytes = word_at (codes "\n") act bytes

unfoldable pub taken_at : List ℕ → Read Act
taken_at bytes = and_then (conn_at bytes) (λ conn left. ended_at (Take conn) left)

unfoldable pub work_at : List ℕ → Read Act
work_at bytes = and_then (slot_at bytes) (λ slot left. ended_at (Work slot) left)

unfoldable pub job_at : List ℕ → Read Act
job_at bytes = and_then (field_at bytes) (λ job left. ended_at (Job job) left)

unfoldable pub closing_at : List ℕ → Read Closing
closing_at bytes =
    if begins (codes " in\n") bytes then Some (EndOfInput, drop 4 bytes)
    else (if begins (codes " sent\n") bytes then Some (Sent, drop 6 bytes) else word_at (codes " failed\n") Failed bytes)

unfoldable pub close_at : List ℕ → Read Act
close_at bytes = and_then (conn_at bytes) (λ conn left. and_then (closing_at left) (λ how behind. Some (Close conn how, behind)))

unfoldable pub linked_at : List ℕ → Read Bool
linked_at bytes = if begins (codes " 1\n") bytes then Some (true, drop 3 bytes) else word_at (codes " 0\n") false bytes

unfoldable pub dialed_at : List ℕ → Read Act
dialed_at bytes = and_then (slot_at bytes) (λ slot left. and_then (linked_at left) (λ linked behind. Some (Dialed slot linked, behind)))

-- the act of a letter other than those of a command and of a load
unfoldable pub plain_at : ℕ → List ℕ → Read Act
plain_at letter bytes =
    if letter == 65 then ended_at Arrive bytes
    else (if letter == 72 then ended_at Halt bytes
    else (if letter == 84 then taken_at bytes
    else (if letter == 88 then close_at bytes
    else (if letter == 68 then dialed_at bytes
    else (if letter == 87 then work_at bytes
    else (if letter == 74 then job_at bytes
    else None))))))

-- ---- commands

-- the connection, and the length of the block
unfoldable pub head_at : List ℕ → Read Head
head_at bytes =
    and_then (conn_at bytes) (λ conn left. and_then (field_at left) (λ len behind. word_at (codes "\n") (record { conn = conn; len = len }) behind))

-- what was read of a line, and what is left behind it; or why nothing was
abbrev pub Reads : Type 0 → Type 0
Reads X = Result (X × List ℕ) Fault

-- the block of so many bytes, with LF behind it
unfoldable pub block_at : ℕ → List ℕ → Reads (List ℕ)
block_at len bytes =
    if nat_le (length bytes) len then Err Cut
    else (if begins (codes "\n") (drop len bytes) then Ok (take len bytes, drop 1 (drop len bytes)) else Err Bad)

-- a command to a connection
abbrev pub of_block : ℕ → Reads (List ℕ) → Reads Act
of_block conn (Ok r) = Ok (Command conn r.0, r.1)
of_block conn (Err fault) = Err fault

abbrev pub of_head : Read Head → Reads Act
of_head None = Err Bad
of_head (Some r) = of_block r.0.conn (block_at r.0.len r.1)

unfoldable pub command_at : List ℕ → Reads Act
command_at bytes = of_head (head_at bytes)

-- ---- loads

-- an extension and a condition
unfoldable pub spot_at : List ℕ → Read Spot
spot_at bytes =
    and_then (conn_at bytes) (λ extension left.
    and_then (conn_at left) (λ condition behind. Some (record { extension = extension; condition = condition }, behind)))

-- what is noted of a text
unfoldable pub kind_at : List ℕ → Read Kind
kind_at bytes =
    if begins (codes " ready") bytes then Some (Ready, drop 6 bytes)
    else (if begins (codes " doc") bytes then Some (DocRefused, drop 4 bytes)
    else (if begins (codes " pattern") bytes then and_then (spot_at (drop 8 bytes)) (λ spot left. Some (PatternRefused spot, left))
    else (if begins (codes " large") bytes then and_then (spot_at (drop 6 bytes)) (λ spot left. Some (PatternTooLarge spot, left))
    else None)))

-- with the text
abbrev pub noted : Kind → List ℕ → LoadNote
noted Ready text = note.Ready text
noted DocRefused text = note.DocRefused text
noted (PatternRefused spot) text = note.PatternRefused text spot.extension spot.condition
noted (PatternTooLarge spot) text = note.PatternTooLarge text spot.extension spot.condition

-- what is noted, and the length of the text
unfoldable pub notice_at : List ℕ → Read (Kind × ℕ)
notice_at bytes =
    and_then (kind_at bytes) (λ kind left. and_then (field_at left) (λ len behind. word_at (codes "\n") (kind, len) behind))

abbrev pub of_text : Kind → Reads (List ℕ) → Reads LoadNote
of_text kind (Ok r) = Ok (noted kind r.0, r.1)
of_text kind (Err fault) = Err fault

abbrev pub of_notice : Read (Kind × ℕ) → Reads LoadNote
of_notice None = Err Bad
of_notice (Some r) = of_text r.0.0 (block_at r.0.1 r.1)

unfoldable pub note_at : List ℕ → Reads LoadNote
note_at bytes =
    if begins (codes " absent\n") bytes then Ok (note.Absent, drop 8 bytes)
    else (if begins (codes " failed\n") bytes then Ok (note.Failed, drop 8 bytes) else of_notice (notice_at bytes))

-- a load of a job
abbrev pub of_note : ℕ → Reads LoadNote → Reads Act
of_note job (Ok r) = Ok (Loaded job r.0, r.1)
of_note job (Err fault) = Err fault

abbrev pub of_job : Read ℕ → Reads Act
of_job None = Err Bad
of_job (Some r) = of_note r.0 (note_at r.1)

unfoldable pub loaded_at : List ℕ → Reads Act
loaded_at bytes = of_job (field_at bytes)

-- ---- entries

abbrev pub or_bad : {X : Type 0} → Read X → Reads X
or_bad None = Err Bad
or_bad (Some r) = Ok r

-- the act of any letter
unfoldable pub act_at : ℕ → List ℕ → Reads Act
act_at letter bytes =
    if letter == 67 then command_at bytes
    else (if letter == 76 then loaded_at bytes else or_bad (plain_at letter bytes))

abbrev pub of_act : ℕ → Reads Act → Reads Entry
of_act moment (Ok r) = Ok (record { moment = moment; act = r.0 }, r.1)
of_act moment (Err fault) = Err fault

abbrev pub of_moment : ℕ → Read ℕ → Reads Entry
of_moment letter None = Err Bad
of_moment letter (Some r) = of_act r.0 (act_at letter r.1)

abbrev pub of_letter : Read ℕ → Reads Entry
of_letter None = Err Bad
of_letter (Some r) = of_moment r.0 (field_at r.1)

unfoldable pub entry_at : List ℕ → Reads Entry
entry_at bytes = of_letter (letter_at bytes)

-- the number of the last line
unfoldable pub count_at : List ℕ → Read ℕ
count_at bytes = if begins (codes "Z") bytes then and_then (field_at (drop 1 bytes)) (λ count left. word_at (codes "\n") count left) else None

-- what a reading that may want memory gave is what is read
abbrev pub Gave : {X : Type 0} → Result X Fault → List ℕ → Reads X → Type 0
Gave (Ok x) left read = read ≡ Ok (x, left)
Gave (Err Bad) left read = read ≡ Err Bad
Gave (Err Cut) left read = read ≡ Err Cut
Gave (Err Memory) left read = Unit {0}
