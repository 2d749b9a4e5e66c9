-- The text of a journal.
use Rattle.std.specs.Prelude.{ℕ, Bool, true, false, List, ◌∷◌, ◌++◌, length, codes}
use Rattle.std.specs.Fmt.{decimal}
use Rattle.std.specs.List.{flat_map}
use Rattle.fs_machine.specs.declared.entry.Entry.{Entry}
use Rattle.fs_machine.specs.declared.entry.Act.{Act}
use Rattle.fs_machine.specs.declared.entry.Act.TheVariants.{Arrive, Command, Take, Close, Dialed, Work, Job, Loaded, Halt}
use Rattle.fs_machine.specs.declared.entry.Closing.{Closing}
use Rattle.fs_machine.specs.declared.entry.Closing.TheVariants.{EndOfInput, Sent, Failed}
use Rattle.fs_machine.specs.declared.note.LoadNote.{LoadNote}
use Rattle.fs_machine.specs.declared.note.LoadNote.TheVariants as note

-- a number, with the space in front of it
abbrev pub field : ℕ → List ℕ
field n = 32 ∷ decimal n

-- the letter of an act
abbrev pub letter_of : Act → ℕ
letter_of Arrive = 65
letter_of Halt = 72
letter_of (Command conn block) = 67
letter_of (Take conn) = 84
letter_of (Close conn how) = 88
letter_of (Dialed slot linked) = 68
letter_of (Work slot) = 87
letter_of (Job job) = 74
letter_of (Loaded job note) = 76

-- the word for how a connection comes to its end, with the space in front of it and LF
abbrev pub closing_text : Closing → List ℕ
closing_text EndOfInput = codes " in\n"
closing_text Sent = codes " sent\n"
closing_text Failed = codes " failed\n"

-- 1 where there is a link, and 0 where there is none, with the space in front of it and LF
abbrev pub linked_text : Bool → List ℕ
linked_text true = codes " 1\n"
linked_text false = codes " 0\n"

-- the length of some bytes and LF, then the bytes and LF
abbrev pub block_text : List ℕ → List ℕ
block_text block = field (length block) ++ codes "\n" ++ block ++ codes "\n"

-- what is noted of a load
abbrev pub note_words : LoadNote → List ℕ
note_words (note.Ready text) = codes " ready"
note_words (note.DocRefused text) = codes " doc"
note_words (note.PatternRefused text extension condition) = codes " pattern" ++ field extension ++ field condition
note_words (note.PatternTooLarge text extension condition) = codes " large" ++ field extension ++ field condition
note_words note.Absent = codes " absent"
note_words note.Failed = codes " failed"

-- the text that was loaded, if there was one
abbrev pub note_block : LoadNote → List ℕ
note_block (note.Ready text) = block_text text
note_block (note.DocRefused text) = block_text text
note_block (note.PatternRefused text extension condition) = block_text text
note_block (note.PatternTooLarge text extension condition) = block_text text
note_block note.Absent = codes "\n"
note_block note.Failed = codes "\n"

-- what stands behind the moment: up to LF, and for a command or a text that was loaded its bytes and LF too
abbrev pub act_text : Act → List ℕ
act_text Arrive = codes "\n"
act_text Halt = codes "\n"
act_text (Command conn block) = field conn ++ block_text block
act_text (Take conn) = field conn ++ codes "\n"
act_text (Close conn how) = field conn ++ closing_text how
act_text (Dialed slot linked) = field slot ++ linked_text linked
act_text (Work slot) = field slot ++ codes "\n"
act_text (Job job) = field job ++ codes "\n"
act_text (Loaded job note) = field job ++ note_words note ++ note_block note

-- the line of an entry: its letter, its moment, and what its act says
unfoldable pub entry_text : Entry → List ℕ
entry_text entry = letter_of entry.act ∷ field entry.moment ++ act_text entry.act

-- the first line
abbrev pub first_line : List ℕ
first_line = codes "fsw journal 1\n"

-- the last line, which tells how many entries there are
unfoldable pub last_line : ℕ → List ℕ
last_line count = 90 ∷ field count ++ codes "\n"

-- the lines of entries
unfoldable pub entries_text : List Entry → List ℕ
entries_text entries = flat_map entry_text entries

-- the lines in front of the last
unfoldable pub lines_text : List Entry → List ℕ
lines_text entries = first_line ++ entries_text entries

-- the text of a journal with these entries
unfoldable pub journal_text : List Entry → List ℕ
journal_text entries = lines_text entries ++ last_line (length entries)
