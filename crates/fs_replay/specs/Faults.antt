-- Where bytes are not a journal's text.
use Rattle.std.specs.Prelude.{◌≡◌, ◌≢◌, ◌⊎◌, ℕ, ◌≤◌, ◌<◌, ◌^◌, ◌-◌, ◌==◌, Bool, false, List, [], ◌∷◌, ◌++◌, length, codes}
use Rattle.std.specs.List.{list_any}
use Rattle.fs_machine.specs.declared.entry.Entry.{Entry}
use Rattle.fs_machine.specs.declared.entry.Act.TheVariants.{Loaded}
use Rattle.fs_machine.specs.declared.note.LoadNote.{LoadNote}
use Rattle.fs_machine.specs.declared.note.LoadNote.TheVariants.{Ready, DocRefused, PatternRefused, PatternTooLarge, Absent, Failed}
use Rattle.std.specs.Prelude.{Result, Ok, Err, if◌then◌else◌}
use Rattle.fs_machine.specs.Journals.{Entered}
use Rattle.fs_replay.specs.declared.fault.JournalFault.{JournalFault}
use Rattle.fs_replay.specs.declared.fault.JournalFault.TheVariants.{BadLine, Memory}
use Rattle.fs_replay.specs.Texts.{field, note_words, entry_text, first_line, last_line, lines_text, journal_text}
use Rattle.fs_replay.specs.Bounds.{IsFitAct, IsFit, AreFit}

-- LF, which ends a line
abbrev pub is_lf : ℕ → Bool
is_lf byte = byte == 10

-- the bytes end before LF
abbrev pub IsCut : List ℕ → Type 0
IsCut left = list_any is_lf left ≡ false

-- the line of a command up to its block
unfoldable pub command_line : ℕ → ℕ → ℕ → List ℕ
command_line moment conn len = 67 ∷ field moment ++ field conn ++ field len ++ codes "\n"

-- the bytes end within a command's block or before the LF behind it
pub record IsCutBlock (left : List ℕ) : Type 0 where
  pub moment : ℕ
  pub conn : ℕ
  pub len : ℕ
  pub block : List ℕ
  pub moment_fits : moment < 2 ^ 64
  pub conn_fits : conn < 2 ^ 32
  pub len_fits : len < 2 ^ 64
  pub is : left ≡ command_line moment conn len ++ block
  pub short : length block ≤ len

-- some bytes were loaded
abbrev pub HasText : LoadNote → Type 0
HasText (Ready text) = Unit {0}
HasText (DocRefused text) = Unit {0}
HasText (PatternRefused text extension condition) = Unit {0}
HasText (PatternTooLarge text extension condition) = Unit {0}
HasText Absent = ⊥
HasText Failed = ⊥

-- the line of a load up to the text that was loaded
unfoldable pub load_line : ℕ → ℕ → LoadNote → ℕ → List ℕ
load_line moment job note len = 76 ∷ field moment ++ field job ++ note_words note ++ field len ++ codes "\n"

-- the bytes end within the text that was loaded or before the LF behind it
pub record IsCutText (left : List ℕ) : Type 0 where
  pub moment : ℕ
  pub job : ℕ
  pub note : LoadNote
  pub len : ℕ
  pub block : List ℕ
  pub moment_fits : moment < 2 ^ 64
  pub act_fits : IsFitAct (Loaded job note)
  pub len_fits : len < 2 ^ 64
  pub text : HasText note
  pub is : left ≡ load_line moment job note len ++ block
  pub short : length block ≤ len

-- the bytes end within the line of an entry or the last line
abbrev pub IsCutLine : List ℕ → Type 0
IsCutLine left = IsCut left ⊎ (IsCutBlock left ⊎ IsCutText left)

-- behind these entries' lines it can be the next line of a journal
abbrev pub CanFollow : List Entry → List ℕ → Type 0
CanFollow entries line = ((entry : Entry) × (IsFit entry × (line ≡ entry_text entry))) ⊎ (line ≡ last_line (length entries))

-- what is left begins with no line that can stand there: the fault is at its start, or at the end where the bytes end within it
pub record IsFault (CanStand : List ℕ → Type 0) (Cut : Type 0) (left : List ℕ) (start end at : ℕ) : Type 0 where
  pub none : (line behind : List ℕ) → CanStand line → left ≡ line ++ behind → ⊥
  pub place : (Cut × (at ≡ end)) ⊎ ((Cut → ⊥) × (at ≡ start))

-- the first line is another
abbrev pub IsBadFirst : List ℕ → ℕ → Type 0
IsBadFirst bytes at = IsFault (λ line. line ≡ first_line) (IsCut bytes) bytes 0 (length bytes) at

-- behind the first line and those of some entries stands no line that a journal goes on with
pub record IsBadNext (bytes : List ℕ) (at : ℕ) : Type 0 where
  pub entries : List Entry
  pub left : List ℕ
  pub fit : AreFit entries
  pub front : bytes ≡ lines_text entries ++ left
  pub fault : IsFault (CanFollow entries) (IsCutLine left) left (length (lines_text entries)) (length bytes) at

-- something stands behind the text of a journal
pub record IsBadBehind (bytes : List ℕ) (at : ℕ) : Type 0 where
  pub entries : List Entry
  pub left : List ℕ
  pub fit : AreFit entries
  pub front : bytes ≡ journal_text entries ++ left
  pub some : left ≢ []
  pub place : at ≡ length (journal_text entries)

-- the bytes are no journal's text from this offset on: there starts the first line that no journal has, or the bytes end
abbrev pub IsBadAt : List ℕ → ℕ → Type 0
IsBadAt bytes at = IsBadFirst bytes at ⊎ (IsBadNext bytes at ⊎ IsBadBehind bytes at)

-- a fault tells where the bytes are bad
abbrev pub Blames : List ℕ → JournalFault → Type 0
Blames bytes (BadLine at) = IsBadAt bytes at
Blames bytes Memory = Unit {0}

-- these entries are what is read, unless memory is wanting
abbrev pub OnlyReads : List Entry → Result Entered JournalFault → Type 0
OnlyReads entries (Ok journal) = journal.entries ≡ entries
OnlyReads entries (Err fault) = fault ≡ Memory

-- these are all the entries in front of what is left
pub record IsFront (bytes : List ℕ) (entries : List Entry) (left : List ℕ) : Type 0 where
  pub fit : AreFit entries
  pub front : bytes ≡ lines_text entries ++ left

-- where a line that ends with its first LF would stand, if it is bad
abbrev pub place_of : List ℕ → List ℕ → ℕ
place_of bytes left = if list_any is_lf left then length bytes - length left else length bytes
