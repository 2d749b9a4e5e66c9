-- What an entry costs.
use Rattle.std.specs.Prelude.{ℕ, ◌+◌, ◌-◌, ◌^◌, min, length, [], Bool, true, false}
use Rattle.fs_text.specs.Texts.{Text}
use Rattle.fs_state.specs.Switch.{Switch}
use Rattle.fs_machine.specs.declared.entry.Act.{Act}
use Rattle.fs_machine.specs.declared.note.LoadNote.{LoadNote}
use Rattle.fs_machine.specs.declared.note.LoadNote.TheVariants as note
use Rattle.fs_machine.specs.declared.entry.Act.TheVariants.{Arrive, Command, Take, Close, Dialed, Work, Job, Loaded, Halt}

-- the bytes of the document that was loaded, where one was read
abbrev pub document_of : LoadNote → Text
document_of (note.Ready text) = text
document_of (note.DocRefused text) = text
document_of (note.PatternRefused text extension condition) = text
document_of (note.PatternTooLarge text extension condition) = text
document_of note.Absent = []
document_of note.Failed = []

-- it notes a load
abbrev pub is_load : Act → Bool
is_load Arrive = false
is_load (Command conn block) = false
is_load (Take conn) = false
is_load (Close conn how) = false
is_load (Dialed slot linked) = false
is_load (Work slot) = false
is_load (Job number) = false
is_load (Loaded number note) = true
is_load Halt = false

-- what an entry costs: 64, and for a command the bytes of its block, for a load those of its document
abbrev pub cost_of : Act → ℕ
cost_of Arrive = 64
cost_of (Command conn block) = 64 + length block
cost_of (Take conn) = 64
cost_of (Close conn how) = 64
cost_of (Dialed slot linked) = 64
cost_of (Work slot) = 64
cost_of (Job number) = 64
cost_of (Loaded number note) = 64 + length (document_of note)
cost_of Halt = 64

-- what the entries cost once this act is one of them, as far as 64 bits go
abbrev pub cost_with : Act → Switch → ℕ
cost_with act s = min (s.cost + cost_of act) (2 ^ 64 - 1)
