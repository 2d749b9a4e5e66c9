-- The ranges of the numbers of an entry.
use Rattle.std.specs.Prelude.{◌<◌, ◌^◌, List, length}
use Rattle.std.specs.List.{All}
use Rattle.fs_machine.specs.declared.entry.Entry.{Entry}
use Rattle.fs_machine.specs.declared.entry.Act.{Act}
use Rattle.fs_machine.specs.declared.entry.Act.TheVariants.{Arrive, Command, Take, Close, Dialed, Work, Job, Loaded, Halt}
use Rattle.fs_machine.specs.declared.note.LoadNote.{LoadNote}
use Rattle.fs_machine.specs.declared.note.LoadNote.TheVariants.{Ready, DocRefused, PatternRefused, PatternTooLarge, Absent, Failed}

-- the numbers of a note are in the ranges of their types
abbrev pub IsFitNote : LoadNote → Type 0
IsFitNote (Ready text) = length text < 2 ^ 64
IsFitNote (DocRefused text) = length text < 2 ^ 64
IsFitNote (PatternRefused text extension condition) = (extension < 2 ^ 32) × ((condition < 2 ^ 32) × (length text < 2 ^ 64))
IsFitNote (PatternTooLarge text extension condition) = (extension < 2 ^ 32) × ((condition < 2 ^ 32) × (length text < 2 ^ 64))
IsFitNote Absent = Unit {0}
IsFitNote Failed = Unit {0}

-- so are those of an act
abbrev pub IsFitAct : Act → Type 0
IsFitAct Arrive = Unit {0}
IsFitAct Halt = Unit {0}
IsFitAct (Command conn block) = (conn < 2 ^ 32) × (length block < 2 ^ 64)
IsFitAct (Take conn) = conn < 2 ^ 32
IsFitAct (Close conn how) = conn < 2 ^ 32
IsFitAct (Dialed slot linked) = slot < 2 ^ 16
IsFitAct (Work slot) = slot < 2 ^ 16
IsFitAct (Job job) = job < 2 ^ 64
IsFitAct (Loaded job note) = (job < 2 ^ 64) × IsFitNote note

-- so are those of an entry, as of each value of its type
pub record IsFit (entry : Entry) : Type 0 where
  pub moment : entry.moment < 2 ^ 64
  pub act : IsFitAct entry.act

-- and those of all entries
abbrev pub AreFit : List Entry → Type 0
AreFit entries = All IsFit entries
