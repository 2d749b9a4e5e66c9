-- What a contract sees of a journal.
use Rattle.std.specs.Prelude.{ℕ, List}
use Rattle.fs_machine.specs.declared.entry.Entry.{Entry}

-- its entries, in order, and for how many more there is room
pub record Entered : Type 0 where
  pub entries : List Entry
  pub spare : ℕ
