-- The file that a switch was configured by, among files.
use Rattle.std.specs.Prelude.{◌≡◌, ℕ, List, Option}
use Rattle.fs_ports.specs.Loads.{LoadCounts}
use Rattle.fs_ports.specs.declared.files.Load.{Load}
use Rattle.fs_conn.specs.declared.file.ConfigFile.{ConfigFile}

-- what files tell that the loads of one file to come will answer, how often a load failed or found no file, and how often a pattern was too
-- large
pub record FileView : Type 0 where
  pub loads : ℕ → Option Load
  pub counts : LoadCounts
  pub sizes : ℕ

-- so much is told of the file of a name
abbrev pub file_view : (ℕ → Option Load) → LoadCounts → ℕ → FileView
file_view loads counts sizes = record { loads = loads; counts = counts; sizes = sizes }

-- so much files of this kind tell of the one that is loaded
abbrev pub file_of : {F : Type 0} → (F → List ℕ → ℕ → Option Load) → (F → LoadCounts) → (F → ℕ) → ConfigFile F → FileView
file_of loads counts sizes file = file_view (loads file.files.now file.name.now) (counts file.files.now) (sizes file.files.now)

-- it is the same file
pub record IsSameFile {F : Type 0} (old new : ConfigFile F) : Type 0 where
  pub files : new.files.ghost_name ≡ old.files.ghost_name
  pub name : new.name.now ≡ old.name.now
