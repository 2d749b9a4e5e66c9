-- That a connection is there, and is heard.
use Rattle.std.specs.Prelude.{◌≢◌, ℕ, None, Some}
use Rattle.fs_state.specs.declared.conn.Parting.TheVariants.{EndOfInput}
use Rattle.fs_state.specs.Switch.{Switch, conn_of}
use Rattle.fs_machine.specs.Questions.{parting_at}

-- it is there, and its input has not ended
pub record IsHere (conn : ℕ) (s : Switch) : Type 0 where
  pub there : conn_of s conn ≢ None
  pub hears : parting_at s conn ≢ Some EndOfInput
