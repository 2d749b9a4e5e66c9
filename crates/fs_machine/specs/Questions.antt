-- What is asked of a switch.
use Rattle.std.specs.Prelude.{ℕ, Bool, Option, is_some, count_by}
use Rattle.std.specs.Option.{option_and_then}
use Rattle.fs_state.specs.declared.conn.Conn.{Conn}
use Rattle.fs_state.specs.declared.conn.Parting.{Parting}
use Rattle.fs_state.specs.Losses.{lost_in}
use Rattle.fs_state.specs.Switch.{Switch, conn_of}

-- why it reads no further command, where it reads none
abbrev pub parting_of : Conn → Option Parting
parting_of c = c.parting

-- why a connection reads no further command
abbrev pub parting_at : Switch → ℕ → Option Parting
parting_at s conn = option_and_then parting_of (conn_of s conn)

-- the place of the command to which it is still owed the reply
abbrev pub owed_of : Conn → Option ℕ
owed_of c = c.owed

-- the place of the command to which a connection is still owed the reply
abbrev pub owed_to : Switch → ℕ → Option ℕ
owed_to s conn = option_and_then owed_of (conn_of s conn)

-- a connection is still owed a reply
abbrev pub owes : Switch → ℕ → Bool
owes s conn = is_some (owed_to s conn)

-- how many events a connection did not get that it wanted, also where it is gone
abbrev pub lost : Switch → ℕ → ℕ
lost s conn = lost_in conn s.losses

-- how many jobs are left
abbrev pub jobs_left : Switch → ℕ
jobs_left s = count_by is_some s.jobs

-- how many slots hold a channel
abbrev pub live : Switch → ℕ
live s = count_by is_some s.channels
