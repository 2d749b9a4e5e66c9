-- Who owes a connection its reply, and how connections part: what holds in every state.
use Rattle.std.specs.Prelude.{◌≡◌, ◌≢◌, ℕ, Option, None, Some}
use Rattle.fs_seats.specs.declared.numbered.Numbered.{Numbered}
use Rattle.fs_state.specs.declared.conn.Conn.{Conn}
use Rattle.fs_state.specs.declared.conn.Phase.{Phase}
use Rattle.fs_state.specs.declared.conn.Phase.TheVariants.{Fresh, Ready, Ending, Closed}
use Rattle.fs_state.specs.declared.conn.Parting.{Parting}
use Rattle.fs_state.specs.declared.job.Asker.TheVariants as asker
use Rattle.fs_state.specs.declared.job.Job.{Job}
use Rattle.fs_state.specs.Switch.{Switch, job_at, job_of, conn_of}
use Rattle.fs_machine.specs.Due.{job_due}
use Rattle.fs_machine.specs.Questions.{owed_to}

-- at this seat stands a job, known by its number, that owes a connection its reply; no other does, and it has a next moment
pub record OwesFrom (s : Switch) (conn seat : ℕ) (row : Numbered Job) : Type 0 where
  pub there : job_at s seat ≡ Some row
  pub owes : row.held.asker ≡ asker.Conn conn
  pub known : job_of s row.number ≡ Some row.held
  pub alone : (other : ℕ) (another : Numbered Job) → job_at s other ≡ Some another → another.held.asker ≡ asker.Conn conn → other ≡ seat
  pub due : job_due row.number s ≢ None

-- one job owes a connection its reply
abbrev pub HasOneJob : Switch → ℕ → Type 0
HasOneJob s conn = (seat : ℕ) × (row : Numbered Job) × OwesFrom s conn seat row

-- one that reads commands has not parted, one that is ending has, and one that is closed is not there
abbrev pub PartsIn : Phase → Option Parting → Type 0
PartsIn Fresh parting = parting ≡ None
PartsIn Ready parting = parting ≡ None
PartsIn Ending parting = parting ≢ None
PartsIn Closed parting = ⊥

-- a connection has parted just where its phase says so
abbrev pub Parts : Conn → Type 0
Parts c = PartsIn c.phase c.parting

-- each connection that is owed a reply has one job that owes it, each job has a next moment, and each connection that is there parts as
-- its phase says
pub record AreOwed (s : Switch) : Type 0 where
  pub owed : (conn since : ℕ) → owed_to s conn ≡ Some since → HasOneJob s conn
  pub due : (seat : ℕ) (row : Numbered Job) → job_at s seat ≡ Some row → job_due row.number s ≢ None
  pub parted : (conn : ℕ) (c : Conn) → conn_of s conn ≡ Some c → Parts c
