-- Connections, and how they change.
use Rattle.std.specs.Prelude.{ℕ, Option, None, Some}
use Rattle.fs_filter.specs.Subscriptions.{Subscription, nothing}
use Rattle.fs_state.specs.declared.conn.Conn.{Conn}
use Rattle.fs_state.specs.declared.conn.Phase.{Phase}
use Rattle.fs_state.specs.declared.conn.Phase.TheVariants.{Ready, Ending, Closed}
use Rattle.fs_state.specs.declared.conn.Parting.{Parting}
use Rattle.fs_state.specs.Switch.{Switch, conn_of, with_conn}

-- a connection that is not there is closed
abbrev pub phase_of : Option Conn → Phase
phase_of None = Closed
phase_of (Some c) = c.phase

-- the phase of the connection of a number
abbrev pub phase_at : Switch → ℕ → Phase
phase_at s number = phase_of (conn_of s number)

-- a connection is changed, if it is there
abbrev pub conn_changed_from : (Conn → Conn) → ℕ → Option Conn → Switch → Switch
conn_changed_from change number None s = s
conn_changed_from change number (Some c) s = with_conn number (change c) s

-- the connection of a number is changed, if it is there
abbrev pub conn_changed : (Conn → Conn) → ℕ → Switch → Switch
conn_changed change number s = conn_changed_from change number (conn_of s number) s

-- it may give all commands
abbrev pub admitted : Conn → Conn
admitted c = record c { phase = Ready }

-- it gives no further command, and wants no further event
abbrev pub parted : Parting → Conn → Conn
parted why c = record c { phase = Ending; parting = Some why; subs = nothing }

-- the place of the command to which the reply is owed
abbrev pub owed_since : ℕ → Conn → Conn
owed_since place c = record c { owed = Some place }

-- no reply is owed to it
abbrev pub not_owed : Conn → Conn
not_owed c = record c { owed = None }

-- ---- what it subscribes

-- it has subscribed this
abbrev pub with_subs : Subscription → Conn → Conn
with_subs subs c = record c { subs = subs }

-- what it subscribed is changed
abbrev pub with_subs_changed : (Subscription → Subscription) → Conn → Conn
with_subs_changed change c = record c { subs = change c.subs }

-- what a connection subscribed, where it is there
abbrev pub subs_of : Option Conn → Subscription
subs_of None = nothing
subs_of (Some c) = c.subs

-- what the connection of a number subscribed
abbrev pub subs_at : Switch → ℕ → Subscription
subs_at s number = subs_of (conn_of s number)
