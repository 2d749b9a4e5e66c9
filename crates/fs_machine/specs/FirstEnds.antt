-- What the end of a bridge leaves of its legs.
use Rattle.std.specs.Prelude.{◌≡◌, ◌<◌, ◌⊎◌, ℕ, None, Some, codes, List}
use Rattle.fs_text.specs.Cause.{cause_name}
use Rattle.fs_text.specs.declared.causes.Cause.{Cause}
use Rattle.fs_vars.specs.Pairs.{value_of}
use Rattle.fs_bridge.specs.declared.row.Row.{Row}
use Rattle.fs_bridge.specs.Hangups.{IsOneOf}
use Rattle.fs_chan.specs.declared.chan.Chan.{Chan}
use Rattle.fs_state.specs.declared.event.Detail.TheVariants.{Unbridge}
use Rattle.fs_state.specs.declared.event.Event.{Event}
use Rattle.fs_state.specs.Switch.{Switch, chan_at, bridge_at}

-- a slot is in a bridge whose number none had before
pub record IsJoinedSince (old new : Switch) (slot : ℕ) : Type 0 where
  pub row : Row
  pub part : bridge_at new slot ≡ Some row
  pub number : old.bridges.drawn < row.number

-- a channel is there, live or hung up; a variable tells the cause of which its bridge ended, and it names no peer, or one of a bridge that
-- was joined since
pub record IsLetGo (old new : Switch) (slot : ℕ) (cause : Cause) : Type 0 where
  pub chan : Chan
  pub there : chan_at new slot ≡ Some chan
  pub apart : (chan.peer ≡ None) ⊎ IsJoinedSince old new slot
  pub told : value_of chan.vars.pairs (codes "bridge_hangup_cause") ≡ Some (cause_name cause)

-- a bridge that stood before has ended of a cause, and both of its legs have been let go
pub record IsRecorded (old new : Switch) (row : Row) (cause : Cause) : Type 0 where
  pub caller_was : bridge_at old row.caller ≡ Some row
  pub answerer_was : bridge_at old row.answerer ≡ Some row
  pub caller : IsLetGo old new row.caller cause
  pub answerer : IsLetGo old new row.answerer cause

-- each end of a bridge that these events tell is one of a bridge that stood before, and both legs are let go of that cause
abbrev pub EndsAreRecorded : Switch → Switch → List Event → Type 0
EndsAreRecorded old new events =
    (row : Row) (cause : Cause) (event : Event) → IsOneOf event events → event.detail ≡ Unbridge row cause → IsRecorded old new row cause
