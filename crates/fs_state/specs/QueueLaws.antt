-- What holds of every queue, whatever else there is.
use Rattle.std.specs.Prelude.{◌≡◌, ◌≢◌, ◌⊎◌, ◌<◌, ◌≤◌, ℕ, true, Some}
use Rattle.std.specs.List.{AllPairs}
use Rattle.fs_text.specs.Texts.{Text}
use Rattle.fs_chan.specs.declared.chan.Chan.{Chan}
use Rattle.fs_chan.specs.declared.turn.Turn.{Turn}
use Rattle.fs_chan.specs.Changes.{is_live}
use Rattle.fs_chan.specs.Queueing.{queue_of, turn_of}
use Rattle.fs_bridge.specs.Hangups.{IsOneOf}
use Rattle.fs_state.specs.Switch.{Switch, chan_at}
use Rattle.fs_state.specs.Queues.{Caller, queue}

-- a caller may stand before another: its priority has the lesser number, or the same and it came no later
abbrev pub IsNoLater : Caller → Caller → Type 0
IsNoLater a b = (a.1.priority < b.1.priority) ⊎ ((a.1.priority ≡ b.1.priority) × (a.1.arrival ≤ b.1.arrival))

-- whoever stands in a queue is a live channel that waits there, with this turn
pub record WaitsThere (name : Text) (s : Switch) (caller : Caller) : Type 0 where
  pub chan : Chan
  pub there : chan_at s caller.0 ≡ Some chan
  pub turn : turn_of name chan ≡ Some caller.1
  pub live : is_live chan ≡ true

-- of the queue of a name
pub record IsSoundQueue (name : Text) (s : Switch) : Type 0 where
  -- it is in order
  pub order : AllPairs IsNoLater (queue name s)
  pub callers : (caller : Caller) → IsOneOf caller (queue name s) → WaitsThere name s caller
  -- whoever waits there stands in it
  pub all : (slot : ℕ) (c : Chan) (turn : Turn) → chan_at s slot ≡ Some c → turn_of name c ≡ Some turn → IsOneOf (slot, turn) (queue name s)
  -- no slot stands in it twice
  pub once : AllPairs (λ (a b : Caller). a.0 ≢ b.0) (queue name s)

-- each queue is so
abbrev pub QueuesAreSound : Type 0
QueuesAreSound = (name : Text) (s : Switch) → IsSoundQueue name s

-- a channel waits in one queue at most, and has a turn in that
abbrev pub WaitsInOne : Type 0
WaitsInOne = (name : Text) (c : Chan) (turn : Turn) → turn_of name c ≡ Some turn → queue_of c ≡ Some name
