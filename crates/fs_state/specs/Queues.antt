-- The queues: who waits in them, as the channels say, who is taken next, and what is told of them.
use Rattle.std.specs.Prelude.{ℕ, ◌+◌, if◌then◌else◌, Bool, false, List, [], ◌∷◌, ◌++◌, Option, None, Some, option_map, is_some}
use Rattle.std.specs.Option.{option_and_then}
use Rattle.fs_text.specs.Texts.{Text}
use Rattle.fs_text.specs.declared.event_names.EventName.TheVariants.{Custom}
use Rattle.fs_chan.specs.declared.chan.Chan.{Chan}
use Rattle.fs_chan.specs.declared.turn.Turn.{Turn}
use Rattle.fs_chan.specs.Queueing.{is_sooner, queue_of, turn_of}
use Rattle.fs_chan.specs.Work.{first_of}
use Rattle.fs_state.specs.declared.event.Event.{Event}
use Rattle.fs_state.specs.declared.event.Detail.TheVariants.{Queue}
use Rattle.fs_state.specs.declared.event.QueueAction.{QueueAction}
use Rattle.fs_state.specs.declared.event.QueueAction.TheVariants.{Abort}
use Rattle.fs_state.specs.Switch.{Switch, chan_at, with_event}

-- ---- who waits

-- a caller: its slot, and its turn in the queue
abbrev pub Caller : Type 0
Caller = ℕ × Turn

-- the turn of a channel in the queue of a name, if there is one and it waits there
abbrev pub turn_at : Text → Option Chan → Option Turn
turn_at name None = None
turn_at name (Some c) = turn_of name c

-- it waits there
abbrev pub waits : Text → Option Chan → Bool
waits name None = false
waits name (Some c) = is_some (turn_of name c)

-- the caller in a slot, if it has a turn
abbrev pub caller_in : ℕ → Option Turn → List Caller
caller_in slot None = []
caller_in slot (Some turn) = (slot, turn) ∷ []

-- the callers of a queue that stand in slots from one on
abbrev pub callers_from : Text → ℕ → List (Option Chan) → List Caller
callers_from name slot [] = []
callers_from name slot (chan ∷ chans) = caller_in slot (turn_at name chan) ++ callers_from name (slot + 1) chans

-- callers in turn, with one more behind those whose turn comes sooner
abbrev pub placed : Caller → List Caller → List Caller
placed new [] = new ∷ []
placed new (caller ∷ callers) =
    if is_sooner caller.1 new.1 then caller ∷ placed new callers else new ∷ caller ∷ callers

-- callers in turn: by priority, and then by arrival
abbrev pub in_turn : List Caller → List Caller
in_turn [] = []
in_turn (caller ∷ callers) = placed caller (in_turn callers)

-- the caller in a slot, if it has a turn, or another one that comes sooner
abbrev pub sooner_of : ℕ → Option Turn → Option Caller → Option Caller
sooner_of slot None other = other
sooner_of slot (Some turn) None = Some (slot, turn)
sooner_of slot (Some turn) (Some other) = if is_sooner other.1 turn then Some other else Some (slot, turn)

-- the queue of a name: who waits in it, in turn
abbrev pub queue : Text → Switch → List Caller
queue name s = in_turn (callers_from name 0 s.channels)

abbrev pub slot_of : Caller → ℕ
slot_of caller = caller.0

-- the slot of who is taken next
abbrev pub first_caller : Text → Switch → Option ℕ
first_caller name s = option_map slot_of (first_of (queue name s))

-- somebody waits
abbrev pub has_caller : Text → Switch → Bool
has_caller name s = is_some (first_caller name s)

-- ---- what is told

-- something happened to the caller in a slot, in the queue of a name
abbrev pub queue_event : QueueAction → Text → ℕ → Event
queue_event action name slot = record { name = Custom; subject = Some slot; detail = Queue name action }

-- a caller leaves the queue of a name, if it is one
abbrev pub abort_told_of : ℕ → Option Text → Switch → Switch
abort_told_of slot None s = s
abort_told_of slot (Some name) s = with_event (queue_event Abort name slot) s

-- the queue in which the channel in a slot waits
abbrev pub queue_at : Switch → ℕ → Option Text
queue_at s slot = option_and_then queue_of (chan_at s slot)

-- the channel in a slot leaves the queue in which it waits, if it does
abbrev pub abort_told : ℕ → Switch → Switch
abort_told slot s = abort_told_of slot (queue_at s slot) s
