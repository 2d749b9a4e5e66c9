-- How a channel comes to wait in a queue, and how one takes a caller out of it.
use Rattle.std.specs.Prelude.{ℕ, ◌&&◌, Bool, true, false, if◌then◌else◌, Option, None, Some}
use Rattle.fs_text.specs.Texts.{Text}
use Rattle.fs_bridge.specs.declared.row.BridgeKind.TheVariants.{Fifo}
use Rattle.fs_chan.specs.Queueing.{queued, awaiting_caller}
use Rattle.fs_state.specs.declared.event.QueueAction.TheVariants.{Push, CallerPop}
use Rattle.fs_state.specs.Switch.{Switch, chan_at, with_event}
use Rattle.fs_state.specs.Queues.{first_caller, queue_event}
use Rattle.fs_state.specs.Moves.{after_move, after_answer, after_completion}
use Rattle.fs_state.specs.Bridging.{after_join}
use Rattle.fs_machine.specs.Joining.{is_ready}

-- the channel in a slot waits in the queue of a name
abbrev pub after_queueing : Text → ℕ → Switch → Switch
after_queueing name slot s = with_event (queue_event Push name slot) (after_move (queued name s.entries) slot s)

-- a caller is taken by the channel in a slot, to which it is joined as the one that called; a leg of an origination that is not yet
-- decided neither waits in a queue nor takes
abbrev pub after_take : Text → ℕ → ℕ → Switch → Switch
after_take name caller slot s =
    if is_ready (chan_at s caller) && is_ready (chan_at s slot)
    then after_join Fifo caller slot (with_event (queue_event CallerPop name caller) s)
    else s

-- nobody waits in the queue: whoever takes waits for somebody, or goes on
abbrev pub after_no_caller : Bool → Text → ℕ → Switch → Switch
after_no_caller true name slot s = after_move (awaiting_caller name) slot s
after_no_caller false name slot s = after_completion slot s

-- the caller in a slot is taken, if it is one
abbrev pub after_taking_of : Option ℕ → Bool → Text → ℕ → Switch → Switch
after_taking_of None waits name slot s = after_no_caller waits name slot s
after_taking_of (Some caller) waits name slot s = after_take name caller slot s

-- the first caller of the queue is taken by the channel in a slot; where there is none that waits for one, or goes on
abbrev pub after_taking : Bool → Text → ℕ → Switch → Switch
after_taking waits name slot s = after_taking_of (first_caller name s) waits name slot s

-- a channel is answered, and waits in a queue
abbrev pub after_fifo_in : Text → ℕ → Switch → Switch
after_fifo_in name slot s = after_queueing name slot (after_answer slot s)

-- it is answered, and takes from one
abbrev pub after_fifo_out : Bool → Text → ℕ → Switch → Switch
after_fifo_out waits name slot s = after_taking waits name slot (after_answer slot s)
