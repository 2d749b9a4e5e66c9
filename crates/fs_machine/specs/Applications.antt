-- What applications do.
use Rattle.std.specs.Prelude.{ℕ, ◌==◌, ◌++◌, nat_lt, if◌then◌else◌, length, Option, None, Some, option_map}
use Rattle.fs_text.specs.Texts.{Text}
use Rattle.fs_text.specs.declared.states.State.{State}
use Rattle.fs_text.specs.declared.states.State.TheVariants.{CsPark}
use Rattle.fs_text.specs.declared.causes.Cause.TheVariants.{NormalClearing, NormalTemporaryFailure, DestinationOutOfOrder}
use Rattle.fs_vars.specs.Scopes.{fields_of}
use Rattle.fs_vars.specs.Expansion.{expanded}
use Rattle.fs_chan.specs.declared.action.Action.{Action}
use Rattle.fs_chan.specs.declared.chan.Chan.{Chan}
use Rattle.fs_chan.specs.Changes.{transferred, parked, asleep}
use Rattle.fs_chan.specs.declared.assignment.Assignment.{Assignment}
use Rattle.fs_chan.specs.declared.assignment.Assignment.TheVariants.{SetGlobal}
use Rattle.fs_chan.specs.Assignments.{assigned}
use Rattle.fs_chan.specs.Work.{next_action, after_next}
use Rattle.fs_app.specs.declared.application.Application.{Application}
use Rattle.fs_app.specs.declared.application.Application.TheVariants as app
use Rattle.fs_app.specs.Applications.{application_of}
use Rattle.fs_state.specs.Switch.{Switch, chan_at}
use Rattle.fs_state.specs.Hangups.{after_hangup}
use Rattle.fs_state.specs.Moves.{after_move, after_answer, after_completion, run_on}
use Rattle.fs_machine.specs.Controlling.{after_socket}
use Rattle.fs_machine.specs.Dialing.{after_dialing}
use Rattle.fs_machine.specs.Queueing.{after_fifo_in, after_fifo_out}

-- a variable was set or taken out
abbrev pub with_assignment : Assignment → Text → Chan → Chan
with_assignment how argument c = record c { vars = assigned how argument c.vars }

-- ---- what an application does

-- it sleeps, unless the time is none
abbrev pub after_sleep : ℕ → ℕ → Switch → Switch
after_sleep milliseconds slot s = if milliseconds == 0 then after_completion slot s else after_move (asleep s.moment milliseconds) slot s

-- the state of a channel
abbrev pub chan_state : Chan → State
chan_state c = c.state

-- the state of the channel in a slot
abbrev pub state_at : ℕ → Switch → Option State
state_at slot s = option_map chan_state (chan_at s slot)

-- it parks, unless it is parked
abbrev pub after_park_in : Option State → ℕ → Switch → Switch
after_park_in None slot s = s
after_park_in (Some CsPark) slot s = after_completion slot s
after_park_in (Some _) slot s = after_move parked slot s

-- the channel in a slot parks, unless it is parked
abbrev pub after_park : ℕ → Switch → Switch
after_park slot s = after_park_in (state_at slot s) slot s

-- a global, or a variable of the channel, is set or taken out
abbrev pub after_assignment : Assignment → Text → ℕ → Switch → Switch
after_assignment SetGlobal argument slot s = record s { globals = assigned SetGlobal argument s.globals }
after_assignment how argument slot s = after_move (with_assignment how argument) slot s

-- what an application does in a slot; those that end at once say so
abbrev pub after_effect : Application → ℕ → Switch → Switch
after_effect app.Answer slot s = after_completion slot (after_answer slot s)
after_effect (app.Assign how argument) slot s = after_completion slot (after_assignment how argument slot s)
after_effect app.Eval slot s = after_completion slot s
after_effect (app.Sleep milliseconds) slot s = after_sleep milliseconds slot s
after_effect (app.Hangup cause) slot s = after_hangup cause slot s
after_effect app.Park slot s = after_park slot s
after_effect (app.Transfer to) slot s = after_move (transferred to) slot s
after_effect (app.Bridge dial) slot s = after_dialing dial slot s
after_effect (app.FifoIn name) slot s = after_fifo_in name slot s
after_effect (app.FifoOut name waits) slot s = after_fifo_out waits name slot s
after_effect (app.Socket target) slot s = after_socket target slot s
after_effect app.Unknown slot s = after_hangup DestinationOutOfOrder slot s

-- ---- running one

-- a text, unless it is too long
abbrev pub unless_too_long : Text → Option Text
unless_too_long text = if nat_lt 65536 (length text) then None else Some text

-- an argument, expanded over what the channel knows, unless it is too long then
abbrev pub argument_in : Chan → Switch → Text → Option Text
argument_in c s text = unless_too_long (expanded (c.vars.pairs ++ fields_of c.profile ++ s.globals.pairs) text)

-- an application begins and has its effect
abbrev pub after_execution : Text → Text → ℕ → Switch → Switch
after_execution application argument slot s =
    after_effect (application_of application argument) slot (run_on (record { application = application; argument = argument }) slot s)

-- an argument that is too long hangs the channel up, and nothing is run
abbrev pub executed_within : Text → Option Text → ℕ → Switch → Switch
executed_within application None slot s = after_hangup NormalTemporaryFailure slot s
executed_within application (Some argument) slot s = after_execution application argument slot s

-- what a channel is to run next is used up and run; one that has nothing to run is hung up
abbrev pub after_running_next : Option Action → ℕ → Chan → Switch → Switch
after_running_next None slot c s = after_hangup NormalClearing slot s
after_running_next (Some action) slot c s =
    executed_within action.application (argument_in c s action.argument) slot (after_move after_next slot s)

-- the channel that is to run what is next does so, if it is there
abbrev pub after_running_from : ℕ → Option Chan → Switch → Switch
after_running_from slot None s = s
after_running_from slot (Some c) s = after_running_next (next_action c) slot c s

-- the channel in a slot runs what is next
unfoldable pub after_running : ℕ → Switch → Switch
after_running slot s = after_running_from slot (chan_at s slot) s
