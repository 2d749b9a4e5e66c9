-- What a channel does by itself, state by state.
use Rattle.std.specs.Prelude.{ℕ, ℤ, pos, ◌/◌, ◌==◌, Bool, true, [], List, length, Ok, Err, codes, if◌then◌else◌, Option, None, Some}
use Rattle.std.specs.Str.{bytes_eq}
use Rattle.fs_text.specs.declared.states.State.{State}
use Rattle.fs_text.specs.declared.states.State.TheVariants.{CsNew, CsInit, CsRouting, CsExecute, CsPark, CsConsumeMedia, CsHangup}
use Rattle.fs_text.specs.declared.states.State.TheVariants.{CsReporting}
use Rattle.fs_text.specs.declared.causes.Cause.{Cause}
use Rattle.fs_text.specs.declared.causes.Cause.TheVariants.{ExchangeRoutingError, NoRouteDestination, NormalTemporaryFailure}
use Rattle.fs_vars.specs.Variables.{Variables}
use Rattle.fs_chan.specs.declared.action.Action.{Action}
use Rattle.fs_chan.specs.declared.chan.Chan.{Chan}
use Rattle.fs_chan.specs.declared.peer.Direction.{Direction}
use Rattle.fs_chan.specs.declared.peer.Direction.TheVariants.{Inbound, Outbound}
use Rattle.fs_chan.specs.declared.wait.Wait.{Wait}
use Rattle.fs_chan.specs.declared.wait.Wait.TheVariants.{Ready, Sleep, Parked, FifoOut, Legs, Socket}
use Rattle.fs_chan.specs.Changes.{in_state, may_route, routed}
use Rattle.fs_plan.specs.declared.hunt.Hunt.{Hunt}
use Rattle.fs_plan.specs.Outcomes.{Outcome}
use Rattle.fs_plan.specs.Hunting.{hunted}
use Rattle.fs_state.specs.Switch.{Switch, chan_at}
use Rattle.fs_state.specs.Hangups.{after_hangup}
use Rattle.fs_state.specs.Moves.{after_move, after_begin, after_completion, after_report, after_destroy}
use Rattle.fs_machine.specs.declared.attempts.Party.TheVariants as party
use Rattle.fs_machine.specs.Attempts.{after_verdict_on}
use Rattle.fs_machine.specs.Applications.{after_running}
use Rattle.fs_machine.specs.Queueing.{after_taking}

-- ---- routing

-- a channel with other variables
abbrev pub with_variables : Variables → Chan → Chan
with_variables vars c = record c { vars = vars }

-- the actions that the dialplan gave are to be run; without any there is no route
abbrev pub routed_to : Variables → List Action → ℕ → Switch → Switch
routed_to vars actions slot s =
    if length actions == 0 then after_hangup NoRouteDestination slot (after_move (with_variables vars) slot s)
    else after_move (routed vars actions) slot s

-- the dialplan that the documents have
abbrev pub has_xml : Chan → Bool
has_xml c = bytes_eq c.profile.dialplan (codes "XML")

-- the actions that the hunt gave; a channel of another dialplan has none
abbrev pub actions_for : Bool → List Action → List Action
actions_for xml actions = if xml then actions else []

-- why a channel is hung up for which a text is too long
abbrev pub too_long_cause : Bool → Cause
too_long_cause xml = if xml then NormalTemporaryFailure else NoRouteDestination

-- what the hunt gave is taken over, by a channel with that dialplan or another
abbrev pub after_hunt : Bool → Hunt → ℕ → Switch → Switch
after_hunt xml hunt slot s = routed_to hunt.vars (actions_for xml hunt.actions) slot (record s { globals = hunt.globals })

-- what the hunt gave, unless a text is too long
abbrev pub found_in : Outcome Hunt → Option Hunt
found_in (Err len) = None
found_in (Ok hunt) = Some hunt

-- the minute in which a switch is
abbrev pub wall_of : Switch → ℤ
wall_of s = pos (s.moment / 60000000)

-- what the hunt for a channel gave, unless a text is too long
abbrev pub found_for : Chan → Switch → Option Hunt
found_for c s = found_in (hunted s.contexts c.profile.context c.profile c.vars s.globals (wall_of s))

-- a channel is routed by it
abbrev pub routed_by : Option Hunt → Chan → ℕ → Switch → Switch
routed_by None c slot s = after_hangup (too_long_cause (has_xml c)) slot s
routed_by (Some hunt) c slot s = after_hunt (has_xml c) hunt slot s

-- a channel is routed, unless it was routed too often
abbrev pub after_routing_from : ℕ → Option Chan → Switch → Switch
after_routing_from slot None s = s
after_routing_from slot (Some c) s = if may_route c then routed_by (found_for c s) c slot s else after_hangup ExchangeRoutingError slot s

-- the channel in a slot is routed, unless it was routed too often
abbrev pub after_routing : ℕ → Switch → Switch
after_routing slot s = after_routing_from slot (chan_at s slot) s

-- ---- state by state

-- an inbound channel is routed, an outbound one waits to be answered
abbrev pub first_state : Direction → State
first_state Inbound = CsRouting
first_state Outbound = CsConsumeMedia

-- what a channel waits for is over, or it runs what is next; one that dialed does what the verdict on the legs says, and one that waits for
-- a caller takes it
abbrev pub after_wait : Wait → ℕ → Switch → Switch
after_wait Ready slot s = after_running slot s
after_wait (Sleep until) slot s = after_completion slot s
after_wait Parked slot s = after_running slot s
after_wait (Socket conn) slot s = after_running slot s
after_wait (FifoOut name) slot s = after_taking true name slot s
after_wait (Legs orig) slot s = after_verdict_on (record { orig = orig; party = party.Slot slot }) s
after_wait _ slot s = s

-- what a channel does by itself in a state
abbrev pub after_work_in : State → ℕ → Chan → Switch → Switch
after_work_in CsNew slot c s = after_begin slot s
after_work_in CsInit slot c s = after_move (in_state (first_state c.direction)) slot s
after_work_in CsRouting slot c s = after_routing slot s
after_work_in CsExecute slot c s = after_wait c.wait slot s
after_work_in CsPark slot c s = after_wait c.wait slot s
after_work_in CsHangup slot c s = after_report slot s
after_work_in CsReporting slot c s = after_destroy slot s
after_work_in _ slot c s = s

-- what a channel does by itself in its state, if it is there
abbrev pub after_work_from : ℕ → Option Chan → Switch → Switch
after_work_from slot None s = s
after_work_from slot (Some c) s = after_work_in c.state slot c s

-- what the channel in a slot does by itself, where it has something to do
unfoldable pub after_work : ℕ → Switch → Switch
after_work slot s = after_work_from slot (chan_at s slot) s
