-- What each change makes of a channel.
use Rattle.std.specs.Prelude.{ℕ, ◌+◌, ◌*◌, ◌≤◌, nat_lt, Bool, List, [], ◌∷◌, ◌++◌, length, Option, None, Some, IfSome, unwrap_or, codes}
use Rattle.fs_text.specs.declared.states.State.{State}
use Rattle.fs_text.specs.declared.states.State.TheVariants.{CsNew, CsRouting, CsExecute, CsPark, CsHangup}
use Rattle.fs_text.specs.declared.causes.Cause.{Cause}
use Rattle.fs_text.specs.State.{state_number}
use Rattle.fs_text.specs.Cause.{cause_name}
use Rattle.fs_text.specs.Texts.{Text}
use Rattle.fs_vars.specs.Variables.{Variables}
use Rattle.fs_vars.specs.declared.profile.Profile.{Profile}
use Rattle.fs_chan.specs.declared.action.Action.{Action}
use Rattle.fs_chan.specs.declared.chan.Chan.{Chan}
use Rattle.fs_chan.specs.declared.peer.Direction.{Direction}
use Rattle.fs_chan.specs.declared.target.Target3.{Target3}
use Rattle.fs_chan.specs.declared.wait.Wait.{Wait}
use Rattle.fs_chan.specs.declared.wait.Wait.TheVariants.{Ready, Sleep, Parked, Socket}
use Rattle.fs_chan.specs.Moments.{moment_after}
use Rattle.fs_chan.specs.Exports.{with_set}

-- it has not come to CS_HANGUP
abbrev pub is_live : Chan → Bool
is_live c = nat_lt (state_number c.state) (state_number CsHangup)

-- a channel that has run nothing
abbrev pub new_channel : Text → ℕ → Direction → Profile → Variables → Chan
new_channel uuid slot direction profile vars = record {
  uuid = uuid;
  slot = slot;
  state = CsNew;
  direction = direction;
  profile = profile;
  vars = vars;
  actions = [];
  messages = [];
  running = None;
  wait = Ready;
  answered = None;
  partner = None;
  peer = None;
  leg_of = None;
  socket = None;
  cause = None;
  hops = 0;
}

-- in another state
abbrev pub in_state : State → Chan → Chan
in_state state c = record c { state = state }

-- answered at a place; what is answered keeps its place
abbrev pub with_answer_place : ℕ → Chan → Chan
with_answer_place place c = record c { answered = Some (unwrap_or c.answered place) }

-- ---- routing

-- the profile with a new destination; a dialplan or context that is not named stays
abbrev pub sent_to : Target3 → Profile → Profile
sent_to to p = record p {
  destination_number = to.exten;
  dialplan = unwrap_or to.dialplan p.dialplan;
  context = unwrap_or to.context p.context;
}

-- to be routed anew; messages stay, and no connection holds it any more
abbrev pub transferred : Target3 → Chan → Chan
transferred to c =
    record c { profile = sent_to to c.profile; actions = []; running = None; wait = Ready; socket = None; state = CsRouting }

-- the texts of a target can stand in a profile
pub record IsShortTarget (to : Target3) : Type 0 where
  pub exten : length to.exten ≤ 256
  pub dialplan : IfSome to.dialplan (λ text. length text ≤ 256)
  pub context : IfSome to.context (λ text. length text ≤ 256)

-- the fields of a profile keep their limits; the name of a channel is made of a destination and 11 bytes more
pub record HasShortFields (p : Profile) : Type 0 where
  pub destination_number : length p.destination_number ≤ 256
  pub caller_id_name : length p.caller_id_name ≤ 256
  pub caller_id_number : length p.caller_id_number ≤ 256
  pub ani : length p.ani ≤ 256
  pub rdnis : length p.rdnis ≤ 256
  pub context : length p.context ≤ 256
  pub dialplan : length p.dialplan ≤ 256
  pub source : length p.source ≤ 256
  pub uuid : length p.uuid ≤ 256
  pub chan_name : length p.chan_name ≤ 267
  pub network_addr : length p.network_addr ≤ 256
  pub username : length p.username ≤ 256

-- it was routed less often than a channel may be
abbrev pub may_route : Chan → Bool
may_route c = nat_lt c.hops 70

-- routed once more, with the variables and the actions that the dialplan gave
abbrev pub routed : Variables → List Action → Chan → Chan
routed vars actions c = record c { vars = vars; actions = actions; hops = c.hops + 1; state = CsExecute }

-- ---- messages

-- there is room for one more message: 1,000 may wait to be run
abbrev pub takes_message : Chan → Bool
takes_message c = nat_lt (length c.messages) 1000

-- with one more, behind the others
abbrev pub with_message : Action → Chan → Chan
with_message message c = record c { messages = c.messages ++ message ∷ [] }

-- ---- waiting

-- what a channel waits for while it runs nothing: its outbound connection, or a command in CS_PARK
abbrev pub wait_at_rest : Option ℕ → State → Wait
wait_at_rest (Some conn) state = Socket conn
wait_at_rest None CsPark = Parked
wait_at_rest None _ = Ready

-- the running application is complete
abbrev pub at_rest : Chan → Chan
at_rest c = record c { running = None; wait = wait_at_rest c.socket c.state }

-- at rest in CS_PARK; messages stay
abbrev pub parked : Chan → Chan
parked c = at_rest (record c { actions = []; state = CsPark })

-- asleep for so many milliseconds
abbrev pub asleep : ℕ → ℕ → Chan → Chan
asleep now milliseconds c = record c { wait = Sleep (moment_after now (milliseconds * 1000)) }

-- ---- the end

-- hung up: it waits for nothing, has nothing to run, and names nothing else
abbrev pub hung_up : Cause → Chan → Chan
hung_up cause c = record c {
  vars = with_set c.vars (codes "hangup_cause") (cause_name cause);
  actions = [];
  messages = [];
  running = None;
  wait = Ready;
  partner = None;
  peer = None;
  leg_of = None;
  socket = None;
  cause = Some cause;
  state = CsHangup;
}
