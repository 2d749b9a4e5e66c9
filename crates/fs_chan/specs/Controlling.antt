-- How a channel waits for a controller, and is held by the connection of one.
use Rattle.std.specs.Prelude.{ℕ, ◌==◌, Bool, false, Option, None, Some}
use Rattle.fs_text.specs.Texts.{Text}
use Rattle.fs_text.specs.declared.states.State.{State}
use Rattle.fs_text.specs.declared.states.State.TheVariants.{CsExecute, CsPark}
use Rattle.fs_chan.specs.declared.chan.Chan.{Chan}
use Rattle.fs_chan.specs.declared.wait.Wait.{Wait}
use Rattle.fs_chan.specs.declared.wait.Wait.TheVariants.{Dial, Socket}
use Rattle.fs_chan.specs.Changes.{wait_at_rest}

-- ---- changes

-- it waits until the controller that a text names was dialed
abbrev pub awaiting_dial : Text → Chan → Chan
awaiting_dial text c = record c { wait = Dial text }

-- the connection of a number holds it, and it waits for messages, or for the end of that
abbrev pub held_by : ℕ → Chan → Chan
held_by conn c = record c { socket = Some conn; wait = Socket conn }

-- no connection holds it any more; if it waited for the end of one, it is at rest
abbrev pub let_go_in : Wait → Chan → Chan
let_go_in (Socket conn) c = record c { socket = None; running = None; wait = wait_at_rest None c.state }
let_go_in wait c = record c { socket = None }

abbrev pub let_go : Chan → Chan
let_go c = let_go_in c.wait c

-- ---- questions

-- the text that names the controller for whom a channel waits
abbrev pub dial_in : State → Wait → Option Text
dial_in CsExecute (Dial text) = Some text
dial_in CsPark (Dial text) = Some text
dial_in _ _ = None

abbrev pub dial_of : Chan → Option Text
dial_of c = dial_in c.state c.wait

-- the connection of a number is that which holds a channel
abbrev pub is_number : ℕ → Option ℕ → Bool
is_number conn None = false
is_number conn (Some number) = number == conn

abbrev pub is_held_by : ℕ → Chan → Bool
is_held_by conn c = is_number conn c.socket
