-- What a channel runs next, and when it has something to do by itself.
use Rattle.std.specs.Prelude.{◌≡◌, ℕ, ◌≤◌, Bool, true, false, nat_le, if◌then◌else◌, List, [], ◌∷◌, ◌++◌, drop, Option, None, Some}
use Rattle.fs_text.specs.declared.states.State.{State}
use Rattle.fs_text.specs.declared.states.State.TheVariants.{CsNew, CsInit, CsRouting, CsExecute, CsPark, CsHangup, CsReporting}
use Rattle.fs_chan.specs.declared.action.Action.{Action}
use Rattle.fs_chan.specs.declared.chan.Chan.{Chan}
use Rattle.fs_chan.specs.declared.due.Due.{Due}
use Rattle.fs_chan.specs.declared.due.Due.TheVariants.{Now, At}
use Rattle.fs_chan.specs.declared.wait.Wait.{Wait}
use Rattle.fs_chan.specs.declared.wait.Wait.TheVariants.{Ready, Sleep, Parked, Socket}

-- ---- what it runs next

-- actions are run by a channel that is ready in CS_EXECUTE
abbrev pub runs_actions : State → Wait → Bool
runs_actions CsExecute Ready = true
runs_actions _ _ = false

-- messages are run by such a channel, and by one that waits for them
abbrev pub runs_messages : State → Wait → Bool
runs_messages CsExecute Ready = true
runs_messages CsExecute Parked = true
runs_messages CsExecute (Socket conn) = true
runs_messages CsPark Parked = true
runs_messages CsPark (Socket conn) = true
runs_messages _ _ = false

-- what is in line to be run as a channel stands: its messages, and then its actions
abbrev pub pending_in : State → Wait → List Action → List Action → List Action
pending_in state wait messages actions =
    (if runs_messages state wait then messages else []) ++ (if runs_actions state wait then actions else [])

abbrev pub pending_of : Chan → List Action
pending_of c = pending_in c.state c.wait c.messages c.actions

-- the first of a list
abbrev pub first_of : {A : Type 0} → List A → Option A
first_of [] = None
first_of (x ∷ xs) = Some x

-- what it runs next
abbrev pub next_action : Chan → Option Action
next_action c = first_of (pending_of c)

-- the channel without its first message, or without its first action where it has no message
abbrev pub without_first : List Action → Chan → Chan
without_first [] c = record c { actions = drop 1 c.actions }
without_first (message ∷ messages) c = record c { messages = messages }

-- the channel once the first in line was taken, if there is one
abbrev pub after_taking : List Action → Chan → Chan
after_taking [] c = c
after_taking (next ∷ later) c = without_first c.messages c

abbrev pub after_next : Chan → Chan
after_next c = after_taking (pending_of c) c

-- ---- when it has something to do

-- at once, where there is anything to run
abbrev pub due_for : List Action → Option Due
due_for [] = None
due_for (next ∷ later) = Some Now

-- at a moment, or at once where that has come
abbrev pub due_at : ℕ → ℕ → Due
due_at now until = if nat_le until now then Now else At until

-- by what it waits for in CS_EXECUTE or CS_PARK; whatever else it waits for, others have to bring it
abbrev pub due_in_wait : ℕ → State → Wait → List Action → Option Due
due_in_wait now state Ready messages = if runs_actions state Ready then Some Now else None
due_in_wait now state (Sleep until) messages = Some (due_at now until)
due_in_wait now state Parked messages = due_for messages
due_in_wait now state (Socket conn) messages = due_for messages
due_in_wait now state _ messages = None

-- by its state; in the other states it waits for others
abbrev pub due_in : ℕ → State → Wait → List Action → Option Due
due_in now CsNew wait messages = Some Now
due_in now CsInit wait messages = Some Now
due_in now CsRouting wait messages = Some Now
due_in now CsExecute wait messages = due_in_wait now CsExecute wait messages
due_in now CsPark wait messages = due_in_wait now CsPark wait messages
due_in now CsHangup wait messages = Some Now
due_in now CsReporting wait messages = Some Now
due_in now _ wait messages = None

abbrev pub due_of : ℕ → Chan → Option Due
due_of now c = due_in now c.state c.wait c.messages

-- what is to be done at once is so at each later moment
abbrev pub StaysDue : Type 0
StaysDue = (now later : ℕ) (c : Chan) → now ≤ later → due_of now c ≡ Some Now → due_of later c ≡ Some Now
