-- Controllers: how one is dialed for a channel, how it takes hold of that, and what the end of either makes of the other.
use Rattle.std.specs.Prelude.{ℕ, ◌&&◌, Bool, not, false, if◌then◌else◌, List, [], ◌∷◌, ◌++◌, map, flat_map, Option, None, Some, Result, Ok, Err}
use Rattle.std.specs.Prelude.{is_none, is_ok}
use Rattle.std.specs.Option.{option_and_then}
use Rattle.fs_text.specs.Texts.{Text}
use Rattle.fs_text.specs.declared.event_names.EventName.TheVariants.{ChannelExecuteComplete}
use Rattle.fs_cmd.specs.Frames.{notice_of}
use Rattle.fs_filter.specs.Subscriptions.{nothing}
use Rattle.fs_chan.specs.declared.action.Action.{Action}
use Rattle.fs_chan.specs.declared.chan.Chan.{Chan}
use Rattle.fs_chan.specs.declared.wait.Wait.{Wait}
use Rattle.fs_chan.specs.declared.wait.Wait.TheVariants.{Socket}
use Rattle.fs_chan.specs.Controlling.{awaiting_dial, held_by, let_go, dial_of, is_held_by}
use Rattle.fs_out.specs.declared.target.Target.{Target}
use Rattle.fs_out.specs.declared.fault.TargetFault.{TargetFault}
use Rattle.fs_out.specs.Greetings.{greeting_of}
use Rattle.fs_out.specs.Targets.{target_of}
use Rattle.fs_seats.specs.declared.numbered.Numbered.{Numbered}
use Rattle.fs_state.specs.declared.conn.Conn.{Conn}
use Rattle.fs_state.specs.declared.conn.Control.{Control}
use Rattle.fs_state.specs.declared.conn.Phase.{Phase}
use Rattle.fs_state.specs.declared.conn.Phase.TheVariants.{Ready}
use Rattle.fs_state.specs.declared.conn.Parting.TheVariants.{ChannelLeft}
use Rattle.fs_state.specs.Frames.{Gift}
use Rattle.fs_state.specs.Drawn as numbers
use Rattle.fs_state.specs.Moves.{application_event, after_move, after_completion}
use Rattle.fs_state.specs.Switch.{Switch, chan_at, with_chan, conn_of, with_conn_at, with_new_conn, is_full_of_conns, with_event, gift_of}
use Rattle.fs_machine.specs.Connections.{parted}

-- ---- how a controller is dialed

-- the text that names the controller for whom the channel in a slot waits, if it waits for one
abbrev pub dial_at : Switch → ℕ → Option Text
dial_at s slot = option_and_then dial_of (chan_at s slot)

-- a text names one
abbrev pub names_target : Text → Bool
names_target text = is_ok (target_of text)

-- what a target says that may be read: the controller may command all that there is
abbrev pub is_full_in : Result Target TargetFault → Bool
is_full_in (Err fault) = false
is_full_in (Ok target) = target.full

-- a text names a controller that may
abbrev pub names_all : Text → Bool
names_all text = is_full_in (target_of text)

-- a channel may have one dialed: the text names one, and no connection holds the channel
abbrev pub may_dial : Text → Option Chan → Bool
may_dial text None = false
may_dial text (Some c) = names_target text && is_none c.socket

-- the channel in a slot waits for the controller that a text names, or goes on
abbrev pub after_socket : Text → ℕ → Switch → Switch
after_socket text slot s =
    if may_dial text (chan_at s slot) then after_move (awaiting_dial text) slot s else after_completion slot s

-- ---- how it takes hold

-- the connection that it has: it commands the channel in a slot, for which this text was dialed
abbrev pub controller : ℕ → Chan → Text → Conn
controller slot c text = record {
  phase = Ready;
  owed = None;
  parting = None;
  control = Some (record { slot = slot; uuid = c.uuid; dialed = text });
  subs = nothing;
}

-- the number of a connection that comes now
abbrev pub coming_number : Switch → ℕ
coming_number s = (numbers.with_conn s.drawn).conns

-- a channel in a slot that waited for it is held by it
abbrev pub taken_hold_of : ℕ → Chan → Text → Switch → Switch
taken_hold_of slot c text s = with_chan slot (Some (held_by (coming_number s) c)) (with_new_conn (controller slot c text) s)

-- it takes hold of the channel in a slot, for which this text was dialed
abbrev pub taken_hold : Option Chan → Text → ℕ → Switch → Switch
taken_hold None text slot s = s
taken_hold (Some c) text slot s = taken_hold_of slot c text s

-- a controller takes hold where there is a link to it, and a seat for its connection
abbrev pub has_hold : Bool → Switch → Bool
has_hold linked s = linked && not (is_full_of_conns s)

-- it does so, or else the channel goes on; where the channel waited for none, nothing comes of it
abbrev pub after_dial_of : Option Text → Bool → ℕ → Switch → Switch
after_dial_of None linked slot s = s
after_dial_of (Some text) linked slot s =
    if has_hold linked s then taken_hold (chan_at s slot) text slot s else after_completion slot s

abbrev pub after_dial : Bool → ℕ → Switch → Switch
after_dial linked slot s = after_dial_of (dial_at s slot) linked slot s

-- the number of the connection by which it takes hold, if it does
abbrev pub number_of_hold : Option Text → Bool → Switch → Option ℕ
number_of_hold None linked s = None
number_of_hold (Some text) linked s = if has_hold linked s then Some (coming_number s) else None

abbrev pub held_through : Bool → ℕ → Switch → Option ℕ
held_through linked slot s = number_of_hold (dial_at s slot) linked s

-- ---- a connection ends

-- what a channel ran that waits for the end of its connection, if it ran anything
abbrev pub completed_by : Wait → Option Action → Option Action
completed_by (Socket conn) running = running
completed_by _ running = None

-- what the channel in a slot ran is complete, if it ran anything
abbrev pub with_completion_of : Option Action → ℕ → Switch → Switch
with_completion_of None slot s = s
with_completion_of (Some action) slot s = with_event (application_event ChannelExecuteComplete (Some action) slot) s

-- the channel in a slot is let go by a connection, if that holds it
abbrev pub let_go_from : ℕ → ℕ → Option Chan → Switch → Switch
let_go_from conn slot None s = s
let_go_from conn slot (Some c) s =
    if is_held_by conn c
    then with_completion_of (completed_by c.wait c.running) slot (with_chan slot (Some (let_go c)) s)
    else s

-- so is the channel in a slot, if it is one
abbrev pub let_go_in : ℕ → Option ℕ → Switch → Switch
let_go_in conn None s = s
let_go_in conn (Some slot) s = let_go_from conn slot (chan_at s slot) s

-- what a connection controls
abbrev pub control_of : Option Conn → Option Control
control_of None = None
control_of (Some c) = c.control

-- the slot of it
abbrev pub controlled_slot : Option Control → Option ℕ
controlled_slot None = None
controlled_slot (Some control) = Some control.slot

-- the slot of the channel that the connection of a number controls
abbrev pub slot_controlled_by : ℕ → Switch → Option ℕ
slot_controlled_by conn s = controlled_slot (control_of (conn_of s conn))

-- a connection lets its channel go
abbrev pub after_letting_go : ℕ → Switch → Switch
after_letting_go conn s = let_go_in conn (slot_controlled_by conn s) s

-- ---- a channel leaves

-- a channel that may be there is held by the connection of a number
abbrev pub is_held : ℕ → Option Chan → Bool
is_held conn None = false
is_held conn (Some c) = is_held_by conn c

-- a connection that commands a channel does not hold that any more
abbrev pub is_left_in : Switch → ℕ → Phase → Option Control → Bool
is_left_in s conn Ready (Some control) = not (is_held conn (chan_at s control.slot))
is_left_in s conn _ _ = false

abbrev pub is_left : Switch → Numbered Conn → Bool
is_left s row = is_left_in s row.number row.held.phase row.held.control

-- the connection that stands at a seat; it parts if its channel has left
abbrev pub row_behind : Switch → Numbered Conn → Numbered Conn
row_behind s row = if is_left s row then record { number = row.number; held = parted ChannelLeft row.held } else row

abbrev pub conn_behind : Switch → Option (Numbered Conn) → Option (Numbered Conn)
conn_behind s None = None
conn_behind s (Some row) = Some (row_behind s row)

-- the notice of a connection, which names the channel that it controls
abbrev pub farewell : Option Control → Text
farewell None = notice_of None
farewell (Some control) = notice_of (Some control.uuid)

-- the notice that it is given then
abbrev pub farewell_behind : Switch → Option (Numbered Conn) → List Gift
farewell_behind s None = []
farewell_behind s (Some row) = if is_left s row then gift_of row.number (farewell row.held.control) ∷ [] else []

-- the connection that stands at a seat parts, if one does whose channel has left it
abbrev pub left_at : ℕ → Option (Numbered Conn) → Switch → Switch
left_at seat None s = s
left_at seat (Some row) s =
    if is_left s row then record (with_conn_at seat (row_behind s row) s) { notices = s.notices ++ farewell_behind s (Some row) } else s

-- each connection parts whose channel has left it
abbrev pub after_leavings : Switch → Switch
after_leavings s = record s {
  conns = map (conn_behind s) s.conns;
  notices = s.notices ++ flat_map (farewell_behind s) s.conns;
}

-- ---- what a controller is told

-- of a channel, by the target that was dialed for it
abbrev pub greeting_in : Result Target TargetFault → Option Chan → Option Text
greeting_in (Err fault) chan = None
greeting_in (Ok target) None = None
greeting_in (Ok target) (Some c) = Some (greeting_of c target)

-- of the channel that it controls, if it controls one
abbrev pub greeting_for : Option Control → Switch → Option Text
greeting_for None s = None
greeting_for (Some control) s = greeting_in (target_of control.dialed) (chan_at s control.slot)
