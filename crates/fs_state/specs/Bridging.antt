-- How two channels are joined by a bridge, and how one leaves what it was in.
use Rattle.std.specs.Prelude.{ℕ, ◌==◌, Bool, not, ◌&&◌, if◌then◌else◌, Option, None, Some, is_none}
use Rattle.fs_text.specs.declared.event_names.EventName.TheVariants.{ChannelBridge}
use Rattle.fs_bridge.specs.declared.row.Row.{Row}
use Rattle.fs_bridge.specs.declared.row.BridgeKind.{BridgeKind}
use Rattle.fs_bridge.specs.Bridges.{has_number_left, next_row}
use Rattle.fs_chan.specs.declared.chan.Chan.{Chan}
use Rattle.fs_chan.specs.declared.peer.Peer.{Peer}
use Rattle.fs_chan.specs.Bridging.{bridged}
use Rattle.fs_state.specs.declared.event.Event.{Event}
use Rattle.fs_state.specs.declared.event.Detail.TheVariants.{Bridge}
use Rattle.fs_state.specs.Switch.{Switch, chan_at, bridge_at, with_bridge, with_event}
use Rattle.fs_state.specs.Moves.{with_changed_chan}
use Rattle.fs_state.specs.Hangups.{lives_at}

-- a bridge has begun
abbrev pub bridge_event : Row → Event
bridge_event row = record { name = ChannelBridge; subject = Some row.caller; detail = Bridge row }

-- two slots can be joined: they differ, their channels are live, neither is in a bridge, and there is a number for one more
abbrev pub can_join : ℕ → ℕ → Switch → Bool
can_join caller answerer s =
    not (caller == answerer) && (lives_at s caller && lives_at s answerer)
    && (is_none (bridge_at s caller) && is_none (bridge_at s answerer))
    && has_number_left s.bridges

-- the channel in a slot, as its peer names it
abbrev pub peer_of : ℕ → Chan → Peer
peer_of slot c = record { slot = slot; uuid = c.uuid }

-- a channel gets the one in another slot as its peer, if that is there
abbrev pub with_peer_from : ℕ → ℕ → Option Chan → Switch → Switch
with_peer_from slot other None s = s
with_peer_from slot other (Some c) s = with_changed_chan (bridged (peer_of other c)) slot s

-- the channel in a slot gets the one in another slot as its peer
abbrev pub with_peer : ℕ → ℕ → Switch → Switch
with_peer slot other s = with_peer_from slot other (chan_at s other) s

-- two channels are joined, the first as caller: there is a bridge, and each names the other
abbrev pub joined_as : BridgeKind → ℕ → ℕ → Switch → Switch
joined_as kind caller answerer s =
    with_event (bridge_event (next_row caller answerer kind s.bridges))
    (with_peer answerer caller (with_peer caller answerer (with_bridge caller answerer kind s)))

-- they are, where they can be
abbrev pub after_join : BridgeKind → ℕ → ℕ → Switch → Switch
after_join kind caller answerer s = if can_join caller answerer s then joined_as kind caller answerer s else s
