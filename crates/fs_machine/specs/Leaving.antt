-- How a command sends channels elsewhere, which leave what they were in.
use Rattle.std.specs.Prelude.{ℕ, Bool, if◌then◌else◌, List, [], ◌∷◌, fold, Option, None, Some, option_map}
use Rattle.std.specs.List.{list_all}
use Rattle.std.specs.Option.{option_and_then}
use Rattle.fs_text.specs.Texts.{Text}
use Rattle.fs_chan.specs.declared.chan.Chan.{Chan}
use Rattle.fs_chan.specs.declared.peer.Peer.{Peer}
use Rattle.fs_chan.specs.Changes.{parked, transferred, IsShortTarget}
use Rattle.fs_api.specs.declared.side.Side.{Side}
use Rattle.fs_api.specs.declared.side.Side.TheVariants.{This, Both, Other}
use Rattle.fs_state.specs.Switch.{Switch, chan_at, slot_named}
use Rattle.fs_state.specs.Moves.{after_move}
use Rattle.fs_state.specs.Hangups.{lives_at}
use Rattle.fs_machine.specs.declared.leaving.Onward.{Onward}
use Rattle.fs_machine.specs.declared.leaving.Onward.TheVariants.{Park, Transfer}
use Rattle.fs_machine.specs.Done.{Done, says}
use Rattle.fs_machine.specs.Joining.{is_ready, after_departures, both_slots}
use Rattle.fs_machine.specs.Texts.{ok, no_channel, not_ready, not_bridged}

-- ---- where they are sent

-- what becomes of a channel that is sent on
abbrev pub moved_on : Onward → Chan → Chan
moved_on Park = parked
moved_on (Transfer to) = transferred to

-- a channel can be routed where it is sent
abbrev pub IsShortOnward : Onward → Type 0
IsShortOnward Park = Unit {0}
IsShortOnward (Transfer to) = IsShortTarget to

-- the channel in a slot has left, and is changed, unless it died of that
abbrev pub after_arrival : (Chan → Chan) → ℕ → Switch → Switch
after_arrival change slot s = if lives_at s slot then after_move change slot s else s

-- so are those in these slots, one after another
abbrev pub after_arrivals : (Chan → Chan) → List ℕ → Switch → Switch
after_arrivals change slots s = fold (λ t slot. after_arrival change slot t) s slots

-- ---- who is sent

-- the slot of the other leg of a channel's bridge
abbrev pub slot_of_peer : Peer → ℕ
slot_of_peer p = p.slot

abbrev pub peer_in : Chan → Option ℕ
peer_in c = option_map slot_of_peer c.peer

abbrev pub peer_at : Switch → ℕ → Option ℕ
peer_at s slot = option_and_then peer_in (chan_at s slot)

-- the channel in a slot, the other leg of its bridge, or both, in order of slots; nobody where there is no other leg to be one of them
abbrev pub legs_meant : Side → ℕ → Option ℕ → Option (List ℕ)
legs_meant This slot peer = Some (slot ∷ [])
legs_meant Both slot peer = option_map (both_slots slot) peer
legs_meant Other slot peer = option_map (λ other. other ∷ []) peer

-- the channels in these slots are ready
abbrev pub are_ready : Switch → List ℕ → Bool
are_ready s slots = list_all (λ slot. is_ready (chan_at s slot)) slots

-- these leave and are changed, if there are such; whoever is in a bridge is ready
abbrev pub legs_sent : (Chan → Chan) → Option (List ℕ) → Switch → Done
legs_sent change None s = says not_bridged s
legs_sent change (Some slots) s =
    if are_ready s slots then says ok (after_arrivals change slots (after_departures slots s)) else says not_ready s

-- so do those that are meant by a slot, if there is a channel in it and it is ready
abbrev pub sent_at : (Chan → Chan) → Side → Option ℕ → Switch → Done
sent_at change side None s = says no_channel s
sent_at change side (Some slot) s =
    if is_ready (chan_at s slot) then legs_sent change (legs_meant side slot (peer_at s slot)) s else says not_ready s

-- so do those that are meant by the identifier of a live channel
unfoldable pub sent_done : (Chan → Chan) → Side → Text → Switch → Done
sent_done change side uuid s = sent_at change side (slot_named uuid s) s
