-- What a hangup makes of a switch: who is hung up with the channels that are named, the bridges that end by it, and who outlives these.
use Rattle.std.specs.Prelude.{ℕ, ◌-◌, Bool, false, not, if◌then◌else◌, List, [], ◌∷◌, length, map, filter, fold, Option, None, Some}
use Rattle.std.specs.Prelude.{option_map, is_some}
use Rattle.std.specs.List.{find}
use Rattle.std.specs.Option.{option_and_then}
use Rattle.fs_text.specs.declared.causes.Cause.{Cause}
use Rattle.fs_text.specs.declared.event_names.EventName.TheVariants.{ChannelUnbridge}
use Rattle.fs_vars.specs.Variables.{Variables}
use Rattle.fs_bridge.specs.declared.row.Row.{Row}
use Rattle.fs_bridge.specs.declared.after.After.{After}
use Rattle.fs_bridge.specs.declared.after.After.TheVariants.{GoOn, Hangup, Park}
use Rattle.fs_bridge.specs.Bridges.{has_leg}
use Rattle.fs_bridge.specs.Closure.{Member, Members, Ends, closure_of}
use Rattle.fs_bridge.specs.Worlds.{World}
use Rattle.fs_chan.specs.declared.chan.Chan.{Chan}
use Rattle.fs_chan.specs.Bridging.{awaited_by, unbridged}
use Rattle.fs_chan.specs.Changes.{is_live, parked}
use Rattle.fs_orig.specs.declared.orig.Orig.{Orig}
use Rattle.fs_orig.specs.Legs.{living_slots}
use Rattle.fs_state.specs.declared.event.Event.{Event}
use Rattle.fs_state.specs.declared.event.Detail.TheVariants.{Unbridge}
use Rattle.fs_state.specs.Switch.{Switch, chan_at, bridge_at, orig_of, without_bridge, with_event}
use Rattle.fs_state.specs.Queues.{abort_told}
use Rattle.fs_state.specs.Moves.{partner_at, with_changed_chan, after_move, after_completion, after_one_hangup}

-- ---- what a hangup asks of a switch

-- there is a channel, and it is live
abbrev pub lives : Option Chan → Bool
lives None = false
lives (Some c) = is_live c

-- the channel in a slot is live
abbrev pub lives_at : Switch → ℕ → Bool
lives_at s slot = lives (chan_at s slot)

-- the variables of a channel
abbrev pub vars_of : Chan → Variables
vars_of c = c.vars

-- the variables of the channel in a slot
abbrev pub vars_at : Switch → ℕ → Option Variables
vars_at s slot = option_map vars_of (chan_at s slot)

-- the living legs of an origination, if it is there
abbrev pub living_in : Option Orig → List ℕ
living_in None = []
living_in (Some o) = living_slots o.legs

-- the living legs that the channel in a slot dialed, while it waits for them
abbrev pub legs_at : Switch → ℕ → List ℕ
legs_at s slot = living_in (option_and_then (orig_of s) (option_and_then awaited_by (chan_at s slot)))

-- a channel that is there names another leg
abbrev pub has_peer : Option Chan → Bool
has_peer None = false
has_peer (Some c) = is_some c.peer

-- the bridge of a channel that names another leg
abbrev pub row_at : Switch → ℕ → Option Row
row_at s slot = if has_peer (chan_at s slot) then bridge_at s slot else None

-- the channels of a switch, as a hangup sees them
abbrev pub world_of : Switch → World
world_of s = record {
  slots = length s.channels - 1;
  live = lives_at s;
  vars = vars_at s;
  partner = partner_at s;
  legs = legs_at s;
  row = row_at s;
}

-- ---- bridges that end

-- both legs of a bridge know of what it ended, and it stands no more
abbrev pub after_end : Row → Cause → Switch → Switch
after_end row cause s =
    with_changed_chan (unbridged cause) row.answerer (with_changed_chan (unbridged cause) row.caller (without_bridge row.number s))

-- a bridge with the cause of its end
abbrev pub Ended : Type 0
Ended = Row × Cause

-- these bridges end, one after another
abbrev pub after_ends : List Ended → Switch → Switch
after_ends ended s = fold (λ t e. after_end e.0 e.1 t) s ended

-- a bridge has ended of a cause
abbrev pub unbridge_event : Ended → Event
unbridge_event e = record { name = ChannelUnbridge; subject = Some e.0.caller; detail = Unbridge e.0 e.1 }

-- ---- who is hung up

-- a slot is a leg of a bridge that has ended
abbrev pub is_leg_of : ℕ → Ended → Bool
is_leg_of slot e = has_leg slot e.0

-- the end of a bridge is told, if there is one
abbrev pub with_end_told : Option Ended → Switch → Switch
with_end_told None s = s
with_end_told (Some e) s = with_event (unbridge_event e) s

-- the bridges whose end the channel in a slot does not tell
abbrev pub untold_by : ℕ → List Ended → List Ended
untold_by slot ended = filter (λ e. not (is_leg_of slot e)) ended

-- a channel is hung up; before that it tells that it leaves its queue, if it waits in one, and the end of its bridge, if none before it
-- has
abbrev pub after_member : List Ended → Member → Switch → Switch
after_member untold m s = after_one_hangup m.1 m.0 (with_end_told (find (is_leg_of m.0) untold) (abort_told m.0 s))

-- channels are hung up, one after another; the ends of these bridges are still to be told
abbrev pub after_members : List Ended → Members → Switch → Switch
after_members untold [] s = s
after_members untold (m ∷ members) s = after_members (untold_by m.0 untold) members (after_member untold m s)

-- ---- who outlives a bridge

-- it goes on, or parks; whoever hangs up is told of among the others
abbrev pub after_outliving : After → ℕ → Switch → Switch
after_outliving GoOn slot s = after_completion slot s
after_outliving Park slot s = after_move parked slot s
after_outliving (Hangup cause) slot s = s

-- it does that if it lives
abbrev pub after_survival : After → ℕ → Switch → Switch
after_survival after slot s = if lives_at s slot then after_outliving after slot s else s

-- these slots outlive their bridges, one after another
abbrev pub after_survivals : List (ℕ × After) → Switch → Switch
after_survivals survivors s = fold (λ t one. after_survival one.1 one.0 t) s survivors

-- ---- all of it

-- bridges end, channels are hung up, and others outlive their bridges
abbrev pub after_closure : Ends → Switch → Switch
after_closure ends s = after_survivals ends.survivors (after_members ends.ended ends.members (after_ends ends.ended s))

-- those of some slots with causes whose channels are live
abbrev pub living_of : Switch → Members → Members
living_of s named = filter (λ m. lives_at s m.0) named

-- the live channels of these are hung up, with all whom that drags along
unfoldable pub after_hangups : Members → Switch → Switch
after_hangups named s = after_closure (closure_of (world_of s) (living_of s named)) s

-- one channel is, if it is live
abbrev pub after_hangup : Cause → ℕ → Switch → Switch
after_hangup cause slot s = after_hangups ((slot, cause) ∷ []) s

-- the channels in these slots are, of one cause
abbrev pub after_hangups_for : Cause → List ℕ → Switch → Switch
after_hangups_for cause slots s = after_hangups (map (λ slot. (slot, cause)) slots) s
