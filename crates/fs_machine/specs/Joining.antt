-- How a command joins two channels.
use Rattle.std.specs.Prelude.{ℕ, ◌==◌, nat_lt, Bool, true, false, not, ◌&&◌, if◌then◌else◌, List, [], ◌∷◌, fold}
use Rattle.std.specs.Prelude.{Option, None, Some, is_none, is_some}
use Rattle.std.specs.Option.{option_and_then}
use Rattle.fs_text.specs.Texts.{Text}
use Rattle.fs_text.specs.declared.states.State.{State}
use Rattle.fs_text.specs.declared.states.State.TheVariants.{CsNew, CsInit, CsExchangeMedia}
use Rattle.fs_bridge.specs.declared.row.BridgeKind.TheVariants.{Joined}
use Rattle.fs_chan.specs.declared.chan.Chan.{Chan}
use Rattle.fs_chan.specs.Bridging.{awaited_by, at_leisure}
use Rattle.fs_chan.specs.Changes.{in_state}
use Rattle.fs_state.specs.Switch.{Switch, chan_at, slot_named}
use Rattle.fs_state.specs.Moves.{with_changed_chan, orig_given_up, after_move}
use Rattle.fs_state.specs.Hangups.{lives_at}
use Rattle.fs_state.specs.Bridging.{after_join}
use Rattle.fs_state.specs.Leaving.{after_leaving_others}
use Rattle.fs_state.specs.Queues.{abort_told_of, queue_at}
use Rattle.fs_machine.specs.Done.{Done, says}
use Rattle.fs_machine.specs.Texts.{no_channel, same_channel, not_ready, not_answered, made_text}

-- ---- what stands in the way

-- a channel in this state has not begun
abbrev pub is_early : State → Bool
is_early CsNew = true
is_early CsInit = true
is_early _ = false

-- it has begun, and is no leg of an origination that is not yet decided
abbrev pub is_ready : Option Chan → Bool
is_ready None = false
is_ready (Some c) = not (is_early c.state) && is_none c.leg_of

-- there is a channel, and it was answered
abbrev pub is_answered : Option Chan → Bool
is_answered None = false
is_answered (Some c) = is_some c.answered

-- why the channels in two slots cannot be joined
abbrev pub in_the_way : ℕ → ℕ → Switch → Option Text
in_the_way a b s =
    if a == b then Some same_channel
    else (if not (is_ready (chan_at s a) && is_ready (chan_at s b)) then Some not_ready
    else (if not (is_answered (chan_at s a) && is_answered (chan_at s b)) then Some not_answered
    else None))

-- ---- leaving

-- what the channel in a slot dialed is given up, and it runs and waits for nothing
abbrev pub after_leaving : ℕ → Switch → Switch
after_leaving slot s = with_changed_chan at_leisure slot (orig_given_up slot (option_and_then awaited_by (chan_at s slot)) s)

-- the channel in a slot has left a queue, if it waited in one, and tells so, unless it is dead
abbrev pub queue_left : Option Text → ℕ → Switch → Switch
queue_left queue slot s = if lives_at s slot then abort_told_of slot queue s else s

-- it leaves what it dialed and its queue
abbrev pub after_farewell : ℕ → Switch → Switch
after_farewell slot s = queue_left (queue_at s slot) slot (after_leaving slot s)

-- the channels in these slots do, one after another
abbrev pub after_farewells : List ℕ → Switch → Switch
after_farewells slots s = fold (λ t slot. after_farewell slot t) s slots

-- they leave all that they were in: the legs that they dialed are hung up, their bridges end, and then each of them is free
abbrev pub after_departures : List ℕ → Switch → Switch
after_departures slots s = after_farewells slots (after_leaving_others slots s)

-- two slots, the lesser one first
abbrev pub both_slots : ℕ → ℕ → List ℕ
both_slots a b = if nat_lt a b then a ∷ b ∷ [] else b ∷ a ∷ []

-- ---- joining

-- two channels come into the media of their bridge, in the order of their slots
abbrev pub both_in_media : ℕ → ℕ → Switch → Switch
both_in_media a b s =
    if nat_lt a b then after_move (in_state CsExchangeMedia) b (after_move (in_state CsExchangeMedia) a s)
    else after_move (in_state CsExchangeMedia) a (after_move (in_state CsExchangeMedia) b s)

-- they have left, and are joined, unless one died of that
abbrev pub joined_done : ℕ → ℕ → Text → Switch → Done
joined_done a b other s =
    if lives_at s a && lives_at s b then says (made_text other) (both_in_media a b (after_join Joined a b s)) else says no_channel s

-- two channels leave what they were in and are joined, unless something stands in the way
abbrev pub bridged_unless : Option Text → ℕ → ℕ → Text → Switch → Done
bridged_unless (Some reply) a b other s = says reply s
bridged_unless None a b other s = joined_done a b other (after_departures (both_slots a b) s)

-- those in two slots, if there are such
abbrev pub bridge_done_at : Option ℕ → Option ℕ → Text → Switch → Done
bridge_done_at (Some a) (Some b) other s = bridged_unless (in_the_way a b s) a b other s
bridge_done_at _ _ other s = says no_channel s

-- the live channels of two identifiers are joined
unfoldable pub uuid_bridge_done : Text → Text → Switch → Done
uuid_bridge_done uuid other s = bridge_done_at (slot_named uuid s) (slot_named other s) other s
