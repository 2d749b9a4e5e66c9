-- What happens to channels and to those that they name.
use Rattle.std.specs.Prelude.{ℕ, ◌==◌, Bool, false, if◌then◌else◌, Option, None, Some, is_none}
use Rattle.std.specs.Option.{option_and_then}
use Rattle.fs_text.specs.declared.states.State.{State}
use Rattle.fs_text.specs.declared.states.State.TheVariants.{CsInit, CsPark, CsHangup, CsReporting}
use Rattle.fs_text.specs.State.{state_number}
use Rattle.fs_text.specs.declared.causes.Cause.{Cause}
use Rattle.fs_text.specs.declared.event_names.EventName.{EventName}
use Rattle.fs_text.specs.declared.event_names.EventName.TheVariants.{ChannelCreate, ChannelState, ChannelAnswer, ChannelExecute}
use Rattle.fs_text.specs.declared.event_names.EventName.TheVariants.{ChannelExecuteComplete, ChannelPark, ChannelUnpark, ChannelHangup}
use Rattle.fs_text.specs.declared.event_names.EventName.TheVariants.{ChannelHangupComplete, ChannelDestroy}
use Rattle.fs_chan.specs.Changes.{is_live, in_state, with_answer_place, at_rest, hung_up}
use Rattle.fs_chan.specs.Bridging.{awaited_by}
use Rattle.fs_chan.specs.declared.action.Action.{Action}
use Rattle.fs_chan.specs.declared.chan.Chan.{Chan}
use Rattle.fs_orig.specs.declared.orig.Orig.{Orig}
use Rattle.fs_orig.specs.declared.orig.Owner.{Owner}
use Rattle.fs_orig.specs.declared.orig.Owner.TheVariants as owner
use Rattle.fs_orig.specs.Legs.{position_in}
use Rattle.fs_orig.specs.Changes.{with_answer, with_death}
use Rattle.fs_state.specs.declared.event.Event.{Event}
use Rattle.fs_state.specs.declared.event.Detail.{Detail}
use Rattle.fs_state.specs.declared.event.Detail.TheVariants as detail
use Rattle.fs_state.specs.Switch.{Switch, chan_at, with_chan, orig_of, with_orig, without_orig, with_event}

-- an event of the channel in a slot that tells nothing beside it
abbrev pub plain_event : EventName → ℕ → Event
plain_event name slot = record { name = name; subject = Some slot; detail = detail.Plain }

-- the channel in a slot is changed; where there is none nothing changes
abbrev pub with_changed_chan_from : (Chan → Chan) → ℕ → Option Chan → Switch → Switch
with_changed_chan_from change slot None s = s
with_changed_chan_from change slot (Some c) s = with_chan slot (Some (change c)) s

-- the channel in a slot is changed, if there is one
abbrev pub with_changed_chan : (Chan → Chan) → ℕ → Switch → Switch
with_changed_chan change slot s = with_changed_chan_from change slot (chan_at s slot) s

-- ---- changes of state

-- the channel in a slot left a state
abbrev pub with_leaving_event : State → ℕ → Switch → Switch
with_leaving_event CsPark slot s = with_event (plain_event ChannelUnpark slot) s
with_leaving_event _ slot s = s

-- it came to a state
abbrev pub with_coming_event : State → ℕ → Switch → Switch
with_coming_event CsPark slot s = with_event (plain_event ChannelPark slot) s
with_coming_event _ slot s = s

-- it went from one state to another: nothing where it stayed
abbrev pub with_state_events : State → State → ℕ → Switch → Switch
with_state_events old new slot s =
    if state_number old == state_number new then s
    else with_event (plain_event ChannelState slot) (with_coming_event new slot (with_leaving_event old slot s))

-- a channel that came from a state stands in a slot, and tells of that
abbrev pub put_moved : ℕ → State → Chan → Switch → Switch
put_moved slot old c s = with_state_events old c.state slot (with_chan slot (Some c) s)

-- the channel in a slot is changed, and tells of its change of state; where there is none nothing changes
abbrev pub after_move_from : (Chan → Chan) → ℕ → Option Chan → Switch → Switch
after_move_from change slot None s = s
after_move_from change slot (Some c) s = put_moved slot c.state (change c) s

-- the channel in a slot is changed, and tells of its change of state
abbrev pub after_move : (Chan → Chan) → ℕ → Switch → Switch
after_move change slot s = after_move_from change slot (chan_at s slot) s

-- a channel begins
abbrev pub after_begin : ℕ → Switch → Switch
after_begin slot s = after_move (in_state CsInit) slot (with_event (plain_event ChannelCreate slot) s)

-- ---- applications

-- a channel that has begun an application
abbrev pub with_running : Action → Chan → Chan
with_running action c = record c { running = Some action }

-- the application that begins or is over, if there is one
abbrev pub application_told : Option Action → Detail
application_told None = detail.Plain
application_told (Some action) = detail.Application action

-- an application begins, or is over
abbrev pub application_event : EventName → Option Action → ℕ → Event
application_event name action slot = record { name = name; subject = Some slot; detail = application_told action }

-- what a channel runs
abbrev pub running_of : Chan → Option Action
running_of c = c.running

-- what the channel in a slot runs
abbrev pub running_at : ℕ → Switch → Option Action
running_at slot s = option_and_then running_of (chan_at s slot)

-- an application begins
abbrev pub run_on : Action → ℕ → Switch → Switch
run_on action slot s = with_event (application_event ChannelExecute (Some action) slot) (after_move (with_running action) slot s)

-- the running application is over
abbrev pub after_completion : ℕ → Switch → Switch
after_completion slot s =
    with_event (application_event ChannelExecuteComplete (running_at slot s) slot) (after_move at_rest slot s)

-- ---- originations

-- an origination that may be there is changed, as the one of a number
abbrev pub orig_changed_from : (Orig → Orig) → ℕ → Option Orig → Switch → Switch
orig_changed_from change number None s = s
orig_changed_from change number (Some o) s = with_orig number (change o) s

-- the origination of a number is changed, if it is there
abbrev pub orig_changed : (Orig → Orig) → ℕ → Switch → Switch
orig_changed change number s = orig_changed_from change number (orig_of s number) s

-- an origination with the leg at a position changed, if there is one
abbrev pub leg_changed_at : (ℕ → Orig → Orig) → Option ℕ → Orig → Orig
leg_changed_at change None o = o
leg_changed_at change (Some position) o = change position o

-- an origination with the living leg in a slot changed
abbrev pub leg_changed : (ℕ → Orig → Orig) → ℕ → Orig → Orig
leg_changed change slot o = leg_changed_at change (position_in slot o.legs) o

-- the channel in this slot owns an origination
abbrev pub is_owner : ℕ → Owner → Bool
is_owner slot (owner.Slot other) = other == slot
is_owner slot (owner.Job number) = false

-- the origination that a channel is a leg of has that leg changed
abbrev pub its_leg_changed : (ℕ → Orig → Orig) → ℕ → Option ℕ → Switch → Switch
its_leg_changed change slot None s = s
its_leg_changed change slot (Some number) s = orig_changed (leg_changed change slot) number s

-- an origination with the living leg in a slot answered, if there is one
abbrev pub with_leg_answered : ℕ → ℕ → Orig → Orig
with_leg_answered place slot o = leg_changed (λ position. with_answer position place) slot o

-- an origination with the living leg in a slot dead, if there is one
abbrev pub with_leg_ended : ℕ → Cause → ℕ → Orig → Orig
with_leg_ended place cause slot o = leg_changed (λ position. with_death position place cause) slot o

-- the leg that a channel is is answered
abbrev pub leg_answered : ℕ → Option ℕ → Switch → Switch
leg_answered slot leg_of s = its_leg_changed (λ position. with_answer position s.entries) slot leg_of s

-- the leg that a channel is dies of a cause
abbrev pub leg_ended : Cause → ℕ → Option ℕ → Switch → Switch
leg_ended cause slot leg_of s = its_leg_changed (λ position. with_death position s.entries cause) slot leg_of s

-- ---- answers

-- the channel in a slot is answered by the entry in hand
abbrev pub answer_set : ℕ → Switch → Switch
answer_set slot s = with_changed_chan (with_answer_place s.entries) slot s

-- the channel in a slot is answered, and so is the leg that it is
abbrev pub answered_now : ℕ → Option ℕ → Switch → Switch
answered_now slot leg_of s = leg_answered slot leg_of (with_event (plain_event ChannelAnswer slot) (answer_set slot s))

-- a channel is answered, where it was not, and so is the leg that it is
abbrev pub after_answer_from : ℕ → Option Chan → Switch → Switch
after_answer_from slot None s = s
after_answer_from slot (Some c) s =
    if is_none c.answered
    then its_leg_changed (λ position. with_answer position s.entries) slot c.leg_of
    (with_event (plain_event ChannelAnswer slot) (with_chan slot (Some (with_answer_place s.entries c)) s))
    else s

-- the channel in a slot is answered, where it was not, and its partner is not
abbrev pub after_one_answer : ℕ → Switch → Switch
after_one_answer slot s = after_answer_from slot (chan_at s slot) s

-- the slot of a channel's loopback partner
abbrev pub partner_of : Chan → Option ℕ
partner_of c = c.partner

-- the loopback partner of a slot's channel
abbrev pub partner_at : Switch → ℕ → Option ℕ
partner_at s slot = option_and_then partner_of (chan_at s slot)

-- what happens to a slot, if it is one
abbrev pub for_slot : (ℕ → Switch → Switch) → Option ℕ → Switch → Switch
for_slot move None s = s
for_slot move (Some slot) s = move slot s

-- a channel is answered, and then its partner
abbrev pub after_answer : ℕ → Switch → Switch
after_answer slot s = for_slot after_one_answer (partner_at s slot) (after_one_answer slot s)

-- ---- the end of channels

-- why the channel in a slot is hung up
abbrev pub hangup_event : Cause → ℕ → Event
hangup_event cause slot = record { name = ChannelHangup; subject = Some slot; detail = detail.Hangup cause }

-- how the call of the channel in a slot was
abbrev pub report_event : ℕ → Event
report_event slot = record { name = ChannelHangupComplete; subject = Some slot; detail = detail.Report }

-- an origination is given up, if the channel in a slot owns it
abbrev pub given_up_by : ℕ → ℕ → Option Orig → Switch → Switch
given_up_by slot number None s = s
given_up_by slot number (Some o) s = if is_owner slot o.owner then without_orig number s else s

-- the origination that a channel in a slot waits for is given up
abbrev pub orig_given_up : ℕ → Option ℕ → Switch → Switch
orig_given_up slot None s = s
orig_given_up slot (Some number) s = given_up_by slot number (orig_of s number) s

-- a live channel is hung up, the leg that it is dies, and what it dialed is given up
abbrev pub after_hangup_from : Cause → ℕ → Option Chan → Switch → Switch
after_hangup_from cause slot None s = s
after_hangup_from cause slot (Some c) s =
    if is_live c then orig_given_up slot (awaited_by c) (its_leg_changed (λ position. with_death position s.entries cause) slot c.leg_of
    (with_state_events c.state CsHangup slot (with_event (hangup_event cause slot) (with_chan slot (Some (hung_up cause c)) s))))
    else s

-- the channel in a slot is hung up, and nobody else with it
abbrev pub after_one_hangup : Cause → ℕ → Switch → Switch
after_one_hangup cause slot s = after_hangup_from cause slot (chan_at s slot) s

-- the end of a call is told
abbrev pub after_report : ℕ → Switch → Switch
after_report slot s = after_move (in_state CsReporting) slot (with_event (report_event slot) s)

-- a channel is gone, and its slot is free
abbrev pub after_destroy : ℕ → Switch → Switch
after_destroy slot s = with_event (plain_event ChannelDestroy slot) (with_event (plain_event ChannelState slot) (with_chan slot None s))
