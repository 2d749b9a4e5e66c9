-- How the legs of an origination are made, and what a leg does that has won.
use Rattle.std.specs.Prelude.{◌≡◌, ℕ, ◌+◌, ◌*◌, ◌++◌, min, nat_lt, nat_le, Bool, false, not, ◌&&◌, if◌then◌else◌, List, [], ◌∷◌, length}
use Rattle.std.specs.Prelude.{take, Option, None, Some, option_map, unwrap_or, codes}
use Rattle.std.specs.List.{list_all}
use Rattle.std.specs.Option.{option_and_then}
use Rattle.fs_text.specs.CoreId.{owns}
use Rattle.fs_text.specs.Texts.{Text}
use Rattle.fs_text.specs.declared.states.State.TheVariants.{CsExecute}
use Rattle.fs_text.specs.declared.causes.Cause.{Cause}
use Rattle.fs_text.specs.declared.causes.Cause.TheVariants.{NormalTemporaryFailure, SwitchCongestion}
use Rattle.fs_vars.specs.Pairs.{value_of}
use Rattle.fs_vars.specs.Variables.{Variables, can_set, set_to}
use Rattle.fs_vars.specs.declared.bounds.Bounds.TheVariants.{Channel}
use Rattle.fs_vars.specs.declared.profile.Profile.{Profile}
use Rattle.fs_chan.specs.declared.chan.Chan.{Chan}
use Rattle.fs_chan.specs.declared.peer.Direction.{Direction}
use Rattle.fs_chan.specs.declared.peer.Direction.TheVariants.{Inbound, Outbound}
use Rattle.fs_chan.specs.declared.target.Target3.{Target3}
use Rattle.fs_chan.specs.declared.wait.Wait.TheVariants.{Ready}
use Rattle.fs_chan.specs.Changes.{new_channel, transferred}
use Rattle.fs_chan.specs.Moments.{moment_after}
use Rattle.fs_orig.specs.declared.caller.Caller.{Caller}
use Rattle.fs_orig.specs.declared.leg.OrigLeg.{OrigLeg}
use Rattle.fs_orig.specs.declared.plan.LegPlan.{LegPlan}
use Rattle.fs_orig.specs.declared.endpoint.Endpoint.{Endpoint}
use Rattle.fs_orig.specs.declared.endpoint.Endpoint.TheVariants.{Loopback, Dead}
use Rattle.fs_orig.specs.declared.winner.Winner.{Winner}
use Rattle.fs_orig.specs.declared.winner.Winner.TheVariants.{App, Route}
use Rattle.fs_orig.specs.Changes.{ringing, unmade}
use Rattle.fs_orig.specs.Endpoints.{endpoint_of}
use Rattle.fs_orig.specs.Routes.{RouteTo}
use Rattle.fs_orig.specs.Timeouts.{seconds_in}
use Rattle.fs_state.specs.Switch.{Switch, with_chan, free_slot, is_held, with_next_identifier, identifier_of}
use Rattle.fs_state.specs.Moves.{after_move}
use Rattle.fs_machine.specs.declared.call.Call.{Call}
use Rattle.fs_machine.specs.declared.originations.End.{End}

-- ---- a pair of channels

-- the end of a pair, in the names of its channels
abbrev pub side_of : Direction → Text
side_of Outbound = codes "-a"
side_of Inbound = codes "-b"

-- the name of a channel of the loopback
abbrev pub loopback_name : Text → Direction → Text
loopback_name exten direction = codes "loopback/" ++ exten ++ side_of direction

-- the first 256 bytes of a text, or all of a shorter one
abbrev pub cut : Text → Text
cut text = take (min 256 (length text)) text

-- what is known of a channel of the loopback
abbrev pub loopback_profile : Call → Direction → Text → Profile
loopback_profile call direction uuid = record {
  destination_number = call.exten;
  caller_id_name = cut call.caller.name;
  caller_id_number = cut call.caller.number;
  ani = cut call.caller.number;
  rdnis = [];
  context = call.context;
  dialplan = codes "XML";
  source = codes "mod_loopback";
  uuid = uuid;
  chan_name = loopback_name call.exten direction;
  network_addr = [];
  username = [];
}

-- the channel at one end of a pair
abbrev pub end_of : Call → End → Text → Chan
end_of call end uuid =
    record (new_channel uuid end.slot end.direction (loopback_profile call end.direction uuid) call.vars) {
      partner = Some end.partner;
      leg_of = end.leg_of;
    }

-- it is there, under an identifier
abbrev pub end_made_as : Text → Call → End → Switch → Switch
end_made_as uuid call end s = with_chan end.slot (Some (end_of call end uuid)) s

-- it is there, under the next identifier
abbrev pub end_made : Call → End → Switch → Switch
end_made call end s = let t = with_next_identifier s in end_made_as (identifier_of t) call end t

-- it is there, under an identifier of its own, if it has one
abbrev pub named_end_made : Option Text → Call → End → Switch → Switch
named_end_made None call end s = end_made call end s
named_end_made (Some uuid) call end s = end_made_as uuid call end s

-- the outbound end, which is the leg of an origination
abbrev pub leg_end : ℕ → ℕ → ℕ → End
leg_end orig a b = record { direction = Outbound; slot = a; partner = b; leg_of = Some orig }

-- the inbound end, which is routed
abbrev pub far_end : ℕ → ℕ → End
far_end a b = record { direction = Inbound; slot = b; partner = a; leg_of = None }

-- both ends of a pair are there, and the outbound one is the leg of an origination
abbrev pub pair_made : Call → ℕ → ℕ → ℕ → Switch → Switch
pair_made call orig a b s = end_made call (far_end a b) (named_end_made call.uuid call (leg_end orig a b) s)

-- ---- what a leg is told by its variables

-- the variables that pairs come to, set one after another, unless one is refused
abbrev pub set_all : List (Text × Text) → Variables → Option Variables
set_all [] vars = Some vars
set_all (pair ∷ pairs) vars = if can_set vars pair.0 pair.1 then set_all pairs (set_to vars pair.0 pair.1) else None

-- the variables of a channel for which none is set yet
abbrev pub no_variables : Variables
no_variables = record { bounds = Channel; pairs = [] }

-- the identifier that a leg is to have
abbrev pub own_uuid : Variables → Option Text
own_uuid vars = value_of vars.pairs (codes "origination_uuid")

-- who calls, as the variables have it, or else as it was asked
abbrev pub caller_with : Variables → Caller → Caller
caller_with vars caller = record {
  name = unwrap_or (value_of vars.pairs (codes "origination_caller_id_name")) caller.name;
  number = unwrap_or (value_of vars.pairs (codes "origination_caller_id_number")) caller.number;
}

-- a second has a million microseconds
abbrev pub seconds : ℕ → ℕ
seconds n = n * 1000000

-- the moment at which a leg is given up that is made now
abbrev pub leg_deadline : Variables → ℕ → Option ℕ
leg_deadline vars now =
    option_map (λ n. moment_after now (seconds n)) (option_and_then seconds_in (value_of vars.pairs (codes "leg_timeout")))

-- a call with these variables, which may say who calls and which identifier the leg has
abbrev pub call_with : Text → Text → Variables → Caller → Call
call_with exten context vars caller =
    record { exten = exten; context = context; caller = caller_with vars caller; vars = vars; uuid = own_uuid vars }

-- ---- identifiers that are free

-- a byte from `!` to `~`
abbrev pub is_visible : ℕ → Bool
is_visible byte = nat_le 33 byte && nat_le byte 126

-- 1 to 64 such bytes
abbrev pub is_name : Text → Bool
is_name uuid = nat_le 1 (length uuid) && nat_le (length uuid) 64 && list_all is_visible uuid

-- a leg can have this identifier: the switch does not own it, and no channel has it
abbrev pub is_free : Text → Switch → Bool
is_free uuid s = is_name uuid && (not (owns s.settings.core_uuid uuid) && not (is_held uuid s))

-- it is to have one that it cannot have
abbrev pub is_misnamed : Option Text → Switch → Bool
is_misnamed None s = false
is_misnamed (Some uuid) s = not (is_free uuid s)

-- ---- a leg

-- a leg, and the switch with its channels
pub record Made : Type 0 where
  pub state : Switch
  pub leg : OrigLeg

-- making a leg comes to this state and this leg
abbrev pub ComesTo : Made → Switch → OrigLeg → Type 0
ComesTo made state leg = made ≡ record { state = state; leg = leg }

-- a leg that died as it was made
abbrev pub made_dead : Cause → Switch → Made
made_dead cause s = record { state = s; leg = unmade s.entries cause }

-- the journal has cost over 15/16 of its limit
abbrev pub is_congested : Switch → Bool
is_congested s = nat_lt (15 * s.settings.journal_limit) (16 * s.cost)

-- the identifier of the leg that is made next
abbrev pub leg_uuid : Option Text → Switch → Text
leg_uuid uuid s = unwrap_or uuid (identifier_of (with_next_identifier s))

-- in two slots, if they are free
abbrev pub made_in : Call → ℕ → Option (ℕ × ℕ) → Switch → Made
made_in call orig None s = made_dead SwitchCongestion s
made_in call orig (Some (a, b)) s =
    record { state = pair_made call orig a b s; leg = ringing a (leg_uuid call.uuid s) (leg_deadline call.vars s.moment) }

-- a slot with the least free one behind it
abbrev pub with_second : Switch → ℕ → Option (ℕ × ℕ)
with_second s a = option_map (λ b. (a, b)) (free_slot (a + 1) s)

-- the two least free slots
abbrev pub free_pair : Switch → Option (ℕ × ℕ)
free_pair s = option_and_then (with_second s) (free_slot 1 s)

-- a leg of the loopback; one dies for which the journal has cost too much, or no two slots are free
abbrev pub loopback_made : Call → ℕ → Switch → Made
loopback_made call orig s = if is_congested s then made_dead SwitchCongestion s else made_in call orig (free_pair s) s

-- a leg with these variables; one dies whose variables are refused, or that cannot have its identifier
abbrev pub made_with : Text → Text → Option Variables → Caller → ℕ → Switch → Made
made_with exten context None caller orig s = made_dead NormalTemporaryFailure s
made_with exten context (Some vars) caller orig s =
    if is_misnamed (own_uuid vars) s then made_dead NormalTemporaryFailure s
    else loopback_made (call_with exten context vars caller) orig s

-- the leg at an endpoint, with the variables that pairs come to
abbrev pub made_of : Endpoint → List (Text × Text) → Caller → ℕ → Switch → Made
made_of (Dead cause) pairs caller orig s = made_dead cause s
made_of (Loopback exten context) pairs caller orig s = made_with exten context (set_all pairs no_variables) caller orig s

-- the leg of an origination that a plan comes to
unfoldable pub leg_made : LegPlan → Caller → ℕ → Switch → Made
leg_made plan caller orig s = made_of (endpoint_of plan.endpoint) plan.pairs caller orig s

-- ---- a group of legs

-- legs, and the switch with their channels
pub record MadeGroup : Type 0 where
  pub state : Switch
  pub legs : List OrigLeg

-- a group comes to this: the switch after it, and its legs
abbrev pub GroupComesTo : MadeGroup → Switch → List OrigLeg → Type 0
GroupComesTo made state legs = made ≡ record { state = state; legs = legs }

-- with a leg before them
abbrev pub with_first : OrigLeg → MadeGroup → MadeGroup
with_first leg group = record { state = group.state; legs = leg ∷ group.legs }

-- the legs of a group, made one after another
abbrev pub group_made : List LegPlan → Caller → ℕ → Switch → MadeGroup
group_made [] caller orig s = record { state = s; legs = [] }
group_made (plan ∷ plans) caller orig s =
    let made = leg_made plan caller orig s in with_first made.leg (group_made plans caller orig made.state)

-- ---- a leg that has won

-- it has one thing to run
abbrev pub given_action : Text → Text → Chan → Chan
given_action application argument c =
    record c { actions = record { application = application; argument = argument } ∷ []; wait = Ready; leg_of = None; state = CsExecute }

-- where a channel goes that is routed so
abbrev pub target_of : RouteTo → Target3
target_of to = record { exten = to.exten; dialplan = Some to.dialplan; context = Some to.context }

-- it is routed, and no leg any more
abbrev pub given_route : RouteTo → Chan → Chan
given_route to c = transferred (target_of to) (record c { leg_of = None })

-- a leg that has won does what is asked of the winner
abbrev pub won_by : Winner → Chan → Chan
won_by (App application argument) c = given_action application argument c
won_by (Route to) c = given_route to c

-- the channel in a slot has won, and does what is asked of the winner
unfoldable pub after_winning : Winner → ℕ → Switch → Switch
after_winning winner slot s = after_move (won_by winner) slot s
