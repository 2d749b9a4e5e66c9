-- Bridges that channels dial: how the legs are made for one, and what it does once a leg has won or all have failed.
use Rattle.std.specs.Prelude.{ℕ, Bool, true, false, ◌||◌, if◌then◌else◌, List, [], Option, None, Some, codes}
use Rattle.std.specs.List.{list_any}
use Rattle.std.specs.Str.{bytes_eq}
use Rattle.fs_text.specs.Texts.{Text}
use Rattle.fs_text.specs.Number.{read_u64}
use Rattle.fs_text.specs.Cause.{cause_name, cause_number}
use Rattle.fs_text.specs.declared.causes.Cause.{Cause}
use Rattle.fs_text.specs.declared.causes.Cause.TheVariants.{NoAnswer, NoUserResponse, OriginatorCancel}
use Rattle.fs_vars.specs.Pairs.{value_of}
use Rattle.fs_vars.specs.Variables.{Variables}
use Rattle.fs_bridge.specs.declared.row.BridgeKind.TheVariants.{Dial}
use Rattle.fs_bridge.specs.After.{is_true}
use Rattle.fs_chan.specs.declared.chan.Chan.{Chan}
use Rattle.fs_chan.specs.Bridging.{exported_pairs, with_disposition, in_media}
use Rattle.fs_chan.specs.Exports.{names_of}
use Rattle.fs_orig.specs.declared.caller.Caller.{Caller}
use Rattle.fs_orig.specs.declared.plan.LegPlan.{LegPlan}
use Rattle.fs_orig.specs.Legs.{is_at}
use Rattle.fs_orig.specs.Plans.{all_behind}
use Rattle.fs_state.specs.Switch.{Switch, chan_at}
use Rattle.fs_state.specs.Bridging.{can_join, joined_as}
use Rattle.fs_state.specs.Hangups.{after_hangup}
use Rattle.fs_state.specs.Moves.{with_changed_chan, after_move, after_answer, after_completion}
use Rattle.fs_machine.specs.Originations.{MadeGroup, group_made}

-- ---- the legs that a channel dials

-- who calls: as the profile of the channel has it
abbrev pub caller_of : Chan → Caller
caller_of c = record { name = c.profile.caller_id_name; number = c.profile.caller_id_number }

-- the legs of a group, each with the variables that the channel exports before its own
abbrev pub group_dialed : Option Chan → List LegPlan → ℕ → Switch → MadeGroup
group_dialed None plans orig s = record { state = s; legs = [] }
group_dialed (Some c) plans orig s = group_made (all_behind (exported_pairs c.vars) plans) (caller_of c) orig s

-- ---- a failed bridge

-- causes for which the channel goes on in any case
abbrev pub is_passed_over : Cause → Bool
is_passed_over NoAnswer = true
is_passed_over NoUserResponse = true
is_passed_over OriginatorCancel = true
is_passed_over _ = false

-- a word names a cause, or is its number
abbrev pub says_cause : Cause → Text → Bool
says_cause cause word = bytes_eq word (cause_name cause) || is_at (cause_number cause) (read_u64 word)

-- one of the words of a comma list does, if there is one
abbrev pub lists_cause : Cause → Option Text → Bool
lists_cause cause None = false
lists_cause cause (Some list) = list_any (says_cause cause) (names_of list)

-- `true`, or a list with the cause
abbrev pub lets_go_on : Cause → Option Text → Bool
lets_go_on cause value = is_true value || lists_cause cause value

-- whether a channel goes on behind a bridge that failed of a cause
abbrev pub goes_on : Cause → Variables → Bool
goes_on cause vars = is_passed_over cause || lets_go_on cause (value_of vars.pairs (codes "continue_on_fail"))

-- a channel goes on, or hangs up with the cause
abbrev pub after_going_on : Bool → Cause → ℕ → Switch → Switch
after_going_on onward cause slot s = if onward then after_completion slot s else after_hangup cause slot s

-- what came of the origination of the channel in a slot is told
abbrev pub disposed : Text → ℕ → Switch → Switch
disposed text slot s = with_changed_chan (with_disposition text) slot s

-- the channel in a slot has failed to bridge
abbrev pub bridge_failed_from : Option Chan → Cause → ℕ → Switch → Switch
bridge_failed_from None cause slot s = s
bridge_failed_from (Some c) cause slot s = after_going_on (goes_on cause c.vars) cause slot (disposed (cause_name cause) slot s)

-- the bridge that the channel in a slot dials has failed of a cause: it goes on, or hangs up
unfoldable pub after_bridge_failure : Cause → ℕ → Switch → Switch
after_bridge_failure cause slot s = bridge_failed_from (chan_at s slot) cause slot s

-- ---- a bridge that is won

-- the channel in a slot is answered, where it was not, and is told that what it dialed was won
abbrev pub after_win_told : ℕ → Switch → Switch
after_win_told slot s = disposed (codes "SUCCESS") slot (after_answer slot s)

-- it is joined to a leg, which comes into the media of their bridge, where they can be joined
abbrev pub joined_to_leg : ℕ → ℕ → Switch → Switch
joined_to_leg slot leg s = if can_join slot leg s then after_move in_media leg (joined_as Dial slot leg s) else s

-- the channel in a slot is joined to the leg that has won
unfoldable pub after_bridge_win : ℕ → ℕ → Switch → Switch
after_bridge_win slot leg s = joined_to_leg slot leg (after_win_told slot s)
