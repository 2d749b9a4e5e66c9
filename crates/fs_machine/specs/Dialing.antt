-- How a channel begins to dial a bridge.
use Rattle.std.specs.Prelude.{ℕ, List, Option, None, Some, Result, Ok, Err, unwrap_or, codes}
use Rattle.std.specs.Option.{option_and_then, option_or}
use Rattle.fs_text.specs.Texts.{Text}
use Rattle.fs_text.specs.declared.causes.Cause.TheVariants.{InvalidNumberFormat}
use Rattle.fs_vars.specs.Pairs.{value_of}
use Rattle.fs_vars.specs.Variables.{Variables}
use Rattle.fs_chan.specs.declared.chan.Chan.{Chan}
use Rattle.fs_chan.specs.Bridging.{awaiting}
use Rattle.fs_dial.specs.declared.fault.DialFault.{DialFault}
use Rattle.fs_dial.specs.DialStrings.{Dial, dial_string}
use Rattle.fs_orig.specs.declared.plan.LegPlan.{LegPlan}
use Rattle.fs_orig.specs.declared.orig.Owner.TheVariants as owner
use Rattle.fs_orig.specs.Plans.{plans_of}
use Rattle.fs_orig.specs.Timeouts.{seconds_in, braces_timeout}
use Rattle.fs_state.specs.Switch.{Switch, chan_at, next_orig_number}
use Rattle.fs_state.specs.Moves.{after_move}
use Rattle.fs_machine.specs.Attempts.{first_group, orig_begun}
use Rattle.fs_machine.specs.Bridging.{group_dialed, after_bridge_failure}
use Rattle.fs_machine.specs.Originations.{MadeGroup}

-- what the variables say how many seconds a bridge has
abbrev pub call_timeout : Variables → Option ℕ
call_timeout vars = option_and_then seconds_in (value_of vars.pairs (codes "call_timeout"))

-- as the braces say it, or else the variables, or else a minute
abbrev pub bridge_timeout : Dial → Variables → ℕ
bridge_timeout dial vars = unwrap_or (option_or (braces_timeout dial) (call_timeout vars)) 60

-- the legs of the first group were made for the origination of a number: the channel in a slot owns it, and waits for the verdict
abbrev pub tried_by_slot : ℕ → List (List LegPlan) → ℕ → ℕ → MadeGroup → Switch
tried_by_slot slot groups timeout orig made =
    after_move (awaiting orig) slot (orig_begun (owner.Slot slot) groups made.legs timeout made.state)

-- the legs of a dial string are tried for a channel, if it is there
abbrev pub bridge_begun_from : Option Chan → Dial → ℕ → Switch → Switch
bridge_begun_from None dial slot s = s
bridge_begun_from (Some c) dial slot s =
    tried_by_slot slot (plans_of dial) (bridge_timeout dial c.vars) (next_orig_number s)
    (group_dialed (Some c) (first_group (plans_of dial)) (next_orig_number s) s)

-- the legs of a dial string are tried; a fault in it is a failed bridge
abbrev pub bridge_dialed : Result Dial DialFault → ℕ → Switch → Switch
bridge_dialed (Err fault) slot s = after_bridge_failure InvalidNumberFormat slot s
bridge_dialed (Ok dial) slot s = bridge_begun_from (chan_at s slot) dial slot s

-- the channel in a slot dials a bridge
unfoldable pub after_dialing : Text → ℕ → Switch → Switch
after_dialing dial slot s = bridge_dialed (dial_string dial) slot s
