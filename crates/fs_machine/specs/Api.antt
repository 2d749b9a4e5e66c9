-- What an api command replies, and what it does to the switch.
use Rattle.std.specs.Prelude.{ℕ, ◌*◌, [], ◌++◌, map, Bool, Option, None, Some, is_some, unwrap_or, Result, Ok, Err, codes}
use Rattle.std.specs.Prelude.{if◌then◌else◌}
use Rattle.std.specs.List.{concat}
use Rattle.std.specs.Option.{option_and_then, option_or}
use Rattle.fs_text.specs.Texts.{Text}
use Rattle.fs_text.specs.declared.causes.Cause.{Cause}
use Rattle.fs_text.specs.declared.causes.Cause.TheVariants.{InvalidNumberFormat}
use Rattle.fs_vars.specs.Pairs.{Pairs, value_of}
use Rattle.fs_vars.specs.Variables.{can_set, set_to}
use Rattle.fs_vars.specs.Expansion.{expanded}
use Rattle.fs_api.specs.declared.api.Api.{Api}
use Rattle.fs_api.specs.declared.api.Api.TheVariants as api
use Rattle.fs_api.specs.declared.side.Side.TheVariants.{This}
use Rattle.fs_api.specs.Readings.{expanded_api_of}
use Rattle.fs_api.specs.Usages.{usage_of}
use Rattle.fs_chan.specs.declared.chan.Chan.{Chan}
use Rattle.fs_chan.specs.Changes.{parked, transferred}
use Rattle.fs_chan.specs.Exports.{with_set, with_vars}
use Rattle.fs_chan.specs.Moments.{moment_after}
use Rattle.fs_dial.specs.declared.fault.DialFault.{DialFault}
use Rattle.fs_dial.specs.DialStrings.{Dial, dial_string}
use Rattle.fs_orig.specs.declared.caller.Caller.{Caller}
use Rattle.fs_orig.specs.declared.winner.Winner.{Winner}
use Rattle.fs_orig.specs.Plans.{plans_of}
use Rattle.fs_orig.specs.Timeouts.{braces_timeout}
use Rattle.fs_state.specs.declared.job.JobWork.TheVariants.{Sleep}
use Rattle.fs_state.specs.Switch.{Switch, chan_at, with_chan, slot_named, is_full_of_jobs, with_next_identifier, identifier_of}
use Rattle.fs_state.specs.Hangups.{after_hangup}
use Rattle.fs_machine.specs.Applications.{unless_too_long, argument_in}
use Rattle.fs_machine.specs.Done.{Done, says, no_reply_yet}
use Rattle.fs_machine.specs.Dumping.{dump_text}
use Rattle.fs_machine.specs.Hangups.{after_hangup_of_all}
use Rattle.fs_machine.specs.Joining.{uuid_bridge_done}
use Rattle.fs_machine.specs.Leaving.{sent_done}
use Rattle.fs_machine.specs.Loading.{reload_begun}
use Rattle.fs_machine.specs.Shutdown.{after_shutdown}
use Rattle.fs_machine.specs.Texts.{ok, yes, no, limit_passed, too_long_text, usage_text, api_not_found, no_channel, undefined}
use Rattle.fs_machine.specs.Texts.{hupall_text, too_many_jobs, failed_text}
use Rattle.fs_machine.specs.declared.owing.Giver.{Giver}
use Rattle.fs_machine.specs.Attempts.{originate_begun}
use Rattle.fs_machine.specs.Owing.{after_job_begin}

-- ---- globals

-- a global in a line
abbrev pub line_of_pair : Text × Text → Text
line_of_pair pair = pair.0 ++ (codes "=" ++ (pair.1 ++ codes "\n"))

-- all globals in order, a line each
abbrev pub listed : Pairs → Text
listed pairs = concat (map line_of_pair pairs)

-- the value of a global, or nothing; without a name all of them
abbrev pub global_text : Option Text → Pairs → Text
global_text None pairs = listed pairs
global_text (Some name) pairs = unwrap_or (value_of pairs name) []

-- a global was set, where no limit is passed
abbrev pub set_global : Text → Text → Switch → Done
set_global name value s =
    if can_set s.globals name value then says ok (record s { globals = set_to s.globals name value }) else says limit_passed s

-- ---- channels

-- whether something holds, as a reply
abbrev pub told_whether : Bool → Text
told_whether holds = if holds then yes else no

-- a live channel is hung up
abbrev pub kill_done : Cause → Option ℕ → Switch → Done
kill_done cause None s = says no_channel s
kill_done cause (Some slot) s = says ok (after_hangup cause slot s)

-- the one of an identifier
abbrev pub killed_as : Cause → Text → Switch → Done
killed_as cause uuid s = kill_done cause (slot_named uuid s) s

-- all live channels are hung up
abbrev pub hupall_done : Cause → Switch → Done
hupall_done cause s = says (hupall_text cause) (after_hangup_of_all cause s)

-- the switch comes to its end
abbrev pub shutdown_done : Switch → Done
shutdown_done s = says ok (after_shutdown s)

-- an identifier is drawn, and told
abbrev pub identifier_told : Switch → Done
identifier_told s = let t = with_next_identifier s in says (identifier_of t) t

-- a channel with a variable set, where no limit is passed
abbrev pub with_variable : Text → Text → Chan → Chan
with_variable name value c = with_vars (with_set c.vars name value) c

-- a variable of the channel in a slot was set, where no limit is passed
abbrev pub variable_set_on : Text → Text → ℕ → Option Chan → Switch → Done
variable_set_on name value slot None s = says no_channel s
variable_set_on name value slot (Some c) s =
    if can_set c.vars name value then says ok (with_chan slot (Some (with_variable name value c)) s) else says limit_passed s

-- so in the slot of a live channel, if there is one
abbrev pub variable_set_at : Text → Text → Option ℕ → Switch → Done
variable_set_at name value None s = says no_channel s
variable_set_at name value (Some slot) s = variable_set_on name value slot (chan_at s slot) s

-- so of the live channel of an identifier
abbrev pub set_variable : Text → Text → Text → Switch → Done
set_variable uuid name value s = variable_set_at name value (slot_named uuid s) s

-- the value of a variable
abbrev pub variable_text : Text → Option Chan → Text
variable_text name None = no_channel
variable_text name (Some c) = unwrap_or (value_of c.vars.pairs name) undefined

-- the live channel of an identifier
abbrev pub chan_named : Text → Switch → Option Chan
chan_named uuid s = option_and_then (chan_at s) (slot_named uuid s)

-- ---- jobs

-- whoever gives a command is to wait so many milliseconds for its answer
abbrev pub sleep_begun : Giver → ℕ → Switch → Switch
sleep_begun by milliseconds s = after_job_begin by (Sleep (moment_after s.moment (milliseconds * 1000))) s

-- the answer comes after so many milliseconds, unless there are too many jobs
abbrev pub msleep_done : Giver → ℕ → Switch → Done
msleep_done by milliseconds s = if is_full_of_jobs s then says too_many_jobs s else no_reply_yet (sleep_begun by milliseconds s)

-- the legs of a dial string are tried, unless it has a fault; a timeout that was given comes before that of the braces
abbrev pub dialed : Giver → Result Dial DialFault → Winner → Caller → Option ℕ → Switch → Done
dialed by (Err fault) winner caller timeout s = says (failed_text InvalidNumberFormat) s
dialed by (Ok dial) winner caller timeout s =
    no_reply_yet (originate_begun by (plans_of dial) winner caller (option_or timeout (braces_timeout dial)) s)

-- the legs of a dial string are tried by a job, unless there are too many jobs
abbrev pub originate_done : Giver → Text → Winner → Caller → Option ℕ → Switch → Done
originate_done by url winner caller timeout s =
    if is_full_of_jobs s then says too_many_jobs s else dialed by (dial_string url) winner caller timeout s

-- ---- commands

-- what a command does that expands no text
abbrev pub done_plainly : Giver → Api → Switch → Done
done_plainly by (api.Echo text) s = says text s
done_plainly by (api.Expand uuid text) s = says (api_not_found (codes "expand")) s
done_plainly by api.CreateUuid s = identifier_told s
done_plainly by (api.GlobalGetvar name) s = says (global_text name s.globals.pairs) s
done_plainly by (api.GlobalSetvar name value) s = set_global name value s
done_plainly by (api.Msleep milliseconds) s = msleep_done by milliseconds s
done_plainly by (api.UuidExists uuid) s = says (told_whether (is_some (slot_named uuid s))) s
done_plainly by (api.UuidKill uuid cause) s = killed_as cause uuid s
done_plainly by (api.UuidBridge uuid other) s = uuid_bridge_done uuid other s
done_plainly by (api.UuidPark uuid) s = sent_done parked This uuid s
done_plainly by (api.UuidTransfer uuid side to) s = sent_done (transferred to) side uuid s
done_plainly by (api.UuidSetvar uuid name value) s = set_variable uuid name value s
done_plainly by (api.UuidGetvar uuid name) s = says (variable_text name (chan_named uuid s)) s
done_plainly by (api.UuidDump uuid) s = says (dump_text (chan_named uuid s)) s
done_plainly by (api.Hupall cause) s = hupall_done cause s
done_plainly by api.Shutdown s = shutdown_done s
done_plainly by api.Reloadxml s = reload_begun by s
done_plainly by (api.Originate url winner cid_name cid_number timeout) s =
    originate_done by url winner (record { name = cid_name; number = cid_number }) timeout s
done_plainly by (api.Usage which) s = says (usage_text (usage_of which)) s
done_plainly by (api.Unknown name) s = says (api_not_found name) s

-- what a text does that was expanded: it is run as a command, unless it was too long
abbrev pub done_expanded : Giver → Option Text → Switch → Done
done_expanded by None s = says too_long_text s
done_expanded by (Some text) s = done_plainly by (expanded_api_of text) s

-- so of one that is expanded over what a channel knows, if there is one
abbrev pub done_over : Giver → Text → Option Chan → Switch → Done
done_over by text None s = says no_channel s
done_over by text (Some c) s = done_expanded by (argument_in c s text) s

-- what an api command does
abbrev pub done_by : Giver → Api → Switch → Done
done_by by (api.Expand None text) s = done_expanded by (unless_too_long (expanded s.globals.pairs text)) s
done_by by (api.Expand (Some uuid) text) s = done_over by text (chan_named uuid s) s
done_by by other s = done_plainly by other s
