-- What the commands of the event socket do.
use Rattle.std.specs.Prelude.{ℕ, Bool, true, [], ◌∷◌, codes, Option, None, Some, if◌then◌else◌}
use Rattle.std.specs.Str.{bytes_eq}
use Rattle.fs_text.specs.Texts.{Text}
use Rattle.fs_cmd.specs.declared.command.Form.{Form}
use Rattle.fs_cmd.specs.declared.command.Form.TheVariants.{Plain, Json, Xml}
use Rattle.fs_cmd.specs.Commands.{Command, Auth, Exit, Api, Unknown}
use Rattle.fs_cmd.specs.Commands.{Event, Nixevent, Noevents, Filter, FilterDelete, BadFilter, Bgapi, Sendmsg, Connect}
use Rattle.fs_cmd.specs.Commands.{Message, Execute, Hangup, BadCall}
use Rattle.fs_cmd.specs.Frames.{reply, api_reply, denied, accepted, invalid, bye, not_found}
use Rattle.fs_cmd.specs.Frames.{event_enabled, no_keywords, format_unsupported, event_disabled, no_longer_listening, not_listening}
use Rattle.fs_cmd.specs.Frames.{filter_added, filter_deleted, invalid_syntax, filter_not_found}
use Rattle.fs_cmd.specs.Frames.{job_begun, jobs_full}
use Rattle.fs_cmd.specs.Frames.{message_taken, invalid_session, invalid_call, messages_full}
use Rattle.fs_filter.specs.Asked.{Asked, asked_in, is_known}
use Rattle.fs_filter.specs.Subscriptions.{Subscription, subscribed, unsubscribed, cleared, with_filter, without_filter, has_filter}
use Rattle.fs_api.specs.Readings.{api_of}
use Rattle.fs_state.specs.declared.conn.Control.{Control}
use Rattle.fs_state.specs.declared.conn.Phase.{Phase}
use Rattle.fs_state.specs.declared.conn.Phase.TheVariants.{Fresh, Ready, Ending, Closed}
use Rattle.fs_state.specs.declared.conn.Parting.{Parting}
use Rattle.fs_state.specs.declared.conn.Parting.TheVariants as parting
use Rattle.fs_chan.specs.declared.action.Action.{Action}
use Rattle.fs_chan.specs.declared.chan.Chan.{Chan}
use Rattle.fs_chan.specs.Changes.{takes_message, with_message}
use Rattle.fs_state.specs.Switch.{Switch, chan_at, with_chan, conn_of, slot_named, with_frame_now, with_notice, is_full_of_jobs}
use Rattle.fs_state.specs.Hangups.{after_hangup}
use Rattle.fs_machine.specs.Controlling.{control_of, after_letting_go, farewell, names_all, greeting_for}
use Rattle.fs_machine.specs.Connections.{phase_at, conn_changed, admitted, parted, with_subs_changed, subs_at}
use Rattle.fs_machine.specs.declared.owing.Giver.TheVariants as giver
use Rattle.fs_machine.specs.Done.{Done}
use Rattle.fs_machine.specs.Owing.{job_uuid, background_begun}
use Rattle.fs_machine.specs.Api.{done_by}

-- a reply
abbrev pub with_reply : ℕ → Text → Switch → Switch
with_reply conn text s = with_frame_now conn (reply text []) s

-- what a connection controls
abbrev pub control_at : Switch → ℕ → Option Control
control_at s conn = control_of (conn_of s conn)

-- a channel that it holds goes on; it gets a last reply, and the notice
abbrev pub after_dismissal : ℕ → Parting → Text → Switch → Switch
after_dismissal conn why text s =
    with_notice conn (farewell (control_at s conn)) (with_reply conn text (conn_changed (parted why) conn (after_letting_go conn s)))

-- a password was offered
abbrev pub after_password : ℕ → Text → Switch → Switch
after_password conn given s =
    if bytes_eq given s.settings.password
    then with_reply conn accepted (conn_changed admitted conn s)
    else after_dismissal conn parting.AuthRefused invalid s

-- a reply, unless it is owed
abbrev pub with_response_of : ℕ → Option Text → Switch → Switch
with_response_of conn None s = s
with_response_of conn (Some text) s = with_frame_now conn (api_reply text) s

-- an api command was done
abbrev pub with_response : ℕ → Done → Switch
with_response conn d = with_response_of conn d.reply d.state

-- ---- events

-- what a connection subscribed is changed, and it is told so
abbrev pub after_asking : ℕ → (Subscription → Subscription) → Text → Switch → Switch
after_asking conn change text s = with_reply conn text (conn_changed (with_subs_changed change) conn s)

-- a known name stands among the words, or none does
abbrev pub unless_unknown : Asked → Text → Text
unless_unknown asked text = if is_known asked then text else no_keywords

-- events are subscribed by their names
abbrev pub after_subscribing : ℕ → Form → Text → Switch → Switch
after_subscribing conn Plain names s =
    after_asking conn (subscribed (asked_in names)) (unless_unknown (asked_in names) event_enabled) s
after_subscribing conn Json names s = with_reply conn format_unsupported s
after_subscribing conn Xml names s = with_reply conn format_unsupported s

-- some are not any more
abbrev pub after_unsubscribing : ℕ → Text → Switch → Switch
after_unsubscribing conn names s =
    after_asking conn (unsubscribed (asked_in names)) (unless_unknown (asked_in names) event_disabled) s

-- none is any more; the filters stay
abbrev pub after_silence : ℕ → Switch → Switch
after_silence conn s =
    if (subs_at s conn).listening then after_asking conn cleared no_longer_listening s else with_reply conn not_listening s

-- with another filter
abbrev pub with_filter_added : Text → Text → Subscription → Subscription
with_filter_added header value s = record s { filters = with_filter s.filters (header, value) }

-- without the filters of a header, or those of it with a value
abbrev pub with_filters_deleted : Text → Option Text → Subscription → Subscription
with_filters_deleted header value s = record s { filters = without_filter s.filters header value }

-- filters are deleted, if there are such
abbrev pub after_deletion : ℕ → Text → Option Text → Switch → Switch
after_deletion conn header value s =
    if has_filter (subs_at s conn).filters header value
    then after_asking conn (with_filters_deleted header value) (filter_deleted header value) s
    else with_reply conn filter_not_found s

-- ---- jobs in the background

-- a job has begun, of this identifier
abbrev pub with_begun_told : ℕ → Text → Switch → Switch
with_begun_told conn uuid s = with_frame_now conn (reply (job_begun uuid) ((codes "Job-UUID", uuid) ∷ [])) s

-- a job is to run a command, unless there are too many jobs
abbrev pub after_background : ℕ → Option Text → Text → Switch → Switch
after_background conn given command s =
    if is_full_of_jobs s then with_reply conn jobs_full s
    else with_begun_told conn (job_uuid given s) (background_begun given command s)

-- ---- messages

-- the channel in a slot is to run an application behind what was sent to it before, if there is room for it
abbrev pub queued_on : ℕ → Text → Action → ℕ → Option Chan → Switch → Switch
queued_on conn uuid message slot None s = with_reply conn (invalid_session uuid) s
queued_on conn uuid message slot (Some c) s =
    if takes_message c then with_reply conn message_taken (with_chan slot (Some (with_message message c)) s)
    else with_reply conn messages_full s

-- what a message to the channel in a slot does
abbrev pub message_done : ℕ → Text → Message → ℕ → Switch → Switch
message_done conn uuid (Execute application argument) slot s =
    queued_on conn uuid (record { application = application; argument = argument }) slot (chan_at s slot) s
message_done conn uuid (Hangup cause) slot s = with_reply conn message_taken (after_hangup cause slot s)
message_done conn uuid BadCall slot s = with_reply conn invalid_call s

-- so in the slot of the live channel of an identifier, if there is one
abbrev pub message_done_at : ℕ → Text → Message → Option ℕ → Switch → Switch
message_done_at conn uuid message None s = with_reply conn (invalid_session uuid) s
message_done_at conn uuid message (Some slot) s = message_done conn uuid message slot s

-- so for the channel of an identifier
abbrev pub message_done_for : ℕ → Text → Message → Switch → Switch
message_done_for conn uuid message s = message_done_at conn uuid message (slot_named uuid s) s

-- the identifier of the channel that a connection controls
abbrev pub controlled_uuid : Option Control → Option Text
controlled_uuid None = None
controlled_uuid (Some control) = Some control.uuid

-- so for a channel that may be named
abbrev pub message_done_to : ℕ → Option Text → Message → Switch → Switch
message_done_to conn None message s = with_reply conn (invalid_session []) s
message_done_to conn (Some uuid) message s = message_done_for conn uuid message s

-- what `sendmsg` does; if it names nobody, it is for the channel that its connection controls
abbrev pub message_sent : ℕ → Option Text → Message → Switch → Switch
message_sent conn None message s = message_done_to conn (controlled_uuid (control_at s conn)) message s
message_sent conn (Some uuid) message s = message_done_for conn uuid message s

-- ---- what controllers may command

-- it may command all that there is: it controls nothing, or was dialed so
abbrev pub may_command_all : Option Control → Bool
may_command_all None = true
may_command_all (Some control) = names_all control.dialed

-- what a command comes to, unless it is not for the controller of one channel
abbrev pub unless_denied : ℕ → (Switch → Switch) → Switch → Switch
unless_denied conn done s = if may_command_all (control_at s conn) then done s else with_reply conn denied s

-- what a controller is told of its channel
abbrev pub greeted_by : ℕ → Option Text → Switch → Switch
greeted_by conn None s = with_reply conn not_found s
greeted_by conn (Some text) s = with_frame_now conn text s

-- what `connect` does, which is for controllers alone
abbrev pub after_connect : ℕ → Switch → Switch
after_connect conn s = greeted_by conn (greeting_for (control_at s conn) s) s

-- ---- all commands

-- what a command does in a phase of its connection; before a password was accepted `auth` and `exit` alone are known
abbrev pub command_done_in : Phase → ℕ → Command → Switch → Switch
command_done_in Fresh conn (Auth given) s = after_password conn given s
command_done_in Fresh conn Exit s = after_dismissal conn parting.Exit bye s
command_done_in Fresh conn _ s = with_reply conn not_found s
command_done_in Ready conn (Auth given) s = with_reply conn not_found s
command_done_in Ready conn Exit s = after_dismissal conn parting.Exit bye s
command_done_in Ready conn (Api text) s =
    unless_denied conn (λ t. with_response conn (done_by (giver.Conn conn) (api_of text) t)) s
command_done_in Ready conn (Event form names) s = after_subscribing conn form names s
command_done_in Ready conn (Nixevent names) s = after_unsubscribing conn names s
command_done_in Ready conn Noevents s = after_silence conn s
command_done_in Ready conn (Filter header value) s =
    after_asking conn (with_filter_added header value) (filter_added header value) s
command_done_in Ready conn (FilterDelete header value) s = after_deletion conn header value s
command_done_in Ready conn BadFilter s = with_reply conn invalid_syntax s
command_done_in Ready conn (Bgapi text job) s = unless_denied conn (after_background conn job text) s
command_done_in Ready conn (Sendmsg uuid message) s = message_sent conn uuid message s
command_done_in Ready conn Connect s = after_connect conn s
command_done_in Ready conn Unknown s = with_reply conn not_found s
command_done_in Ending conn command s = s
command_done_in Closed conn command s = s

-- what a command does in the phase in which its connection is
unfoldable pub command_done : ℕ → Command → Switch → Switch
command_done conn command s = command_done_in (phase_at s conn) conn command s
