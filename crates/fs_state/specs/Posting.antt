-- What an entry tells the connections that subscribed its events.
use Rattle.std.specs.Prelude.{◌≡◌, ℕ, ◌+◌, ◌-◌, ◌^◌, ◌==◌, min, Bool, false, if◌then◌else◌, List, [], ◌∷◌, ◌++◌, length, map, filter}
use Rattle.std.specs.Prelude.{take, get_or, codes, Option, None, Some, is_some, option_map}
use Rattle.std.specs.Option.{option_or}
use Rattle.std.specs.Fmt.{decimal}
use Rattle.fs_text.specs.CoreId as core_id
use Rattle.fs_text.specs.Cause.{cause_name}
use Rattle.fs_text.specs.EventName.{event_name}
use Rattle.fs_text.specs.Headers.{with_values, variable_header}
use Rattle.fs_text.specs.Texts.{Text}
use Rattle.fs_text.specs.Words.{without_spaces, word_of, behind_word}
use Rattle.fs_text.specs.declared.causes.Cause.{Cause}
use Rattle.fs_text.specs.declared.event_names.EventName.{EventName}
use Rattle.fs_text.specs.declared.states.State.TheVariants.{CsDestroy}
use Rattle.fs_vars.specs.Pairs.{Pairs}
use Rattle.fs_vars.specs.Variables.{Variables}
use Rattle.fs_event.specs.declared.event.Event.{Event as Telling}
use Rattle.fs_event.specs.Texts.{frame}
use Rattle.fs_filter.specs.Subscriptions.{Subscription, has_event, wants}
use Rattle.fs_bridge.specs.declared.row.Row.{Row}
use Rattle.fs_chan.specs.declared.action.Action.{Action}
use Rattle.fs_chan.specs.declared.chan.Chan.{Chan}
use Rattle.fs_chan.specs.Changes.{in_state}
use Rattle.fs_chan.specs.Headers.{channel_headers}
use Rattle.fs_seats.specs.declared.numbered.Numbered.{Numbered}
use Rattle.fs_seats.specs.Seats.{first_seat}
use Rattle.fs_seats.specs.Rows.{seat_of}
use Rattle.fs_state.specs.declared.conn.Conn.{Conn}
use Rattle.fs_state.specs.declared.event.Event.{Event}
use Rattle.fs_state.specs.declared.event.Detail.{Detail}
use Rattle.fs_state.specs.declared.event.Detail.TheVariants as detail
use Rattle.fs_state.specs.declared.event.QueueAction.{QueueAction}
use Rattle.fs_state.specs.declared.event.QueueAction.TheVariants as action
use Rattle.fs_state.specs.Frames.{Gift}
use Rattle.fs_state.specs.declared.job.Background.{Background}
use Rattle.fs_state.specs.Frames as outgoing
use Rattle.fs_state.specs.declared.gift.Given.{Given}
use Rattle.fs_state.specs.declared.outbox.Waiting.TheVariants as waiting
use Rattle.fs_state.specs.declared.post.Post.{Post}
use Rattle.fs_state.specs.Losses.{Losses, with_loss}
use Rattle.fs_state.specs.Outboxes.{Frames, events_in}
use Rattle.fs_state.specs.Posted.{events_of}
use Rattle.fs_state.specs.Switch.{Switch, chan_at, outgoing_for}
use Rattle.fs_state.specs.Waiting.{Outbox, gifts_in}

-- ---- the whole of an event: before the entry the switch stands as in the first argument, and behind it as in the second

-- a channel that is there, or one that is gone
abbrev pub here_or_gone : Option Chan → Option Chan → Option Chan
here_or_gone (Some c) was = Some c
here_or_gone None was = option_map (in_state CsDestroy) was

-- the channel in a slot, as the entry leaves it; one that is gone by then as it was, in its last state
abbrev pub chan_told : Switch → Switch → ℕ → Option Chan
chan_told before s slot = here_or_gone (chan_at s slot) (chan_at before slot)

-- the same, but for the state of one that is gone
abbrev pub chan_left : Switch → Switch → ℕ → Option Chan
chan_left before s slot = option_or (chan_at s slot) (chan_at before slot)

-- the channel that an event tells of, if it tells of one
abbrev pub subject_told : Switch → Switch → Option ℕ → Option Chan
subject_told before s None = None
subject_told before s (Some slot) = chan_told before s slot

-- the same, but for the state of one that is gone
abbrev pub subject_left : Switch → Switch → Option ℕ → Option Chan
subject_left before s None = None
subject_left before s (Some slot) = chan_left before s slot

-- the headers of a channel that is gone
abbrev pub headers_of_gone : Chan → Pairs
headers_of_gone c = channel_headers (in_state CsDestroy c)

-- the headers of a channel, where there is one
abbrev pub headers_of_chan : Option Chan → Pairs
headers_of_chan None = []
headers_of_chan (Some c) = channel_headers c

-- the identifier of a channel, where there is one
abbrev pub uuid_of : Option Chan → Text
uuid_of None = []
uuid_of (Some c) = c.uuid

-- the subclass of what is told of queues
unfoldable pub fifo_subclass : Text
fifo_subclass = codes "fifo::info"

-- the subclass of an event, where it has one
abbrev pub subclass_in : Detail → Text
subclass_in (detail.Queue name action) = fifo_subclass
subclass_in _ = []

-- which event it is: its name, and its subclass where it has one
abbrev pub name_headers : EventName → Text → Pairs
name_headers name subclass = (codes "Event-Name", event_name name) ∷ with_values ((codes "Event-Subclass", subclass) ∷ [])

-- the switch, the number of the event, and the moment
abbrev pub switch_headers : Switch → ℕ → Pairs
switch_headers s number =
    (codes "Core-UUID", core_id.uuid s.settings.core_uuid 0)
    ∷ (codes "Event-Sequence", decimal number)
    ∷ (codes "Event-Date-Timestamp", decimal s.moment)
    ∷ []

-- the headers of all events
abbrev pub first_headers : Switch → ℕ → EventName → Text → Pairs
first_headers s number name subclass = name_headers name subclass ++ switch_headers s number

-- the application, and the first bytes of its argument
abbrev pub application_headers : Action → Pairs
application_headers action =
    (codes "Application", action.application) ∷ (codes "Application-Data", take 1024 action.argument) ∷ []

-- the legs of a bridge, and its number
abbrev pub bridge_headers : Switch → Switch → Row → Pairs
bridge_headers before s row =
    (codes "Bridge-A-Unique-ID", uuid_of (chan_told before s row.caller))
    ∷ (codes "Bridge-B-Unique-ID", uuid_of (chan_told before s row.answerer))
    ∷ (codes "Bridge-Number", decimal row.number)
    ∷ []

-- why a channel was hung up, or a bridge ended
abbrev pub cause_header : Cause → Pairs
cause_header cause = (codes "Hangup-Cause", cause_name cause) ∷ []

-- why a channel was hung up, where it was
abbrev pub cause_headers : Option Cause → Pairs
cause_headers None = []
cause_headers (Some cause) = cause_header cause

-- the headers of all variables, in order
abbrev pub variable_headers : Variables → Pairs
variable_headers vars = map variable_header vars.pairs

-- how the call of a channel was: why it was hung up, and its variables
abbrev pub report_headers : Option Chan → Pairs
report_headers None = []
report_headers (Some c) = cause_headers c.cause ++ variable_headers c.vars

-- a job in the background: its identifier, and the name and the arguments of its command
abbrev pub job_headers : Background → Pairs
job_headers job =
    (codes "Job-UUID", job.uuid)
    ∷ (codes "Job-Command", word_of (without_spaces job.command))
    ∷ (codes "Job-Command-Arg", behind_word (without_spaces job.command))
    ∷ []

-- that the switch comes to its end
abbrev pub shutdown_headers : Pairs
shutdown_headers = (codes "Event-Info", codes "System Shutting Down") ∷ []

-- what happens to a caller in a queue, as it is told
unfoldable pub action_name : QueueAction → Text
action_name action.Push = codes "push"
action_name action.CallerPop = codes "caller_pop"
action_name action.Abort = codes "abort"

-- the queue, and what happened there
abbrev pub queue_headers : Text → QueueAction → Pairs
queue_headers name action = (codes "FIFO-Name", name) ∷ (codes "FIFO-Action", action_name action) ∷ []

-- what an event tells beside its channel
abbrev pub detail_headers : Switch → Switch → Option ℕ → Detail → Pairs
detail_headers before s subject detail.Plain = []
detail_headers before s subject (detail.Application action) = application_headers action
detail_headers before s subject (detail.Bridge row) = bridge_headers before s row
detail_headers before s subject (detail.Unbridge row cause) = bridge_headers before s row ++ cause_header cause
detail_headers before s subject (detail.Hangup cause) = cause_header cause
detail_headers before s subject detail.Report = report_headers (subject_told before s subject)
detail_headers before s subject (detail.Job job answer) = job_headers job
detail_headers before s subject detail.Shutdown = shutdown_headers
detail_headers before s subject (detail.Queue name action) = queue_headers name action

-- what stands behind the headers of an event: the answer of a job
abbrev pub body_in : Detail → Text
body_in (detail.Job job answer) = answer
body_in _ = []

-- all headers of an event, where it has this number
unfoldable pub headers_of : Switch → Switch → ℕ → Event → Pairs
headers_of before s number event =
    first_headers s number event.name (subclass_in event.detail) ++ headers_of_chan (subject_told before s event.subject)
    ++ with_values (detail_headers before s event.subject event.detail)

-- all that an event tells, where it has this number
unfoldable pub telling_of : Switch → Switch → ℕ → Event → Telling
telling_of before s number event =
    record { name = event.name; subclass = subclass_in event.detail; headers = headers_of before s number event; body = body_in event.detail }

-- all that events tell, the first of which has this number; the number stands still at 2^64 - 1
abbrev pub tellings_from : Switch → Switch → ℕ → List Event → List Telling
tellings_from before s number [] = []
tellings_from before s number (event ∷ events) =
    telling_of before s (min number (2 ^ 64 - 1)) event ∷ tellings_from before s (number + 1) events

-- all that the events of an entry tell: they are numbered by how many there were before
unfoldable pub tellings : Switch → Switch → List Telling
tellings before s = tellings_from before s (s.counts.all + 1) s.news

-- ---- who is told of it

-- the frames of the events that a subscription wants
abbrev pub wanted_by : Subscription → List Telling → List Text
wanted_by subs all = map frame (filter (wants subs) all)

-- how many events may wait for a connection
abbrev pub most_events : ℕ
most_events = 10000

-- for so many more there is room behind these frames
abbrev pub room_behind : Frames → ℕ
room_behind frames = most_events - events_in frames

-- frames of events for a connection, if there are any
abbrev pub posts_of : ℕ → List Text → List Gift
posts_of conn [] = []
posts_of conn (text ∷ texts) = record { conn = conn; frames = map outgoing.Event (text ∷ texts) } ∷ []

-- a connection is told what it wants of these; if it is not among the ones that are there, nothing
abbrev pub wanted_of : List (Option (Numbered Conn)) → List Telling → Numbered Conn → List Text
wanted_of there told row = if is_some (seat_of there row.number) then wanted_by row.held.subs told else []

-- a connection that was there before the entry is told what it wanted before the entry; if the entry leaves it closed, nothing
abbrev pub wanted_at : Switch → Switch → Numbered Conn → List Text
wanted_at before s row = wanted_of s.conns (tellings before s) row

-- the events for which there is room
abbrev pub posts_at : Switch → Switch → Numbered Conn → List Gift
posts_at before s row = posts_of row.number (take (room_behind (outgoing_for before row.number)) (wanted_at before s row))

-- how many are lost
abbrev pub lost_at : Switch → Switch → Numbered Conn → ℕ
lost_at before s row = length (wanted_at before s row) - room_behind (outgoing_for before row.number)

-- what is posted to the connections at these seats
abbrev pub posts_from : Switch → Switch → List (Option (Numbered Conn)) → List Gift
posts_from before s [] = []
posts_from before s (None ∷ conns) = posts_from before s conns
posts_from before s (Some row ∷ conns) = posts_at before s row ++ posts_from before s conns

-- a loss, if there is one
abbrev pub with_loss_of : ℕ → ℕ → Losses → Losses
with_loss_of conn lost losses = if lost == 0 then losses else with_loss conn lost losses

-- with what the connections at these seats lose
abbrev pub losses_from : Switch → Switch → List (Option (Numbered Conn)) → Losses → Losses
losses_from before s [] losses = losses
losses_from before s (None ∷ conns) losses = losses_from before s conns losses
losses_from before s (Some row ∷ conns) losses =
    losses_from before s conns (with_loss_of row.number (lost_at before s row) losses)

-- what an entry posts, by the seats of the connections that were there before it
unfoldable pub posts : Switch → Switch → List Gift
posts before s = posts_from before s before.conns

-- what connections have lost then
unfoldable pub losses_after : Switch → Switch → Losses
losses_after before s = losses_from before s before.conns s.losses

-- an entry has posted its events
abbrev pub with_posts : Switch → Switch → Switch
with_posts before s = record s { posted = posts before s; losses = losses_after before s }

-- ---- how it is posted: what nobody wants is not told at all

-- the connection that stands at a seat, if one does, wants an event
abbrev pub wants_at : Telling → Option (Numbered Conn) → Bool
wants_at telling None = false
wants_at telling (Some row) = wants row.held.subs telling

-- some connection wants it
abbrev pub is_wanted : List (Option (Numbered Conn)) → Telling → Bool
is_wanted conns telling = is_some (first_seat (wants_at telling) conns 0)

-- the connection that stands at a seat has subscribed the events of a name, of CUSTOM events those with a subclass
abbrev pub hears_at : EventName → Text → Option (Numbered Conn) → Bool
hears_at name subclass None = false
hears_at name subclass (Some row) = has_event row.held.subs name subclass

-- some connection has
abbrev pub is_heard : List (Option (Numbered Conn)) → EventName → Text → Bool
is_heard conns name subclass = is_some (first_seat (hears_at name subclass) conns 0)

-- the connection that stands at a seat has subscribed nothing
abbrev pub IsDeaf : Option (Numbered Conn) → Type 0
IsDeaf held = (name : EventName) (subclass : Text) → hears_at name subclass held ≡ false

-- none of them has
pub record AreDeaf (conns : List (Option (Numbered Conn))) : Type 0 where
  pub each : (name : EventName) (subclass : Text) → is_heard conns name subclass ≡ false

-- what an event tells, if some connection wants it
abbrev pub told_of : Switch → Switch → ℕ → Event → Option Telling
told_of before s number event =
    if is_wanted before.conns (telling_of before s number event) then Some (telling_of before s number event) else None

-- the event of a number, with who of the connections at the first seats wants it; none is to read it yet
abbrev pub post_of : List (Option (Numbered Conn)) → ℕ → Telling → Post
post_of front number telling =
    record { number = number; frame = frame telling; takers = map (wants_at telling) front; readers = 0 }

-- so of those of these that some connection wants, where the first of these has this number
abbrev pub posts_numbered : ℕ → List (Option (Numbered Conn)) → ℕ → List Telling → List Post
posts_numbered seats conns number [] = []
posts_numbered seats conns number (telling ∷ all) =
    if is_wanted conns telling then post_of (take seats conns) number telling ∷ posts_numbered seats conns (number + 1) all
    else posts_numbered seats conns (number + 1) all

-- so of the events of an entry: they are numbered by how many there were before
abbrev pub posts_told : ℕ → Switch → Switch → List Post
posts_told seats before s = posts_numbered seats before.conns (s.counts.all + 1) (tellings before s)

-- the connection at a seat wants it
abbrev pub is_taken : ℕ → Post → Bool
is_taken seat post = get_or post.takers seat false

-- the frames that it wants
abbrev pub frames_at : ℕ → List Post → List Text
frames_at seat posts = map (λ (post : Post). post.frame) (filter (is_taken seat) posts)

-- the numbers of their events
abbrev pub numbers_at : ℕ → List Post → List ℕ
numbers_at seat posts = map (λ (post : Post). post.number) (filter (is_taken seat) posts)

-- for so many events there is room behind the frames that wait for a connection
abbrev pub room_for : Switch → ℕ → ℕ
room_for before conn = room_behind (outgoing_for before conn)

-- as many frames of events as there is room for
abbrev pub frames_within : ℕ → List Text → Frames
frames_within room texts = map outgoing.Event (take room texts)

-- as many numbers of events
abbrev pub numbers_within : ℕ → List ℕ → Outbox
numbers_within room numbers = map waiting.Event (take room numbers)

-- frames for a connection, if there are any
abbrev pub gifts_of : ℕ → Frames → List Gift
gifts_of conn [] = []
gifts_of conn (frame ∷ frames) = record { conn = conn; frames = frame ∷ frames } ∷ []

-- numbers of events for a connection, if there are any
abbrev pub lists_of : ℕ → Outbox → List Given
lists_of conn [] = []
lists_of conn (first ∷ outbox) = record { conn = conn; waiting = first ∷ outbox } ∷ []

-- they are posted
abbrev pub with_post : ℕ → Frames → Switch → Switch
with_post conn frames s = record s { posted = s.posted ++ gifts_of conn frames }

-- a connection loses so many events
abbrev pub with_lost : ℕ → ℕ → Switch → Switch
with_lost conn lost s = record s { losses = with_loss_of conn lost s.losses }

-- what is left of these for a connection, which may be gone by then
abbrev pub left_for : Switch → Numbered Conn → List Text → List Text
left_for s row texts = if is_some (seat_of s.conns row.number) then texts else []

-- a connection is posted these, as far as there is room
abbrev pub posted_to : Switch → List Text → Numbered Conn → Switch → Switch
posted_to before texts row s =
    with_lost row.number (length (left_for s row texts) - room_for before row.number)
    (with_post row.number (frames_within (room_for before row.number) (left_for s row texts)) s)

-- the one that stands at a seat, if one does, is posted what it wants
abbrev pub posted_at : Switch → List Post → ℕ → Option (Numbered Conn) → Switch → Switch
posted_at before posts seat None s = s
posted_at before posts seat (Some row) s = posted_to before (frames_at seat posts) row s

-- so are those that stand at seats from one on, one after another
abbrev pub posted_over : Switch → List Post → ℕ → List (Option (Numbered Conn)) → Switch → Switch
posted_over before posts seat [] s = s
posted_over before posts seat (held ∷ conns) s =
    posted_over before posts (seat + 1) conns (posted_at before posts seat held s)

-- these lists of numbers are posted, where these are the events
abbrev pub with_lists : List Post → List Given → Switch → Switch
with_lists posts lists s = record s { posted = gifts_in (events_of posts) lists }
