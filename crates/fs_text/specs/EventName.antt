-- The names of events.
use Rattle.std.specs.Prelude.{ℕ, List, [], ◌∷◌, Option, find, codes, map}
use Rattle.std.specs.Str.{bytes_eq}
use Rattle.fs_text.specs.declared.event_names.EventName.{EventName}
use Rattle.fs_text.specs.declared.event_names.EventName.TheVariants.{Custom, ChannelCreate, ChannelState, ChannelAnswer, ChannelExecute}
use Rattle.fs_text.specs.declared.event_names.EventName.TheVariants.{ChannelExecuteComplete, ChannelBridge, ChannelUnbridge, ChannelPark}
use Rattle.fs_text.specs.declared.event_names.EventName.TheVariants.{ChannelUnpark, ChannelHangup, ChannelHangupComplete, ChannelDestroy}
use Rattle.fs_text.specs.declared.event_names.EventName.TheVariants.{BackgroundJob, Shutdown}

-- the number and the name of an event name
unfoldable pub event_row : EventName → ℕ × List ℕ
event_row Custom = (1, codes "CUSTOM")
event_row ChannelCreate = (2, codes "CHANNEL_CREATE")
event_row ChannelState = (3, codes "CHANNEL_STATE")
event_row ChannelAnswer = (4, codes "CHANNEL_ANSWER")
event_row ChannelExecute = (5, codes "CHANNEL_EXECUTE")
event_row ChannelExecuteComplete = (6, codes "CHANNEL_EXECUTE_COMPLETE")
event_row ChannelBridge = (7, codes "CHANNEL_BRIDGE")
event_row ChannelUnbridge = (8, codes "CHANNEL_UNBRIDGE")
event_row ChannelPark = (9, codes "CHANNEL_PARK")
event_row ChannelUnpark = (10, codes "CHANNEL_UNPARK")
event_row ChannelHangup = (11, codes "CHANNEL_HANGUP")
event_row ChannelHangupComplete = (12, codes "CHANNEL_HANGUP_COMPLETE")
event_row ChannelDestroy = (13, codes "CHANNEL_DESTROY")
event_row BackgroundJob = (14, codes "BACKGROUND_JOB")
event_row Shutdown = (15, codes "SHUTDOWN")

-- all event names, in the order of their numbers
abbrev pub all_events : List EventName
all_events =
    Custom ∷ ChannelCreate ∷ ChannelState ∷ ChannelAnswer
    ∷ ChannelExecute ∷ ChannelExecuteComplete ∷ ChannelBridge ∷ ChannelUnbridge
    ∷ ChannelPark ∷ ChannelUnpark ∷ ChannelHangup ∷ ChannelHangupComplete
    ∷ ChannelDestroy ∷ BackgroundJob ∷ Shutdown ∷ []

-- the table of event names: number and name
abbrev pub events : List (ℕ × List ℕ)
events = map event_row all_events

-- the number of an event name
abbrev pub event_number : EventName → ℕ
event_number e = (event_row e).0

-- how an event name is written
abbrev pub event_name : EventName → List ℕ
event_name e = (event_row e).1

-- the event name that is written so
unfoldable pub event_of_name : List ℕ → Option EventName
event_of_name text = find (λ e. bytes_eq (event_name e) text) all_events
