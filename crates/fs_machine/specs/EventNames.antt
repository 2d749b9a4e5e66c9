-- What the events of a name tell.
use Rattle.std.specs.Prelude.{◌≡◌, Bool, true, false, List, All}
use Rattle.fs_text.specs.declared.event_names.EventName.{EventName}
use Rattle.fs_text.specs.declared.event_names.EventName.TheVariants.{ChannelExecute, ChannelExecuteComplete, ChannelBridge}
use Rattle.fs_text.specs.declared.event_names.EventName.TheVariants.{ChannelUnbridge, ChannelHangup, ChannelHangupComplete, BackgroundJob, Custom}
use Rattle.fs_text.specs.declared.event_names.EventName.TheVariants as names
use Rattle.fs_state.specs.declared.event.Detail.{Detail}
use Rattle.fs_state.specs.declared.event.Detail.TheVariants.{Plain, Application, Bridge, Unbridge, Hangup, Report, Job, Shutdown, Queue}
use Rattle.fs_state.specs.declared.event.Event.{Event}

-- An event of a name can tell this beside its channel: an application as it begins or is over, a bridge as it begins or has ended, why a
-- channel is hung up, how its call was, a job that has ended, that the switch comes to its end, or what happens in a queue. An application
-- that is over need not be told, and events of all other names tell nothing.
abbrev pub can_tell : EventName → Detail → Bool
can_tell ChannelExecute (Application action) = true
can_tell ChannelExecute _ = false
can_tell ChannelExecuteComplete (Application action) = true
can_tell ChannelExecuteComplete Plain = true
can_tell ChannelExecuteComplete _ = false
can_tell ChannelBridge (Bridge row) = true
can_tell ChannelBridge _ = false
can_tell ChannelUnbridge (Unbridge row cause) = true
can_tell ChannelUnbridge _ = false
can_tell ChannelHangup (Hangup cause) = true
can_tell ChannelHangup _ = false
can_tell ChannelHangupComplete Report = true
can_tell ChannelHangupComplete _ = false
can_tell BackgroundJob (Job job answer) = true
can_tell BackgroundJob _ = false
can_tell names.Shutdown Shutdown = true
can_tell names.Shutdown _ = false
can_tell Custom (Queue name action) = true
can_tell Custom _ = false
can_tell _ Plain = true
can_tell _ _ = false

-- each event can tell what it tells
abbrev pub AreNamed : List Event → Type 0
AreNamed events = All (λ event. can_tell event.name event.detail ≡ true) events
