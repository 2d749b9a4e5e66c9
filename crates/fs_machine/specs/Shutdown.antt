-- The end of the switch: all channels are hung up, nothing is left to be done, and all connections part.
use Rattle.std.specs.Prelude.{None}
use Rattle.fs_text.specs.Texts.{Text}
use Rattle.fs_text.specs.declared.causes.Cause.TheVariants.{SystemShutdown}
use Rattle.fs_text.specs.declared.event_names.EventName.TheVariants.{Shutdown}
use Rattle.fs_cmd.specs.Frames.{api_reply, notice}
use Rattle.fs_state.specs.declared.event.Event.{Event}
use Rattle.fs_state.specs.declared.event.Detail.TheVariants as detail
use Rattle.fs_state.specs.Ending.{ended}
use Rattle.fs_state.specs.Switch.{Switch, with_event}
use Rattle.fs_machine.specs.Controlling.{after_leavings}
use Rattle.fs_machine.specs.Hangups.{after_hangup_of_all}
use Rattle.fs_machine.specs.Texts.{failed_text}

-- the switch comes to its end
abbrev pub shutdown_event : Event
shutdown_event = record { name = Shutdown; subject = None; detail = detail.Shutdown }

-- the reply to whoever is owed one
abbrev pub stopped_reply : Text
stopped_reply = api_reply (failed_text SystemShutdown)

-- the live channels are hung up in one hangup, controllers part as their channels leave, the end is told, nothing is left to be done, and
-- the other connections part
unfoldable pub after_shutdown : Switch → Switch
after_shutdown s =
    ended stopped_reply notice (with_event shutdown_event (after_leavings (after_hangup_of_all SystemShutdown s)))
