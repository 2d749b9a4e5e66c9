-- What an api command comes to: the switch after it, and its reply.
use Rattle.std.specs.Prelude.{◌≡◌, Option, None, Some}
use Rattle.fs_text.specs.Texts.{Text}
use Rattle.fs_state.specs.Switch.{Switch}

-- the switch after an api command, and its reply, unless that is owed
pub record Done : Type 0 where
  pub state : Switch
  pub reply : Option Text

-- a command comes to this state and this reply, if it is not owed
abbrev pub ComesTo : Done → Switch → Option Text → Type 0
ComesTo done state reply = done ≡ record { state = state; reply = reply }

-- a reply, and nothing else
abbrev pub says : Text → Switch → Done
says reply s = record { state = s; reply = Some reply }

-- no reply yet
abbrev pub no_reply_yet : Switch → Done
no_reply_yet s = record { state = s; reply = None }
