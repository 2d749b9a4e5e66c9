-- Frames that go out to a connection.
use Rattle.std.specs.Prelude.{ℕ, Bool, true, false, List, map, count_by}
use Rattle.fs_text.specs.Texts.{Text}

-- A frame that goes out to a connection: a reply, a notice, or another frame that is never lost; or an event, which is lost where too many
-- wait.
pub data Outgoing : Type 0 where
  Reply : Text → Outgoing
  Event : Text → Outgoing

-- frames that go out to a connection, in order
abbrev pub Frames : Type 0
Frames = List Outgoing

-- frames that an entry gives to the connection of a number
pub record Gift : Type 0 where
  pub conn : ℕ
  pub frames : Frames

-- the text of a frame
abbrev pub text_of : Outgoing → Text
text_of (Reply text) = text
text_of (Event text) = text

-- the texts of frames, in order
abbrev pub texts_of : Frames → List Text
texts_of frames = map text_of frames

-- a frame tells of an event
abbrev pub is_event : Outgoing → Bool
is_event (Reply text) = false
is_event (Event text) = true

-- how many of them do
abbrev pub events_in : Frames → ℕ
events_in frames = count_by is_event frames
