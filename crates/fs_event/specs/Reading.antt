-- How a text is read that tells of an event, and what it tells.
use Rattle.std.specs.Prelude.{◌≡◌, ◌<◌, ◌+◌, ◌^◌, ◌==◌, ℕ, zero, suc, false, List, [], ◌∷◌, ◌++◌, All, drop, length, codes, if◌then◌else◌}
use Rattle.std.specs.List.{list_any}
use Rattle.std.specs.Fmt.{decimal}
use Rattle.percent_encoding.specs.Percent.{percent_decode}
use Rattle.fs_text.specs.Headers.{with_values}
use Rattle.fs_text.specs.Texts.{Text}
use Rattle.fs_text.specs.Words.{is_byte, before_byte, behind_byte}
use Rattle.fs_event.specs.declared.event.Event.{Event}

-- headers, and what stands behind them
abbrev pub Told : Type 0
Told = List (Text × Text) × Text

-- ---- how a text is read

-- the header that a line is: its name stands before the first `:`, and its value, escaped, behind that and a space
abbrev pub header_of : Text → Text × Text
header_of line = (before_byte 58 line, percent_decode (drop 1 (behind_byte 58 line)))

-- with one more header, before the others
abbrev pub with_header : Text × Text → Told → Told
with_header header told = (header ∷ told.0, told.1)

-- with no more than so many headers
abbrev pub read_within : ℕ → Text → Told
read_within zero text = ([], text)
read_within (suc more) text =
    if length (before_byte 10 text) == 0
    then ([], behind_byte 10 text)
    else with_header (header_of (before_byte 10 text)) (read_within more (behind_byte 10 text))

-- the headers of the lines up to the first empty one, and what stands behind that
unfoldable pub read_text : Text → Told
read_text text = read_within (length text + 1) text

-- ---- what it tells

-- a name ends at the first `:`, and stands in one line; a value is bytes
pub record IsHeader (header : Text × Text) : Type 0 where
  pub no_colon : list_any (is_byte 58) header.0 ≡ false
  pub no_lf : list_any (is_byte 10) header.0 ≡ false
  pub bytes : All (λ b. b < 256) header.1

-- the text of the event can be read back
pub record IsTellable (event : Event) : Type 0 where
  pub headers : All IsHeader event.headers
  pub body : length event.body < 2 ^ 64

-- the header that tells the length of a text
abbrev pub length_header : Text → Text × Text
length_header text = (codes "Content-Length", decimal (length text))

-- the header that tells of a body, if there is one
unfoldable pub body_header : Text → List (Text × Text)
body_header body = if length body == 0 then [] else length_header body ∷ []

-- what the text of an event tells
unfoldable pub told : Event → Told
told event = (with_values event.headers ++ body_header event.body, event.body)

-- what the frame of a text tells
unfoldable pub framed : Text → Told
framed text = (length_header text ∷ (codes "Content-Type", codes "text/event-plain") ∷ [], text)
