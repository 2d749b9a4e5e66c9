-- The texts that a connection is sent of an event.
use Rattle.std.specs.Prelude.{ℕ, [], map, ◌++◌, ◌==◌, length, codes, if◌then◌else◌}
use Rattle.std.specs.List.{concat}
use Rattle.std.specs.Fmt.{decimal}
use Rattle.fs_text.specs.Escape.{escape}
use Rattle.fs_text.specs.Headers.{header_line}
use Rattle.fs_text.specs.Texts.{Text}
use Rattle.fs_event.specs.declared.event.Event.{Event}

-- the line of a header, with its value escaped
abbrev pub escaped_line : Text × Text → Text
escaped_line header = header_line (header.0, escape header.1)

-- what stands behind the name in that line
abbrev pub escaped_value : Text → Text
escaped_value value = codes ": " ++ escape value ++ codes "\n"

-- a header with an empty value is left out
unfoldable pub line_with_value : Text × Text → Text
line_with_value header = if length header.1 == 0 then [] else escaped_line header

-- the line that tells a length
abbrev pub length_line : ℕ → Text
length_line len = header_line (codes "Content-Length", decimal len)

-- the length of a body, if there is one
unfoldable pub body_length : Text → Text
body_length body = if length body == 0 then [] else length_line (length body)

-- what stands behind the headers
abbrev pub ending : Text → Text
ending body = body_length body ++ codes "\n" ++ body

-- the plain text of an event
unfoldable pub plain : Event → Text
plain event = concat (map line_with_value event.headers) ++ ending event.body

-- the frame of a plain text
abbrev pub frame_of : Text → Text
frame_of text = length_line (length text) ++ codes "Content-Type: text/event-plain\n\n" ++ text

-- the frame of an event
unfoldable pub frame : Event → Text
frame event = frame_of (plain event)
