-- The reply to `connect`, which tells a controller of its channel.
use Rattle.std.specs.Prelude.{Bool, if◌then◌else◌, [], ◌∷◌, ◌++◌, map, codes}
use Rattle.std.specs.List.{concat}
use Rattle.fs_text.specs.Escape.{escape}
use Rattle.fs_text.specs.Headers.{header_line, with_values, variable_header}
use Rattle.fs_text.specs.Texts.{Text}
use Rattle.fs_cmd.specs.Frames.{reply}
use Rattle.fs_vars.specs.Pairs.{Pairs}
use Rattle.fs_chan.specs.declared.chan.Chan.{Chan}
use Rattle.fs_chan.specs.Headers.{channel_headers}
use Rattle.fs_out.specs.declared.target.Target.{Target}

-- the headers that events have of a channel and of its variables
abbrev pub headers_of : Chan → Pairs
headers_of c = channel_headers c ++ with_values (map variable_header c.vars.pairs)

-- a header with its value escaped
abbrev pub escaped_header : Text × Text → Text × Text
escaped_header header = (header.0, escape header.1)

-- their lines, with their values escaped
abbrev pub lines_of : Pairs → Text
lines_of headers = concat (map header_line (map escaped_header headers))

-- what a controller may command: all that there is, or its channel alone
abbrev pub control_of : Bool → Text
control_of full = if full then codes "full" else codes "single-channel"

-- the mode of the connection, and what its controller may command
abbrev pub mode_headers : Target → Pairs
mode_headers target = (codes "Socket-Mode", codes "async") ∷ (codes "Control", control_of target.full) ∷ []

-- the reply to `connect`
unfoldable pub greeting_of : Chan → Target → Text
greeting_of c target = reply (codes "+OK") (map escaped_header (headers_of c) ++ mode_headers target)
