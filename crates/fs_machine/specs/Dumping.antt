-- All that is told of a channel.
use Rattle.std.specs.Prelude.{◌++◌, map, Option, None, Some}
use Rattle.std.specs.List.{concat}
use Rattle.fs_text.specs.Texts.{Text}
use Rattle.fs_vars.specs.Pairs.{Pairs}
use Rattle.fs_event.specs.Texts.{line_with_value}
use Rattle.fs_chan.specs.declared.chan.Chan.{Chan}
use Rattle.fs_chan.specs.Headers.{channel_headers}
use Rattle.fs_state.specs.Posting.{variable_headers}
use Rattle.fs_machine.specs.Texts.{no_channel}

-- a line for each header that has a value, with the value escaped
abbrev pub lines_of : Pairs → Text
lines_of headers = concat (map line_with_value headers)

-- the lines of the headers of a channel, and behind them those of its variables
abbrev pub dump_of : Chan → Text
dump_of c = lines_of (channel_headers c ++ variable_headers c.vars)

-- so of a channel that was asked for
abbrev pub dump_text : Option Chan → Text
dump_text None = no_channel
dump_text (Some c) = dump_of c
