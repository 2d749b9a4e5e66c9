use Rattle.fs_top.specs.Told.{runaway_line}
use Rattle.fs_top.proofs.lines.say_runaway.Goals as goal

pub returns : goal.returns
unfolding runaway_line
returns g c = rw (c.as_bytes.ensures.value, c.format.ensures.text) at c.send_parts.ensures
