use Rattle.fs_top.specs.Told.{fault_line}
use Rattle.fs_top.proofs.lines.say_fault.Goals as goal

pub returns : goal.returns
unfolding fault_line
returns g c = rw (c.as_bytes-at.ensures.value, c.format.ensures.text, c.as_bytes-name.ensures.value, c.name.ensures) at c.send_parts.ensures
