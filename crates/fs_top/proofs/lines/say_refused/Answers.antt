use Rattle.fs_top.specs.Told.{pattern_refused_line}
use Rattle.fs_top.proofs.lines.say_refused.Goals as goal

pub returns : goal.returns
unfolding pattern_refused_line
returns g c =
    rw (c.as_bytes-extension.ensures.value, c.format.ensures.text, c.as_bytes-condition.ensures.value, c.format-2.ensures.text) at
    c.send_parts.ensures
