use Rattle.fs_top.specs.Told.{pattern_too_large_line}
use Rattle.fs_top.proofs.lines.say_too_large.Goals as goal

pub returns : goal.returns
unfolding pattern_too_large_line
returns g c =
    rw (c.as_bytes-extension.ensures.value, c.format.ensures.text, c.as_bytes-condition.ensures.value, c.format-2.ensures.text) at
    c.send_parts.ensures
