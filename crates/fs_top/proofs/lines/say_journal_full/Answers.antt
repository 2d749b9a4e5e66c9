use Rattle.fs_top.specs.Told.{journal_full_line}
use Rattle.fs_top.proofs.lines.say_journal_full.Goals as goal

pub returns : goal.returns
unfolding journal_full_line
returns g c =
    rw (c.as_bytes-cost.ensures.value, c.format.ensures.text, c.as_bytes-limit.ensures.value, c.format-2.ensures.text) at
    c.send_parts.ensures
