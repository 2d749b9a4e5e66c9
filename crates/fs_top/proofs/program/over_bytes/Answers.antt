use Rattle.fs_top.specs.Reading.{asked_seen}
use Rattle.fs_top.proofs.RunLaws.{over_read, over_answer}
use Rattle.fs_top.proofs.program.over_bytes.Goals as goal

pub returns-in-Ok : goal.returns-in-Ok
returns-in-Ok g c =
    over_read (asked_seen c.args.asked) c.args.bytes.now c.in-Ok.config _ _ _ _ _ _ _ c.in-Ok.ensures c.over_config.ensures

pub returns-in-Err : goal.returns-in-Err
returns-in-Err g c =
    rw c.not_read.ensures (over_answer (asked_seen c.args.asked) c.args.bytes.now c.in-Err.fault _ _ _ c.in-Err.ensures)
