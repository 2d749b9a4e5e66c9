use Rattle.std.proofs.Common.{arith}
use Rattle.fs_replay.specs.Reading.{act_at}
use Rattle.fs_replay.proofs.Mirrors.{off, bad_given}
use Rattle.fs_replay.proofs.reader.Reader.act.Goals as goal

pub returns-in-67 : goal.returns-in-67
unfolding act_at
returns-in-67 c = rw c.in-67.is c.command.ensures

pub returns-in-76 : goal.returns-in-76
unfolding act_at
returns-in-76 c = rw c.in-76.is c.loaded.ensures

pub returns-in_default : goal.returns-in_default
unfolding act_at
returns-in_default c =
    rw (off c.args.letter 67 (omega arith), off c.args.letter 76 (omega arith))
    (bad_given c.plain.result c.ok_or.result _ _ c.plain.ensures c.ok_or.ensures.value)
