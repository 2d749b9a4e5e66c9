use Rattle.std.proofs.Common.{arith}
use Rattle.fs_replay.proofs.Mirrors.{plain_none}
use Rattle.fs_replay.specs.Reading.{plain_at}
use Rattle.fs_replay.proofs.reader.Reader.plain.Goals as goal

pub returns-in-65 : goal.returns-in-65
unfolding plain_at
returns-in-65 c = rw c.in-65.is c.ended.ensures

pub returns-in-72 : goal.returns-in-72
unfolding plain_at
returns-in-72 c = rw c.in-72.is c.ended-in-72.ensures

pub returns-in-84 : goal.returns-in-84
unfolding plain_at
returns-in-84 c = rw c.in-84.is c.take.ensures

pub returns-in-88 : goal.returns-in-88
unfolding plain_at
returns-in-88 c = rw c.in-88.is c.close.ensures

pub returns-in-68 : goal.returns-in-68
unfolding plain_at
returns-in-68 c = rw c.in-68.is c.dialed.ensures

pub returns-in-87 : goal.returns-in-87
unfolding plain_at
returns-in-87 c = rw c.in-87.is c.work.ensures

pub returns-in-74 : goal.returns-in-74
unfolding plain_at
returns-in-74 c = rw c.in-74.is c.job.ensures

pub returns-in_default : goal.returns-in_default
returns-in_default c =
    plain_none c.args.letter c.args.self.now (omega arith) (omega arith) (omega arith) (omega arith) (omega arith) (omega arith) (omega arith)
