use Rattle.std.proofs.Common.{refl}
use Rattle.fs_replay.specs.Reading.{job_at}
use Rattle.fs_replay.proofs.reader.Reader.job.Goals as goal

pub returns-in_err-job : goal.returns-in_err-job
unfolding job_at
returns-in_err-job c = rw (c.from_residual.ensures, c.in_err-job.ensures) refl

pub returns : goal.returns
unfolding job_at
returns c = rw c.in_ok-job.ensures c.ended.ensures
