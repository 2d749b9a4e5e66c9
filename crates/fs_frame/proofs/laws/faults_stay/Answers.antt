use Rattle.fs_frame.proofs.CallLaws.{AlwaysAnswered-calls}
use Rattle.fs_frame.proofs.laws.faults_stay.Goals as goal

pub returns : goal.returns
returns c calls further fault answered = AlwaysAnswered-calls calls further fault answered
