use Rattle.fs_frame.proofs.CallLaws.{ComeFirst-calls, Follows-calls}
use Rattle.fs_frame.proofs.laws.however_cut.Goals as goal

pub returns-clause-blocks : goal.returns-clause-blocks
returns-clause-blocks c calls answered = ComeFirst-calls calls answered

pub returns-clause-answer : goal.returns-clause-answer
returns-clause-answer c calls next answered = Follows-calls calls next answered
