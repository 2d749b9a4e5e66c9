use Rattle.fs_machine.proofs.FramesLaws.{handed_first, handed_open, handed_sent}
use Rattle.fs_machine.proofs.laws.hands_out_what_it_gives.Goals as goal

pub returns-clause-first : goal.returns-clause-first
returns-clause-first c = handed_first

pub returns-clause-waiting : goal.returns-clause-waiting
returns-clause-waiting c = handed_open

pub returns-clause-sent : goal.returns-clause-sent
returns-clause-sent c = handed_sent
