use Rattle.fs_fifo.proofs.StandingLemmas.{entered_stands, taken_stands_nowhere, left_stands_nowhere}
use Rattle.fs_fifo.proofs.laws.standing_law.Goals as goal

pub returns : goal.returns
returns c = record { entered = entered_stands; taken = taken_stands_nowhere; left = left_stands_nowhere }
