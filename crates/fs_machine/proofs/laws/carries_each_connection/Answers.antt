use Rattle.fs_machine.proofs.QuietLemmas.{begins, carries, does}
use Rattle.fs_machine.proofs.laws.carries_each_connection.Goals as goal

pub returns-clause-begins : goal.returns-clause-begins
returns-clause-begins c = begins

pub returns-clause-carries : goal.returns-clause-carries
returns-clause-carries c = carries

pub returns-clause-does : goal.returns-clause-does
returns-clause-does c = does
