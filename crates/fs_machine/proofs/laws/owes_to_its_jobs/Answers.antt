use Rattle.fs_machine.proofs.OwedLaws.{run_is_owed, run_goes_on}
use Rattle.fs_machine.proofs.laws.owes_to_its_jobs.Goals as goal

pub returns-clause-owed : goal.returns-clause-owed
returns-clause-owed c = run_is_owed

pub returns-clause-goes_on : goal.returns-clause-goes_on
returns-clause-goes_on c = run_goes_on
