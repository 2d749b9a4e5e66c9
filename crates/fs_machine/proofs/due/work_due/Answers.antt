use Rattle.std.proofs.Common.{◌≡◌, sym, subst}
use Rattle.fs_state.specs.declared.job.JobWork.{JobWork}
use Rattle.fs_machine.specs.Due as spec
use Rattle.fs_machine.proofs.due.work_due.Goals as goal

pub returns-in-Originate : goal.returns-in-Originate
returns-in-Originate c =
    let P : JobWork → Type 0 = λ work. c.orig_due.result ≡ spec.work_due c.args.seen.now work in
    subst P (sym c.in-Originate.is) c.orig_due.ensures
