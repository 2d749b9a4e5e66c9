use Rattle.std.proofs.Common.{sym, subst}
use Rattle.fs_state.specs.Drafts.{drafted, Brings}
use Rattle.fs_machine.specs.Attempts.{failed_for}
use Rattle.fs_machine.specs.declared.attempts.Party.{Party}
use Rattle.fs_machine.proofs.attempts.fail.Goals as goal

pub returns-in-Job : goal.returns-in-Job
returns-in-Job c =
    let failed : Party → Type 0 = λ party. Brings c.fail_by_job.result c.args.draft.now c.fail_by_job.new.draft
    (failed_for party c.args.attempt.now.orig c.args.cause (drafted c.args.draft.now)) in
    subst failed (sym c.in-Job.is) c.fail_by_job.ensures
