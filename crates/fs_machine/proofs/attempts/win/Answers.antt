use Rattle.std.proofs.Common.{sym, subst}
use Rattle.fs_state.specs.Drafts.{drafted, Brings}
use Rattle.fs_machine.specs.Attempts.{won_for}
use Rattle.fs_machine.specs.declared.attempts.Party.{Party}
use Rattle.fs_machine.proofs.attempts.win.Goals as goal

pub returns-in-Job : goal.returns-in-Job
returns-in-Job c =
    let won : Party → Type 0 = λ party. Brings c.win_by_job.result c.args.draft.now c.win_by_job.new.draft
    (won_for party c.args.attempt.now.orig c.args.leg.now (drafted c.args.draft.now)) in
    subst won (sym c.in-Job.is) c.win_by_job.ensures
