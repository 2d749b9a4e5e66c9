use Rattle.std.proofs.Common.{sym, ap, ◌∙◌}
use Rattle.fs_machine.specs.Due.{due_among_all}
use Rattle.fs_machine.specs.Runs.{state_of}
use Rattle.fs_machine.proofs.DueLemmas.{next_to_come}
use Rattle.fs_machine.proofs.machine.Machine.next_due.Goals as goal

pub returns-clause-to_come : goal.returns-clause-to_come
returns-clause-to_come c moment h =
    next_to_come c.args.now (state_of c.args.self.now) moment (ap due_among_all (sym c.seen_at.ensures) ∙ (sym c.due_among_all.ensures ∙ h))
