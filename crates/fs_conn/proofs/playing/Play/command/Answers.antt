use Rattle.std.proofs.Common.{Ok, Err, refl}
use Rattle.std.proofs.lemmas.Result.{err_from_is_err_and}
use Rattle.fs_conn.proofs.StepLemmas.{does_with}
use Rattle.fs_conn.proofs.NoteLemmas.{loads_adds, adds_none}
use Rattle.fs_machine.specs.declared.entry.Act.TheVariants.{Command}
use Rattle.fs_conn.specs.Playing.{seen}
use Rattle.fs_conn.proofs.StepLemmas.{never_rejects}
use Rattle.fs_conn.proofs.playing.Play.command.Goals as goal

pub unreachable-requires : goal.unreachable-requires
unreachable-requires g c =
    let rejects = rw c.in-None.is at c.in_ok-enter.ensures.enters in
    never_rejects (seen c.args.self.now) _ _ c.requires.reads c.requires.owed rejects

pub returns-in_err-enter-clause-does : goal.returns-in_err-enter-clause-does
returns-in_err-enter-clause-does g c =
    let p = err_from_is_err_and c.from_residual-in_err-enter.result c.from_residual-in_err-enter.ensures.1 in
    λ notes are. rw (p.1, p.2, ← c.in_ok-block.ensures)
    (does_with notes (Command 1 c.in_ok-block.block) (seen c.args.self.now) (seen c.enter.new.self) (Err c.in_err-enter.field-0.0) c.in_err-enter.ensures.enters)

pub returns-in_err-enter-clause-loads : goal.returns-in_err-enter-clause-loads
returns-in_err-enter-clause-loads g c = loads_adds (seen c.args.self.now) (seen c.enter.new.self) _ c.enter.ensures.adds

pub returns-clause-does : goal.returns-clause-does
returns-clause-does g c = λ notes are. rw (← c.in_ok-block.ensures)
    (does_with notes (Command 1 c.in_ok-block.block) (seen c.args.self.now) (seen c.enter.new.self) (Ok c.in_ok-enter.field-0)
    c.in_ok-enter.ensures.enters)

pub returns-in_err-block-clause-loads : goal.returns-in_err-block-clause-loads
returns-in_err-block-clause-loads g c = loads_adds (seen c.args.self.now) (seen c.args.self.now) _ (adds_none _ _ refl)
