use Rattle.std.proofs.Common.{Ok, Err}
use Rattle.std.proofs.lemmas.Result.{err_from_is_err_and}
use Rattle.fs_conn.proofs.StepLemmas.{does_with}
use Rattle.fs_conn.proofs.NoteLemmas.{loads_adds}
use Rattle.fs_machine.specs.declared.entry.Act.TheVariants.{Arrive}
use Rattle.fs_conn.specs.Playing.{seen, so_far}
use Rattle.fs_conn.proofs.HereLemmas.{never_turned_away, here_arrived}
use Rattle.fs_conn.proofs.playing.Play.arrive.Goals as goal

pub unreachable-requires : goal.unreachable-requires
unreachable-requires g c =
    let rejects = rw c.in-None.is at c.in_ok-enter.ensures.enters in
    never_turned_away (seen c.args.self.now) _ c.requires.begun c.sound.ensures.config rejects

pub returns-clause-here : goal.returns-clause-here
returns-clause-here g c =
    let accepts = rw c.in-Some.is at c.in_ok-enter.ensures.enters in
    here_arrived (seen c.args.self.now) (so_far (seen c.enter.new.self)) _ c.requires.begun c.sound.ensures.config accepts

pub returns-in_err-enter-clause-does : goal.returns-in_err-enter-clause-does
returns-in_err-enter-clause-does g c =
    let p = err_from_is_err_and c.from_residual.result c.from_residual.ensures.1 in
    λ notes are. rw (p.1, p.2)
    (does_with notes Arrive (seen c.args.self.now) (seen c.enter.new.self) (Err c.in_err-enter.field-0.0) c.in_err-enter.ensures.enters)

pub returns-in_err-enter-clause-loads : goal.returns-in_err-enter-clause-loads
returns-in_err-enter-clause-loads g c = loads_adds (seen c.args.self.now) (seen c.enter.new.self) _ c.enter.ensures.adds

pub returns-clause-does : goal.returns-clause-does
returns-clause-does g c = λ notes are.
    does_with notes Arrive (seen c.args.self.now) (seen c.enter.new.self) (Ok c.in_ok-enter.field-0) c.in_ok-enter.ensures.enters
