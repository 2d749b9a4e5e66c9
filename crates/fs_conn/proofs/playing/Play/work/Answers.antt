use Rattle.std.proofs.Common.{Ok, Err}
use Rattle.std.proofs.lemmas.Result.{err_from_is_err_and}
use Rattle.fs_conn.specs.Playing.{seen, so_far}
use Rattle.fs_conn.proofs.StepLemmas.{does_with, enters_unwritten, works_enters}
use Rattle.fs_conn.proofs.NoteLemmas.{loads_adds}
use Rattle.fs_conn.proofs.playing.Play.work.Goals as goal

pub returns-in_err-enter-clause-does : goal.returns-in_err-enter-clause-does
returns-in_err-enter-clause-does g c =
    let p = err_from_is_err_and c.from_residual.result c.from_residual.ensures.1 in
    λ notes are. rw (p.1, p.2)
    (does_with notes c.args.act (seen c.args.self.now) (seen c.enter.new.self) (Err c.in_err-enter.field-0.0) c.in_err-enter.ensures.enters)

pub returns-in_err-enter-clause-works : goal.returns-in_err-enter-clause-works
returns-in_err-enter-clause-works g c =
    works_enters c.args.act (so_far (seen c.args.self.now)) (so_far (seen c.enter.new.self)) c.enter.result c.requires.silent
    c.enter.ensures.enters

pub returns-in_err-enter-clause-unwritten : goal.returns-in_err-enter-clause-unwritten
returns-in_err-enter-clause-unwritten g c =
    let p = err_from_is_err_and c.from_residual.result c.from_residual.ensures.1 in
    rw (p.1, p.2)
    (enters_unwritten c.args.act (so_far (seen c.args.self.now)) (so_far (seen c.enter.new.self)) c.in_err-enter.field-0.0
    c.in_err-enter.ensures.enters)

pub returns-in_err-enter-clause-loads : goal.returns-in_err-enter-clause-loads
returns-in_err-enter-clause-loads g c = loads_adds (seen c.args.self.now) (seen c.enter.new.self) _ c.enter.ensures.adds

pub returns-clause-does : goal.returns-clause-does
returns-clause-does g c = λ notes are.
    does_with notes c.args.act (seen c.args.self.now) (seen c.enter.new.self) (Ok c.in_ok-enter.field-0) c.in_ok-enter.ensures.enters

pub returns-clause-works : goal.returns-clause-works
returns-clause-works g c =
    works_enters c.args.act (so_far (seen c.args.self.now)) (so_far (seen c.enter.new.self)) c.enter.result c.requires.silent
    c.enter.ensures.enters
