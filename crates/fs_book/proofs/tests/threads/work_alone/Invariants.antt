use Rattle.std.proofs.Common.{◌≡◌}
use Rattle.fs_book.specs.Passes.{parts, IsPassOf}
use Rattle.fs_book.proofs.tests.threads.work_alone.Given as goal

abbrev pub invariant-loop-entry : goal.invariant-loop-entry
invariant-loop-entry g l = IsPassOf (λ _. tt) l.fn.book l.pass × (parts l.pass ≡ parts l.fn.pass)
