use Rattle.std.proofs.Common.{◌≡◌}
use Rattle.fs_book.specs.Passes.{parts, IsPassOf}
use Rattle.bench.proofs.by_book.alone.Given as goal

abbrev pub invariant-loop : goal.invariant-loop
invariant-loop g l = IsPassOf (λ _. tt) l.fn.book l.pass × (parts l.pass ≡ parts l.fn.pass)
