use Rattle.std.proofs.Common.{◌≡◌, drop}
use Rattle.fs_text.specs.Headers.{taking}
use Rattle.fs_filter.specs.Subscriptions.{sieve_of, sifted}
use Rattle.fs_filter.proofs.subs.Subs.let_through.Given as goal

-- the headers that are left make of the filters what all make of them
abbrev pub invariant-loop-name : goal.invariant-loop-name
invariant-loop-name l =
    taking sifted (drop l.name-index l.name-items) l.sieve ≡ taking sifted l.fn.headers (sieve_of l.fn.self.filters)
