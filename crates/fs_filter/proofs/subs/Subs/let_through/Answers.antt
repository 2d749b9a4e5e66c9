use Rattle.std.proofs.Common.{◌≡◌, drop, [], ap, sym, ◌∙◌, arith}
use Rattle.std.proofs.Math.ListN.{drop_of_length-le}
use Rattle.fs_text.specs.Headers.{taking}
use Rattle.fs_filter.specs.Subscriptions.{sifted}
use Rattle.fs_filter.proofs.SieveLemmas.{sifted_lets}
use Rattle.fs_filter.proofs.subs.Subs.let_through.Goals as goal

pub returns : goal.returns
returns c =
    let items = c.pairs-name-items.result.now in
    let none : drop c.loop-name.name-index items ≡ [] = drop_of_length-le items {i = c.loop-name.name-index} (omega (arith, c.loop-name-test.false)) in
    c.passes.ensures
    ∙ ap (λ sieve. sieve.passed) (sym (ap (λ left. taking sifted left c.loop-name.sieve) none) ∙ c.loop-name.invariant)
    ∙ sifted_lets c.args.headers.now c.args.self.now.filters
