use Rattle.std.proofs.Common.{◌≡◌, true, ap, sym, ◌∙◌}
use Rattle.fs_filter.specs.Subscriptions.{sieve_of, Sieve}
use Rattle.fs_filter.proofs.SieveLemmas.{sifted_lets, passed_lets}
use Rattle.fs_state.specs.Drafts.{drafted}
use Rattle.fs_state.specs.Posting as spec
use Rattle.fs_state.proofs.draft.Draft.is_let_through.Goals as goal

pub returns-then-passes : goal.returns-then-passes
returns-then-passes c =
    let filters = c.args.subs.now.filters in
    let headers = spec.headers_of c.args.self.now.base (drafted c.args.self.now) c.args.number c.args.event.now in
    let passed : (sieve_of filters).passed ≡ true =
    sym (c.passes.ensures ∙ ap (λ (sieve : Sieve). sieve.passed) c.sieve-sieve.ensures) ∙ c.if-passes.true in
    sym (passed_lets headers filters passed)

pub returns : goal.returns
returns c =
    let filters = c.args.subs.now.filters in
    let headers = spec.headers_of c.args.self.now.base (drafted c.args.self.now) c.args.number c.args.event.now in
    c.passes-2.ensures
    ∙ ap (λ (sieve : Sieve). sieve.passed) (rw c.sieve-sieve.ensures at c.in_ok-tell_headers.ensures)
    ∙ sifted_lets headers filters
