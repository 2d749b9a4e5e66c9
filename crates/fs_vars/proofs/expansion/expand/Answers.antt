use Rattle.std.proofs.lemmas.Result.{MatchResult-weaker}
use Rattle.fs_vars.proofs.OutputLemmas.{expands_all}
use Rattle.fs_vars.proofs.expansion.expand.Goals as goal

pub returns-clause-text : goal.returns-clause-text
returns-clause-text c =
    let all =
    expands_all _ c.args.text.now c.loop-piece.piece-iterator c.loop-piece.output c.loop-piece.invariant c.in-None.ensures.steps in
    MatchResult-weaker c.into_text.result c.into_text.ensures.ok (λ t h. (h _ all).0) (λ e h. h)

pub returns-clause-refused : goal.returns-clause-refused
returns-clause-refused c =
    let all =
    expands_all _ c.args.text.now c.loop-piece.piece-iterator c.loop-piece.output c.loop-piece.invariant c.in-None.ensures.steps in
    MatchResult-weaker c.into_text.result c.into_text.ensures.err (λ t h. h) (λ e h. h _ all)
