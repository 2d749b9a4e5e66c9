use Rattle.std.proofs.Common.{◌+◌, drop, ap, ◌∙◌}
use Rattle.std.specs.Str.{bytes_eq}
use Rattle.indexmap.specs.IndexSet.{insert_key}
use Rattle.fs_filter.specs.Asked.{texts}
use Rattle.fs_filter.specs.Subscriptions.{with_texts}
use Rattle.fs_filter.proofs.SubscriptionLemmas.{with_next}
use Rattle.fs_filter.proofs.subclasses.with_texts.Goals as goal

pub loop-text-preserved : goal.loop-text-preserved
loop-text-preserved c =
    let left = texts (drop (c.loop-text.text-index + 1) c.args.others.now) in
    ap (λ known. with_texts known left) c.in_ok-all.ensures
    ∙ ap (λ text. with_texts (insert_key bytes_eq c.loop-text.all text) left) c.in_ok-of.ensures
    ∙ with_next c.loop-text.all _ c.args.others.now _ _ c.loop-text-test.true c.loop-text.invariant
