use Rattle.std.proofs.Common.{◌++◌, sym, ap, ◌∙◌}
use Rattle.percent_encoding.specs.Iter.{encoded_text}
use Rattle.fs_text.proofs.EscapeLemmas.{escape_of_kept, percent_encode-is-escape}
use Rattle.fs_text.proofs.escapes.push_escaped.Goals as goal

pub loop-piece-init : goal.loop-piece-init
loop-piece-init c =
    ap (λ escapes. c.args.text.now.items ++ escapes)
    (ap encoded_text c.into_iter-piece-iterator.ensures.into_iter_gives ∙ c.percent_encode-piece-items.ensures.text
    ∙ percent_encode-is-escape c.args.bytes.now)

pub returns-then-not-has_escaped : goal.returns-then-not-has_escaped
returns-then-not-has_escaped c =
    c.in_ok-extend_from_slice.ensures.items
    ∙ ap (λ kept. c.args.text.now.items ++ kept) (sym (escape_of_kept c.args.bytes.now (sym c.has_escaped.ensures ∙ c.if-not-has_escaped.true)))
