use Rattle.std.proofs.Common.{◌∙◌, ap, ◌++◌, ◌∷◌, []}
use Rattle.fs_lead.proofs.SharedLemmas.{one_begins, kept_alone}
use Rattle.fs_lead.proofs.shared.few.Goals as goal

pub returns : goal.returns
returns c =
    λ value h. kept_alone _ c.in_ok-text.text value
    (c.in_ok-push.ensures.items ∙ ap (λ kept. kept ++ c.in_ok-text.text ∷ []) c.new-kept.ensures.items)
    (rw c.in_ok-text.ensures.items (one_begins c.args.texts.items _ value (rw c.as_slice.ensures.value at c.shared.ensures) h))
