use Rattle.fs_lead.proofs.SharedLemmas.{more_begin}
use Rattle.fs_lead.proofs.shared.shared.Goals as goal

pub loop-text-preserved : goal.loop-text-preserved
loop-text-preserved c =
    more_begin _ _ c.text-item.result _ _ c.loop-text-test.true c.loop-text.invariant c.common-shared.ensures.first
    (rw (← c.text-item.is) (rw c.as_slice.ensures.value at c.common-shared.ensures.second))
