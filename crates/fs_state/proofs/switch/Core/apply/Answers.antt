use Rattle.std.proofs.Common.{◌≡◌, ◌+◌, ◌-◌, ◌^◌, ◌≤◌, min, length, sym, ap, subst, ◌∙◌, arith}
use Rattle.fs_event.specs.Rings.{AreBelow}
use Rattle.fs_state.specs.declared.delta.Delta.{Delta}
use Rattle.fs_state.specs.Counts.{Tallies}
use Rattle.fs_state.specs.Drafts.{rest_of}
use Rattle.fs_state.specs.Switch.{Kept, Switch}
use Rattle.fs_state.proofs.CountLemmas.{all_least}
use Rattle.fs_state.proofs.HeldLemmas.{below_less}
use Rattle.fs_state.proofs.switch.Core.apply.Goals as goal

pub invariant_of-self : goal.invariant_of-self
invariant_of-self c =
    let delta = c.args.delta in
    let counts = c.self.inside.counts in
    let counted = c.count_all.new.self in
    let left : c.deref_mut-2.result.now ≡ rest_of delta =
    c.deref_mut-2.ensures.value ∙ c.take.ensures.left ∙ ap rest_of c.deref_mut.ensures.value in
    let same : counts ≡ c.args.self.now.switch.counts =
    ap (λ (k : Kept). k.switch.counts) c.self.view_is ∙ ap (λ (s : Switch). s.counts) c.take.ensures.core in
    let news : c.as_slice.result.now ≡ delta.news =
    c.as_slice.ensures ∙ ap (λ (d : Delta). d.news) (c.deref.ensures ∙ c.deliver.ensures.left) ∙ ap (λ (d : Delta). d.news) left in
    let least : min (counts.all + length delta.news) (2 ^ 64 - 1) ≤ counted.all =
    omega (arith, all_least c.as_slice.result.now counts, ap (λ (t : Tallies). t.all) c.count_all.ensures.counted, ap length news) in
    let events : AreBelow (counted.all + 1) delta.posted.events =
    below_less (min (c.args.self.now.switch.counts.all + length delta.news) (2 ^ 64 - 1) + 1) (counted.all + 1) delta.posted.events
    (omega (arith, least, ap (λ (t : Tallies). t.all) same)) c.requires.fits.numbers.within in
    let pairs : AreBelow (counted.all + 1) c.self.inside.outboxes.ring.pairs =
    below_less (counts.all + 1) (counted.all + 1) c.self.inside.outboxes.ring.pairs (omega (arith, c.count_all.ensures.more)) c.self.invariant.2 in (
      c.self.invariant.0,
      c.self.invariant.1,
      c.deliver.ensures.below (counted.all + 1) pairs (subst (λ (d : Delta). AreBelow (counted.all + 1) d.posted.events) (sym left) events),
    )
