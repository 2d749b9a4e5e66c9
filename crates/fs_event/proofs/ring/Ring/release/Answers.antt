use Rattle.std.proofs.Common.{◌<◌, ap, subst, sym, ◌∙◌, arith, length, All}
use Rattle.fs_event.specs.Places.{pairs_of, one_if}
use Rattle.fs_event.proofs.ReleaseLemmas.{read_left}
use Rattle.fs_event.proofs.ring.Ring.release.Goals as goal

pub invariant_of-self : goal.invariant_of-self
invariant_of-self g c =
    let left = read_left c.args.number (pairs_of c.self.inside.places.items) c.self.invariant.read in
    let pairs = c.give_up.ensures.kept.pairs ∙ c.read_once.ensures.pairs in
    let count = c.read_once.ensures.count ∙ sym c.self.invariant.count in
    let one = ap one_if c.if-read_once.true in
    let len = ap length c.give_up.ensures.kept.pairs in
    record {
      order = c.give_up.ensures.kept.order;
      count = omega (arith, count, one, len);
      slots = c.give_up.ensures.within;
      read = subst (All (λ pair. 0 < pair.readers)) (sym pairs) left;
    }

pub invariant_of-self-else-read_once : goal.invariant_of-self-else-read_once
invariant_of-self-else-read_once g c =
    let left = read_left c.args.number (pairs_of c.self.inside.places.items) c.self.invariant.read in
    let count = c.read_once.ensures.count ∙ sym c.self.invariant.count in
    let one = ap one_if c.if-read_once.false in
    record {
      order = c.read_once.ensures.order;
      count = omega (arith, count, one);
      slots = omega (arith, c.read_once.ensures.slots, c.self.invariant.slots);
      read = subst (All (λ pair. 0 < pair.readers)) (sym c.read_once.ensures.pairs) left;
    }
