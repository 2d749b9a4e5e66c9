use Rattle.std.proofs.Common.{arith}
use Rattle.fs_event.proofs.RingLemmas.{less_at, greater_at}
use Rattle.fs_event.proofs.ring.place_of.Goals as goal

pub loop-low-preserved-then-found-number-2 : goal.loop-low-preserved-then-found-number-2
loop-low-preserved-then-found-number-2 g c = record {
  within = c.loop-low.invariant.within;
  less = less_at c.args.places.now.items _ c.number_at-found.result c.args.number c.requires c.number_at-found.ensures c.if-found-number-2.true;
  greater = c.loop-low.invariant.greater;
}

pub loop-low-preserved : goal.loop-low-preserved
loop-low-preserved g c = record {
  within = omega (arith, c.loop-low.invariant.within);
  less = c.loop-low.invariant.less;
  greater =
      greater_at c.args.places.now.items _ c.number_at-found.result c.args.number c.requires c.number_at-found.ensures
      (omega (arith, c.if-found-number.false, c.if-found-number-2.false));
}
