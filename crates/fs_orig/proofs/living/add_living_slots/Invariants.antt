use Rattle.std.proofs.Common.{◌≡◌, ◌++◌, drop}
use Rattle.fs_orig.specs.Legs.{living_slots}
use Rattle.fs_orig.proofs.living.add_living_slots.Given as goal

abbrev pub invariant-loop-leg : goal.invariant-loop-leg
invariant-loop-leg l = l.slots.items ++ living_slots (drop l.leg-index l.legs) ≡ l.fn.slots.items ++ living_slots l.legs
