use Rattle.std.proofs.Common.{◌≡◌, take}
use Rattle.fs_orig.proofs.leg.OrigLegs.copy.Given as goal

abbrev pub invariant-loop-leg : goal.invariant-loop-leg
invariant-loop-leg l = l.legs ≡ take l.leg-index l.leg-items
