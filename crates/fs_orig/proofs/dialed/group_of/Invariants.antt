use Rattle.std.proofs.Common.{◌≡◌, map, take}
use Rattle.fs_dial.specs.Legs.{leg_of}
use Rattle.fs_orig.specs.Plans.{leg_behind}
use Rattle.fs_orig.proofs.dialed.group_of.Given as goal

abbrev pub invariant-loop-leg : goal.invariant-loop-leg
invariant-loop-leg l = l.plans ≡ map (leg_behind l.braces) (map leg_of (take l.leg-index l.leg-items))
