use Rattle.std.proofs.Common.{◌≡◌, ◌++◌, map, take}
use Rattle.fs_bridge.specs.Closure.{cancelled}
use Rattle.fs_state.proofs.leaving.cancel.Given as goal

abbrev pub invariant-loop-leg : goal.invariant-loop-leg
invariant-loop-leg l = l.dropped.items ≡ l.initial.dropped.items ++ map cancelled (take l.leg-index l.legs)
