use Rattle.std.proofs.Common.{◌≡◌, ◌++◌, filter_map, take}
use Rattle.fs_bridge.specs.Closure.{hung}
use Rattle.fs_bridge.proofs.leaving.first_round.Given as goal

abbrev pub invariant-loop-other : goal.invariant-loop-other
invariant-loop-other l = l.round.items ≡ l.first ++ filter_map hung (take l.other-index l.others)
