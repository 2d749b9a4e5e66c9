use Rattle.std.proofs.Common.{◌≡◌, ◌++◌, length, filter_map}
use Rattle.fs_chan.specs.Bridging.{exported_pair, exported_pairs}
use Rattle.fs_chan.specs.Exports.{names_of}
use Rattle.fs_chan.proofs.bridging.exported_pairs.Given as goal

-- the pairs so far and those of what is left are all of them
abbrev pub invariant-names : goal.invariant-names
invariant-names l = l.pairs ++ filter_map (exported_pair l.vars) (names_of l.left) ≡ exported_pairs l.vars

abbrev pub decreases-names : goal.decreases-names
decreases-names l = length l.left
