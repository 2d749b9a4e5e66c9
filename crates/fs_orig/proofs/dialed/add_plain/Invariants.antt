use Rattle.std.proofs.Common.{◌≡◌, ◌++◌, map, take}
use Rattle.fs_dial.specs.Pairs.{pair_of}
use Rattle.fs_orig.specs.Plans.{plain_pairs}
use Rattle.fs_orig.proofs.dialed.add_plain.Given as goal

abbrev pub invariant-loop-pair : goal.invariant-loop-pair
invariant-loop-pair l = l.pairs ≡ l.initial.pairs ++ plain_pairs (map pair_of (take l.pair-index l.pair-items))
