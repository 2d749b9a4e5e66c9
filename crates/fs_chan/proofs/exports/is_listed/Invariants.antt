use Rattle.std.proofs.Common.{◌≡◌, length}
use Rattle.fs_chan.specs.Exports.{is_listed}
use Rattle.fs_chan.proofs.exports.is_listed.Given as goal

-- the name stands in the list where it stands in what is left
abbrev pub invariant-names : goal.invariant-names
invariant-names l = is_listed l.name l.left ≡ is_listed l.name l.list

abbrev pub decreases-names : goal.decreases-names
decreases-names l = length l.left
