use Rattle.std.proofs.Common.{◌≡◌, ◌≤◌, length}
use Rattle.fs_xml.specs.Entities.{number_on}
use Rattle.fs_xml.proofs.entity.number_on.Given as goal

abbrev pub invariant-loop-left : goal.invariant-loop-left
invariant-loop-left l = record { same : number_on l.base l.number l.left ≡ number_on l.base 0 l.digits; small : l.number ≤ 1114112 }

abbrev pub decreases-loop-left : goal.decreases-loop-left
decreases-loop-left l = length l.left
