use Rattle.std.proofs.Common.{◌≡◌, length}
use Rattle.fs_doc.specs.Attributes.{has_variable}
use Rattle.fs_doc.proofs.attributes.has_variable.Given as goal

abbrev pub invariant-loop-left : goal.invariant-loop-left
invariant-loop-left l = has_variable l.left ≡ has_variable l.text

abbrev pub decreases-loop-left : goal.decreases-loop-left
decreases-loop-left l = length l.left
