use Rattle.std.proofs.Common.{◌≡◌, ◌≤◌, None, length}
use Rattle.fs_xml.specs.Attributes.{tag_end}
use Rattle.fs_xml.proofs.attribute.tag_end.Given as goal

abbrev pub invariant-loop-left : goal.invariant-loop-left
invariant-loop-left l = record { same : tag_end l.quote l.left ≡ tag_end None l.text; within : length l.left ≤ length l.text }

abbrev pub decreases-loop-left : goal.decreases-loop-left
decreases-loop-left l = length l.left
