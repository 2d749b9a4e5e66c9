use Rattle.std.proofs.Common.{◌≡◌, ◌≤◌, length}
use Rattle.fs_xml.specs.Markup.{comment_end}
use Rattle.fs_xml.proofs.markup.comment_end.Given as goal

abbrev pub invariant-loop-left : goal.invariant-loop-left
invariant-loop-left l = record { same : comment_end l.left ≡ comment_end l.text; within : length l.left ≤ length l.text }

abbrev pub decreases-loop-left : goal.decreases-loop-left
decreases-loop-left l = length l.left
