use Rattle.std.proofs.Common.{◌≡◌, ◌≤◌, length}
use Rattle.fs_doc.specs.Reading.{declaration_end}
use Rattle.fs_doc.proofs.document.declaration_end.Given as goal

abbrev pub invariant-loop-left : goal.invariant-loop-left
invariant-loop-left l =
    record { same : declaration_end l.end l.left ≡ declaration_end l.end l.text; within : length l.left ≤ length l.text }

abbrev pub decreases-loop-left : goal.decreases-loop-left
decreases-loop-left l = length l.left
