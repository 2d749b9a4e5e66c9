use Rattle.std.proofs.Common.{◌≡◌, ◌≤◌, length}
use Rattle.fs_xml.specs.Bytes.{is_blank, past}
use Rattle.fs_xml.proofs.bytes.past_blanks.Given as goal

abbrev pub invariant-loop-left : goal.invariant-loop-left
invariant-loop-left l = record { same : past is_blank l.left ≡ past is_blank l.text; within : length l.left ≤ length l.text }

abbrev pub decreases-loop-left : goal.decreases-loop-left
decreases-loop-left l = length l.left
