use Rattle.std.proofs.Common.{◌≡◌, ◌≤◌, length}
use Rattle.fs_xml.specs.Bytes.{is_name_byte, past}
use Rattle.fs_xml.proofs.bytes.past_name.Given as goal

abbrev pub invariant-loop-left : goal.invariant-loop-left
invariant-loop-left l = record { same : past is_name_byte l.left ≡ past is_name_byte l.text; within : length l.left ≤ length l.text }

abbrev pub decreases-loop-left : goal.decreases-loop-left
decreases-loop-left l = length l.left
