use Rattle.std.proofs.Common.{◌-◌, length}
use Rattle.fs_frame.specs.Front.{IsScanned}
use Rattle.fs_frame.proofs.front.search.Given as goal

abbrev pub invariant-loop-line : goal.invariant-loop-line
invariant-loop-line l = IsScanned l.bytes l.scan

abbrev pub decreases-loop-line : goal.decreases-loop-line
decreases-loop-line l = length l.bytes - l.scan.passed
