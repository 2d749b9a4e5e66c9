use Rattle.std.proofs.Common.{◌-◌, length}
use Rattle.fs_frame.proofs.CommandLaws.{StandsAhead}
use Rattle.fs_frame.proofs.scan.find_command.Given as goal

abbrev pub invariant-loop-line : goal.invariant-loop-line
invariant-loop-line l = StandsAhead l.bytes l.start

abbrev pub decreases-loop-line : goal.decreases-loop-line
decreases-loop-line l = length l.bytes - l.start
