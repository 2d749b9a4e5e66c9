use Rattle.std.proofs.Common.{◌<◌, ◌≤◌}
use Rattle.fs_ports.proofs.mem_link.piece_end.Given as goal

abbrev pub invariant-loop-cut : goal.invariant-loop-cut
invariant-loop-cut l = (l.at ≤ l.first) × (l.first ≤ l.end) × (l.at < l.end → l.at < l.first)
