use Rattle.std.proofs.Common.{length}
use Rattle.fs_replay.specs.Faults.{IsFront}
use Rattle.fs_replay.proofs.reading.read_entries.Given as goal

abbrev pub invariant-loop-alloc : goal.invariant-loop-alloc
invariant-loop-alloc l = IsFront l.bytes l.journal.entries l.reader

abbrev pub decreases-loop-alloc : goal.decreases-loop-alloc
decreases-loop-alloc l = length l.reader
