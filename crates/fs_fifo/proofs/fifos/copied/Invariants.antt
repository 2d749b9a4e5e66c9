use Rattle.std.proofs.Common.{◌≡◌, take}
use Rattle.fs_fifo.proofs.fifos.copied.Given as goal

abbrev pub invariant-loop-caller : goal.invariant-loop-caller
invariant-loop-caller l = l.all.items ≡ take l.caller-index l.callers
