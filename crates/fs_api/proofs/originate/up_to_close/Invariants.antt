use Rattle.std.proofs.Common.{◌≡◌, length}
use Rattle.fs_api.specs.Originates.{before_close}
use Rattle.fs_api.proofs.originate.up_to_close.Given as goal

abbrev pub invariant-loop-left : goal.invariant-loop-left
invariant-loop-left l = before_close l.left ≡ before_close l.fn.text

abbrev pub decreases-loop-left : goal.decreases-loop-left
decreases-loop-left l = length l.left
