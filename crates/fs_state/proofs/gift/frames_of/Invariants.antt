use Rattle.std.proofs.Common.{◌≡◌, ◌-◌, ◌^◌, min, take}
use Rattle.fs_state.specs.Waiting.{waiting_given}
use Rattle.fs_state.proofs.gift.frames_of.Given as goal

abbrev pub invariant-loop-given : goal.invariant-loop-given
invariant-loop-given l = l.count ≡ min (waiting_given (take l.given-index l.all)) (2 ^ 64 - 1)
