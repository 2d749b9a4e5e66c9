use Rattle.std.proofs.Common.{◌≡◌, map, take}
use Rattle.fs_machine.proofs.hangups.all_for.Given as goal

abbrev pub invariant-loop-slot : goal.invariant-loop-slot
invariant-loop-slot l = l.named.items ≡ map (λ slot. (slot, l.cause)) (take l.slot-index l.slots)
