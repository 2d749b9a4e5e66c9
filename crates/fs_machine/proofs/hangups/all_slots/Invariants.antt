use Rattle.std.proofs.Common.{◌≡◌}
use Rattle.std.specs.List.{range_with_len}
use Rattle.fs_machine.proofs.hangups.all_slots.Given as goal

-- the slots in front of the one in hand
abbrev pub invariant-loop-slot : goal.invariant-loop-slot
invariant-loop-slot l = l.all.items ≡ range_with_len 0 l.slot
