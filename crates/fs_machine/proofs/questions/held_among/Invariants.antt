use Rattle.std.proofs.Common.{◌≡◌, ◌≤◌, take, is_some, count_by}
use Rattle.fs_machine.proofs.questions.held_among.Given as goal

abbrev pub invariant-loop-slot : goal.invariant-loop-slot
invariant-loop-slot l = (l.count ≡ count_by is_some (take l.slot l.core.switch.channels)) × (l.count ≤ l.slot)
