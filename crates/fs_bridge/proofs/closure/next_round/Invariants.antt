use Rattle.std.proofs.Common.{◌≡◌, take}
use Rattle.fs_bridge.specs.Closure.{round_after}
use Rattle.fs_bridge.proofs.closure.next_round.Given as goal

abbrev pub invariant-loop-member : goal.invariant-loop-member
invariant-loop-member g l = l.next.items ≡ round_after (g.L.Lines.world l.world) l.members (take l.member-index l.round)
