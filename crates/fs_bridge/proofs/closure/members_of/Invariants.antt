use Rattle.std.proofs.Common.{◌≡◌, ◌-◌}
use Rattle.fs_bridge.specs.Closure.{with_rounds, members_of}
use Rattle.fs_bridge.proofs.closure.members_of.Given as goal

abbrev pub invariant-loop-more : goal.invariant-loop-more
invariant-loop-more g l =
    with_rounds (g.L.Lines.world l.world) ((g.L.Lines.world l.world).slots - l._more) l.members.items l.round.items
    ≡ members_of (g.L.Lines.world l.world) l.named
