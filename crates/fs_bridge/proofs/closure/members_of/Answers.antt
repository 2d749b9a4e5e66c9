use Rattle.std.proofs.Common.{◌≡◌, ◌-◌, length, sym, ◌∙◌, arith, vec_len}
use Rattle.std.proofs.lemmas.Bool.{eqb-true}
use Rattle.fs_bridge.proofs.RoundLemmas.{none_left}
use Rattle.fs_bridge.proofs.closure.members_of.Goals as goal

pub returns-then-is_empty : goal.returns-then-is_empty
returns-then-is_empty g c =
    let w = g.L.Lines.world c.args.world.now in
    let empty : length c.loop-more.round.items ≡ 0 =
    omega (arith, eqb-true (vec_len c.loop-more.round) 0 (sym c.if-is_empty.ensures), c.loop-more.round.ok.0) in
    sym (none_left w (w.slots - c.loop-more._more) c.loop-more.members.items c.loop-more.round.items empty) ∙ c.loop-more.invariant
