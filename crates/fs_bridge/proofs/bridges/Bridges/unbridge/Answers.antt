use Rattle.std.proofs.Common.{subst, sym}
use Rattle.fs_bridge.specs.Bridges.{BridgeRows}
use Rattle.fs_bridge.specs.Laws.{IsSound}
use Rattle.fs_bridge.proofs.RowLemmas.{unbridged_sound}
use Rattle.fs_bridge.proofs.bridges.Bridges.unbridge.Goals as goal

pub invariant_of-self : goal.invariant_of-self
invariant_of-self c =
    let old : BridgeRows = record { rows = c.self.inside.rows.items; drawn = c.self.inside.drawn } in
    subst (λ rows. IsSound (record { rows = rows; drawn = old.drawn })) (sym c.keep_others.ensures)
    (unbridged_sound c.args.number old c.self.invariant)
