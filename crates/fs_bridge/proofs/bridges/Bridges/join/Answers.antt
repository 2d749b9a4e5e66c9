use Rattle.std.proofs.Common.{◌≡◌, ◌+◌, subst, rules}
use Rattle.fs_bridge.specs.Bridges.{BridgeRows, joined}
use Rattle.fs_bridge.specs.Laws.{IsSound}
use Rattle.fs_bridge.proofs.RowLemmas.{joined_sound}
use Rattle.fs_bridge.proofs.bridges.Bridges.join.Goals as goal

pub invariant_of-self-2 : goal.invariant_of-self-2
invariant_of-self-2 c =
    let old : BridgeRows = record { rows = c.self.inside.rows.items; drawn = c.self.inside.drawn } in
    let sound : IsSound (joined c.args.caller c.args.answerer c.args.kind old) =
    joined_sound c.args.caller c.args.answerer c.args.kind old c.requires.apart (search rules) (search rules) c.self.invariant in
    let same : joined c.args.caller c.args.answerer c.args.kind old
    ≡ record { rows = c.push.new.self.items; drawn = old.drawn + 1 } = search rules in
    subst IsSound same sound
