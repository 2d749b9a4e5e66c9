use Rattle.std.proofs.Common.{rules, ◌∙◌}
use Rattle.std.proofs.lemmas.Iterator.{YieldsList-from_slice}
use Rattle.std.proofs.lemmas.Iterator.Search.{find_from_yields_List}
use Rattle.fs_bridge.specs.Bridges.{has_number}
use Rattle.fs_bridge.proofs.bridges.first_numbered.Goals as goal

pub returns : goal.returns
returns c =
    c.copied.ensures
    ∙ find_from_yields_List (has_number c.args.number) _ _ _ c.find.ensures.ran
    (YieldsList-from_slice c.args.rows.now cc) (λ x b q k. search rules)
