use Rattle.std.proofs.Common.{rules, not}
use Rattle.std.proofs.lemmas.Fn.{filter_same}
use Rattle.fs_bridge.specs.Bridges.{has_number}
use Rattle.fs_bridge.proofs.bridges.keep_others.Goals as goal

pub returns : goal.returns
returns c =
    filter_same _ (λ row. not (has_number c.args.number row)) _ (λ x b f k. search rules) _ _ c.retain.ensures.filtered
