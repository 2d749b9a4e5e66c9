use Rattle.std.proofs.Common.{◌∙◌, ap}
use Rattle.fs_vars.specs.Pairs.{value_of}
use Rattle.fs_vars.proofs.PairsLemmas.{value_of-pairs_of, AreDistinct-pairs_of}
use Rattle.fs_vars.proofs.table.Table.get.Goals as goal

pub returns-clause-value : goal.returns-clause-value
returns-clause-value c =
    c.get.ensures.value ∙ value_of-pairs_of c.args.name.now c.self.inside.entries.entries
    ∙ ap (λ pairs. value_of pairs c.args.name.now) c.self.view_is

pub returns-clause-distinct : goal.returns-clause-distinct
returns-clause-distinct c = rw (← c.self.view_is) (AreDistinct-pairs_of c.self.inside.entries.entries c.self.invariant)
