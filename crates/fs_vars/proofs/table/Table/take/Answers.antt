use Rattle.std.proofs.Common.{◌∙◌, ap}
use Rattle.fs_vars.specs.Pairs.{pairs_of}
use Rattle.fs_vars.proofs.PairsLemmas.{without-pairs_of}
use Rattle.fs_vars.proofs.table.Table.take.Goals as goal

pub returns : goal.returns
returns c =
    let rest = without-pairs_of c.args.name.now c.self.inside.entries.entries c.self.invariant in
    rw (← c.self.view_is) (ap pairs_of c.shift_remove.ensures.entries ∙ rest)
