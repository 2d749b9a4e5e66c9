use Rattle.std.proofs.Common.{◌++◌, sym, ◌∙◌, ap, subst}
use Rattle.fs_vars.specs.Pairs.{pairs_of, AreDistinct}
use Rattle.fs_vars.proofs.PairsLemmas.{copied_more, AreDistinct-pairs_of}
use Rattle.fs_vars.proofs.table.Table.copy.Goals as goal

pub loop-name-preserved : goal.loop-name-preserved
loop-name-preserved c =
    let distinct = subst AreDistinct c.self.view_is (AreDistinct-pairs_of c.self.inside.entries.entries c.self.invariant) in
    let next = ap (λ left. c.loop-name.table ++ pairs_of left) (sym c.in-Some.ensures.steps) in
    let put = rw (c.deref.ensures.value, c.in_ok-copy.ensures) at c.in_ok-put.ensures.put in
    copied_more _ c.loop-name.table c.put.new.self (pairs_of c.next.new.self) c.in-Some.name.now.items c.in-Some.value.now distinct
    (next ∙ c.loop-name.invariant) put
