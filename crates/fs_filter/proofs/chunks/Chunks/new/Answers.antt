use Rattle.std.proofs.Common.{sym, subst}
use Rattle.std.specs.List.{IsDistinct}
use Rattle.fs_filter.specs.Chunks.{joined}
use Rattle.fs_filter.proofs.chunks.Chunks.new.Goals as goal

pub invariant_of-result : goal.invariant_of-result
unfolding IsDistinct
invariant_of-result g c = subst (λ chunks. IsDistinct g.T.PartialEq.eq (joined chunks)) (sym c.new.ensures.items) tt
