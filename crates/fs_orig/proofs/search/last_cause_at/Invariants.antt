use Rattle.std.proofs.Common.{◌≡◌, None, drop}
use Rattle.std.specs.List.{filter_map, last_or}
use Rattle.fs_orig.specs.Legs.{cause_at}
use Rattle.fs_orig.proofs.search.last_cause_at.Given as goal

abbrev pub invariant-loop-leg : goal.invariant-loop-leg
invariant-loop-leg l =
    last_or None (filter_map (cause_at l.place) l.legs) ≡ last_or l.last (filter_map (cause_at l.place) (drop l.leg-index l.legs))
