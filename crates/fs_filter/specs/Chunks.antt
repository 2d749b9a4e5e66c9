-- Elements in chunks.
use Rattle.std.specs.Prelude.{List}
use Rattle.std.specs.Arc.{arc_value}
use Rattle.std.specs.HashSet.{HashSet}
use Rattle.std.specs.List.{flat_map}
use Rattle.std.specs.declared.sync.Arc.{Arc}

-- what a chunk has
abbrev pub elements : {T S Z : Type 0} → Arc (HashSet T S) Z → List T
elements chunk = (arc_value chunk).keys

-- what chunks have, one behind another
abbrev pub joined : {T S Z : Type 0} → List (Arc (HashSet T S) Z) → List T
joined chunks = flat_map elements chunks
