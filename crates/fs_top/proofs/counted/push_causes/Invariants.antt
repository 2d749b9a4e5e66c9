use Rattle.std.proofs.Common.{◌≡◌, ◌++◌, map, take}
use Rattle.std.specs.List.{concat}
use Rattle.fs_top.specs.Counted.{cause_line}
use Rattle.fs_top.proofs.counted.push_causes.Given as goal

-- the lines of the rows so far
abbrev pub invariant-loop-row : goal.invariant-loop-row
invariant-loop-row l =
    l.text.items ≡ l.fn.text.items ++ concat (map (cause_line l.counts) (map (λ row. row.0) (take l.row-index l.row-items)))
