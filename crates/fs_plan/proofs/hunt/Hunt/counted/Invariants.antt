use Rattle.std.proofs.Common.{◌≡◌, ◌≤◌, drop}
use Rattle.fs_plan.specs.Hunting.{children_counted, no_count}
use Rattle.fs_plan.proofs.hunt.Hunt.counted.Given as goal

-- the children that are left add to the count so far
abbrev pub invariant-loop-child : goal.invariant-loop-child
invariant-loop-child l = record {
  counted : children_counted l.profile (drop l.child-index l.children) l.self l.count
      ≡ children_counted l.profile l.children l.self no_count;
  few : l.count.matched ≤ l.child-index;
}
