use Rattle.std.proofs.Common.{◌≡◌, take}
use Rattle.fs_plan.specs.Building.{HaveReadings, patterns_within}
use Rattle.fs_plan.proofs.build.conditions.Given as goal

-- the conditions so far are built, and nothing was counted
abbrev pub invariant-loop-position : goal.invariant-loop-position
invariant-loop-position g l = record {
  built : l.built ≡ take l.position l.list;
  read : HaveReadings (patterns_within l.extension (take l.position l.list));
  sizes : g.P.Store.sizes l.patterns ≡ g.P.Store.sizes l.fn.patterns;
  counts : g.P.Store.counts l.patterns ≡ g.P.Store.counts l.fn.patterns;
  loads : g.P.Store.loads l.patterns ≡ g.P.Store.loads l.fn.patterns;
}
