use Rattle.std.proofs.Common.{◌≡◌, take}
use Rattle.fs_plan.proofs.BuildLemmas.{before}
use Rattle.fs_plan.specs.Building.{HaveReadings, patterns_in}
use Rattle.fs_plan.proofs.build.contexts.Given as goal

-- the contexts so far are built, and nothing was counted
abbrev pub invariant-loop-given : goal.invariant-loop-given
invariant-loop-given g l = record {
  built : l.built ≡ take l.given-index l.list;
  read : HaveReadings (patterns_in (take l.given-index l.list));
  before : l.before ≡ before l.list l.given-index;
  sizes : g.P.Store.sizes l.patterns ≡ g.P.Store.sizes l.fn.patterns;
  counts : g.P.Store.counts l.patterns ≡ g.P.Store.counts l.fn.patterns;
  loads : g.P.Store.loads l.patterns ≡ g.P.Store.loads l.fn.patterns;
}
