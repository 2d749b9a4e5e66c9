use Rattle.std.proofs.Common.{◌≡◌, take}
use Rattle.fs_plan.specs.Building.{AreRead, expressions_of}
use Rattle.fs_plan.proofs.build.children.Given as goal

-- the children so far are built, and nothing was counted
abbrev pub invariant-loop-child : goal.invariant-loop-child
invariant-loop-child g l = record {
  built : l.built ≡ take l.child-index l.list;
  read : AreRead (expressions_of (take l.child-index l.list));
  sizes : g.P.Store.sizes l.patterns ≡ g.P.Store.sizes l.fn.patterns;
  counts : g.P.Store.counts l.patterns ≡ g.P.Store.counts l.fn.patterns;
  loads : g.P.Store.loads l.patterns ≡ g.P.Store.loads l.fn.patterns;
}
