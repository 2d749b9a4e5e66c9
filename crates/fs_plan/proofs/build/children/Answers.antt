use Rattle.std.proofs.Common.{arith, rules}
use Rattle.std.proofs.lemmas.Grind.{common_steps}
use Rattle.fs_plan.proofs.BuildLemmas.{children_more}
use Rattle.fs_plan.proofs.build.children.Goals as goal

pub loop-child-preserved : goal.loop-child-preserved
loop-child-preserved g c = record {
  built = grind (arith, common_steps);
  read =
      children_more c.args.list.now c.loop-child.child-index c.child-item.result
      (omega arith) c.child-item.is c.in_ok-expression.ensures.read c.loop-child.invariant.read;
  sizes = search rules;
  counts = search rules;
  loads = search rules;
}
