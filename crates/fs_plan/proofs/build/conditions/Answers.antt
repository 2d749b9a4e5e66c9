use Rattle.std.proofs.Common.{arith, rules}
use Rattle.std.proofs.lemmas.Grind.{common_steps}
use Rattle.fs_plan.proofs.BuildLemmas.{conditions_more}
use Rattle.fs_plan.proofs.build.conditions.Goals as goal

pub loop-position-preserved : goal.loop-position-preserved
loop-position-preserved g c = record {
  built = grind (arith, common_steps);
  read =
      conditions_more c.args.extension c.args.list.now c.loop-position.position c.index-list-position.result
      (omega arith) c.index-list-position.is c.in-Ok.ensures.read c.loop-position.invariant.read;
  sizes = search rules;
  counts = search rules;
  loads = search rules;
}
