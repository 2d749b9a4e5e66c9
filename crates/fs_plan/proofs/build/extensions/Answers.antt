use Rattle.std.proofs.Common.{arith, rules}
use Rattle.std.proofs.lemmas.Grind.{common_steps}
use Rattle.fs_plan.proofs.BuildLemmas.{extensions_more}
use Rattle.fs_plan.proofs.build.extensions.Goals as goal

pub loop-position-preserved : goal.loop-position-preserved
loop-position-preserved g c = record {
  built = grind (arith, common_steps);
  read =
      extensions_more c.args.before c.args.list.now c.loop-position.position c.index-list-position.result c.number_of-number.result
      c.as_slice.result.now (omega arith)
      c.index-list-position.is (omega arith) (search rules) c.in_ok-conditions.ensures.read c.loop-position.invariant.read;
  sizes = search rules;
  counts = search rules;
  loads = search rules;
}
