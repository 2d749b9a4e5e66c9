use Rattle.std.proofs.Common.{arith, rules}
use Rattle.std.proofs.lemmas.Grind.{common_steps}
use Rattle.fs_plan.proofs.BuildLemmas.{contexts_more, before_more}
use Rattle.fs_plan.proofs.build.contexts.Goals as goal

pub loop-given-preserved : goal.loop-given-preserved
loop-given-preserved g c = record {
  built = grind (arith, common_steps);
  read = contexts_more c.args.list.now c.loop-given.given-index c.given-item.result c.loop-given.before c.as_slice.result.now (omega arith)
      c.given-item.is c.loop-given.invariant.before (search rules) c.in_ok-extensions.ensures.read c.loop-given.invariant.read;
  before = search (rules, before_more);
  sizes = search rules;
  counts = search rules;
  loads = search rules;
}
