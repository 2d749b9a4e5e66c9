use Rattle.std.proofs.Common.{◌∙◌, arith}
use Rattle.fs_ports.proofs.Sides.{writes_more, stops_here}
use Rattle.fs_ports.proofs.send.send_all.Goals as goal

pub loop-done-preserved : goal.loop-done-preserved
loop-done-preserved g c = record {
  within = omega (arith, c.in-Took.ensures.output.1);
  written = writes_more _ _ _ _ _ _ c.loop-done.invariant.written c.in-Took.ensures.output.2;
  input = c.write.ensures.input ∙ c.loop-done.invariant.input;
}

pub returns-in-Failed-clause-output : goal.returns-in-Failed-clause-output
returns-in-Failed-clause-output g c = stops_here _ _ _ _ _ c.loop-done.invariant.written c.in-Failed.ensures.output
