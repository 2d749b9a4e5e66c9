use Rattle.std.proofs.Common.{[]}
use Rattle.fs_top.proofs.PartLaws.{parts_more, parts_stopped}
use Rattle.fs_top.proofs.lines.send_parts.Goals as goal

pub returns-in-Failed : goal.returns-in-Failed
returns-in-Failed g c =
    parts_stopped _ _ _ c.args.parts.now c.loop-part.part-index
    (record { ref_ptr = (0, 0); now = [] }) c.loop-part-test.true c.loop-part.invariant c.in-Failed.ensures.output

pub loop-part-preserved : goal.loop-part-preserved
loop-part-preserved g c =
    parts_more _ _ _ c.args.parts.now c.loop-part.part-index
    (record { ref_ptr = (0, 0); now = [] }) c.loop-part-test.true c.loop-part.invariant c.in-All.ensures.output
