use Rattle.std.proofs.Common.{arith}
use Rattle.fs_text.specs.Cause.{all_causes}
use Rattle.fs_top.specs.Counted.{cause_line}
use Rattle.fs_top.proofs.CountLaws.{lines_on, lines_all}
use Rattle.fs_top.proofs.counted.push_causes.Goals as goal

pub loop-row-preserved : goal.loop-row-preserved
loop-row-preserved c =
    lines_on (cause_line c.args.counts.now) c.table-row-items.result.now c.loop-row.row-index _ _ _ _ c.loop-row-test.true c.loop-row.invariant
    (rw (c.name.ensures, c.hangups.ensures) at c.in_ok-push_count.ensures)

pub returns : goal.returns
returns c =
    lines_all (cause_line c.args.counts.now) c.table-row-items.result.now c.loop-row.row-index all_causes _ _ (omega (arith, c.loop-row-test.false))
    c.table-row-items.ensures.values c.loop-row.invariant
