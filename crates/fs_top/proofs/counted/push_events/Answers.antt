use Rattle.std.proofs.Common.{arith}
use Rattle.fs_text.specs.EventName.{all_events}
use Rattle.fs_top.specs.Counted.{event_line}
use Rattle.fs_top.proofs.CountLaws.{lines_on, lines_all}
use Rattle.fs_top.proofs.counted.push_events.Goals as goal

pub loop-row-preserved : goal.loop-row-preserved
loop-row-preserved c =
    lines_on (event_line c.args.counts.now) c.table-row-items.result.now c.loop-row.row-index _ _ _ _ c.loop-row-test.true c.loop-row.invariant
    (rw (c.name.ensures, c.events.ensures) at c.in_ok-push_count.ensures)

pub returns : goal.returns
returns c =
    lines_all (event_line c.args.counts.now) c.table-row-items.result.now c.loop-row.row-index all_events _ _ (omega (arith, c.loop-row-test.false))
    c.table-row-items.ensures.values c.loop-row.invariant
