use Rattle.std.proofs.Common.{sym}
use Rattle.fs_replay.proofs.ActLines.{entry_sound}
use Rattle.fs_replay.proofs.Faulty.{no_front, more_front, shorter, next_is_bad, block_is_cut}
use Rattle.fs_replay.proofs.reading.read_entries.Goals as goal

pub loop-alloc-init : goal.loop-alloc-init
loop-alloc-init c = rw c.new-journal.ensures (no_front c.args.bytes.now c.args.reader.now c.requires)

pub loop-alloc-preserved : goal.loop-alloc-preserved
loop-alloc-preserved c =
    let at = entry_sound c.loop-alloc.reader c.entry.new.self c.in-Ok.entry c.in-Ok.ensures in
    rw c.in_ok-push-in-Ok.ensures.ok
    (more_front c.args.bytes.now c.loop-alloc.reader c.entry.new.self c.loop-alloc.journal.entries c.in-Ok.entry c.loop-alloc.invariant at.text
    at.fit)

pub loop-alloc-smaller : goal.loop-alloc-smaller
loop-alloc-smaller c =
    let at = entry_sound c.loop-alloc.reader c.entry.new.self c.in-Ok.entry c.in-Ok.ensures in
    shorter c.loop-alloc.reader c.entry.new.self c.in-Ok.entry at.text

pub returns-in-Err-Bad-clause-bad : goal.returns-in-Err-Bad-clause-bad
returns-in-Err-Bad-clause-bad c =
    rw (c.bad_line.ensures, c.left-line.ensures)
    (next_is_bad c.args.bytes.now c.loop-alloc.reader c.loop-alloc.journal.entries c.loop-alloc.invariant (sym c.loop-alloc-test.ensures)
    (rw c.in-Err-Bad.field-0-is at c.in-Err-Bad.ensures))

pub returns-in-Err-Cut-clause-bad : goal.returns-in-Err-Cut-clause-bad
returns-in-Err-Cut-clause-bad c =
    rw c.cut_line.ensures
    (block_is_cut c.args.bytes.now c.loop-alloc.reader c.loop-alloc.journal.entries c.loop-alloc.invariant (sym c.loop-alloc-test.ensures)
    (rw c.in-Err-Cut.field-0-is at c.in-Err-Cut.ensures))

pub returns : goal.returns
returns c = record { front = c.loop-alloc.invariant; last = sym c.loop-alloc-test.ensures; bad = tt }
