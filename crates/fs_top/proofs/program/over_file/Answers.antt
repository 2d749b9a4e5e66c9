use Rattle.std.proofs.Common.{refl}
use Rattle.fs_top.specs.Runs.{library}
use Rattle.fs_top.specs.Reading.{asked_seen}
use Rattle.fs_top.proofs.RunLaws.{runs_got, runs_absent, runs_failed, runs_unloaded}
use Rattle.fs_top.proofs.program.over_file.Goals as goal

pub returns-in-Ok-Got : goal.returns-in-Ok-Got
returns-in-Ok-Got g c =
    let loaded = rw c.in-Ok-Got.field-0-is at c.in-Ok-Got.ensures in
    let files = c.load.new.self in
    runs_got (asked_seen c.args.asked) c.args.name.now c.in-Ok-Got.bytes _
    (library (g.F.Store.loads files) (g.F.Store.counts files) (g.F.Store.sizes files)) _ _ _ _ _ _ c.requires.named loaded.told loaded.rest
    loaded.counts c.load.ensures.sizes (rw c.as_bytes.ensures at c.over_bytes.ensures)

pub returns-in-Ok-Absent : goal.returns-in-Ok-Absent
returns-in-Ok-Absent g c =
    let loaded = rw c.in-Ok-Absent.field-0-is at c.in-Ok-Absent.ensures in
    runs_absent (asked_seen c.args.asked) c.args.name.now _ _ _ _ _ c.requires.named loaded.told loaded.rest loaded.counts
    c.load.ensures.sizes refl refl

pub returns-in-Ok-Failed : goal.returns-in-Ok-Failed
returns-in-Ok-Failed g c =
    let loaded = rw c.in-Ok-Failed.field-0-is at c.in-Ok-Failed.ensures in
    runs_failed (asked_seen c.args.asked) c.args.name.now _ _ _ _ _ c.requires.named loaded.told loaded.rest loaded.counts
    c.load.ensures.sizes refl refl

pub returns-in-Err : goal.returns-in-Err
returns-in-Err g c = runs_unloaded (asked_seen c.args.asked) _ _ _ _ c.load.ensures.sizes
