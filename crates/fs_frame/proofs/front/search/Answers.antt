use Rattle.std.proofs.lemmas.List.{take_rest}
use Rattle.fs_frame.proofs.ScanLaws.{searched_all}
use Rattle.fs_frame.proofs.front.search.Goals as goal

pub returns : goal.returns
returns c =
    searched_all c.args.bytes.now c.loop-line.scan c.loop-line.invariant
    (rw (take_rest c.args.bytes.now c.loop-line.scan.passed) at c.in_default.ensures)
